use Rattle.std.proofs.Common.{rules, ◌≡◌, ◌∷◌, ◌++◌, []}
use Rattle.cbm_salvage.proofs.TrailLemmas.{one_sector_more, entries_more}
use Rattle.cbm_salvage.proofs.listing.listed_of.Goals as goal

pub sectors-preserved : goal.sectors-preserved
sectors-preserved g c =
    let content = (g.M.Medium.seen c.args.medium.now).content in
    let pushed : c.push.new.self.items ≡ c.sectors.sectors.items ++ c.in-Some.step.at ∷ [] = search rules in
    record {
      inside = search rules;
      whole = one_sector_more _ _ _ c.sectors.sectors.items c.push.new.self.items c.in-Some.step.at c.sectors.invariant.whole c.in-Some.ensures.gives.0 pushed;
      entries = entries_more content c.sectors.sectors.items c.push.new.self.items c.in-Some.step.at c.in-Some.step.bytes c.sectors.entries.items c.add_entries.new.entries.items
          c.sectors.invariant.entries pushed c.in-Some.ensures.gives.1 c.in_ok-add_entries.ensures;
    }
