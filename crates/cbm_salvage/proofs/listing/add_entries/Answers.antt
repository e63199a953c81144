use Rattle.std.proofs.Common.{rules, ◌≡◌, ◌∷◌, ◌++◌, []}
use Rattle.cbm_salvage.proofs.TrailLemmas.{entry_more, entries_done}
use Rattle.cbm_salvage.proofs.listing.add_entries.Goals as goal

pub loop-number-preserved : goal.loop-number-preserved
loop-number-preserved c =
    let pushed : c.push.new.self.items ≡ c.loop-number.entries.items ++ c.of.result ∷ [] = search rules in
    entry_more c.args.sector.now c.loop-number.number c.args.entries.now.items c.loop-number.entries.items c.push.new.self.items c.of.result c.loop-number-test.true c.loop-number.invariant c.of.ensures pushed

pub returns : goal.returns
returns c = entries_done c.args.sector.now c.loop-number.number c.args.entries.now.items c.loop-number.entries.items c.loop-number-test.false c.loop-number.invariant
