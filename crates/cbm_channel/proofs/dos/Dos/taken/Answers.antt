use Rattle.std.proofs.Common.{rules, ◌≡◌, ◌<◌, Some, false, true, length, refl, sym, ap, subst, ◌∙◌, arith}
use Rattle.std.specs.Prelude.{slice_index_or}
use Rattle.cbm_machine.specs.Machines.{channel}
use Rattle.cbm_machine.specs.Talking.{taken}
use Rattle.cbm_channel.specs.Grounds.{HidesRecords}
use Rattle.cbm_channel.specs.Shown.{has_records, shown_by}
use Rattle.cbm_channel.specs.declared.channel.Channel as kept
use Rattle.cbm_channel.specs.Taken.{IsTakenBy}
use Rattle.cbm_channel.specs.Standing.{SameBut, Kept, uses_of}
use Rattle.cbm_channel.proofs.Changed.{others_set, fit_set}
use Rattle.cbm_channel.proofs.HiddenRecords.{told_hidden}
use Rattle.cbm_channel.proofs.Asked.{below_15, taken_other}
use Rattle.cbm_channel.proofs.Stands.{borrowed_at, with_one, told_on, means_of, stands_here, waits_here, use_at, moved, stood, not_ok}
use Rattle.cbm_channel.proofs.Nexts.{more_of, more_told}
use Rattle.cbm_channel.proofs.Places.{taken_fits_in}
use Rattle.cbm_channel.proofs.dos.Dos.taken.Goals as goal

pub returns-then-channel-eq15-clause-leads : goal.returns-then-channel-eq15-clause-leads
returns-then-channel-eq15-clause-leads g c = λ m s.
    let st = stood g.M.Medium.seen _ _ m c.self.view_is s in
    moved _ _ _ _ _ _ _ _ (ap (λ k. taken k m) c.if-channel-eq15.true) (told_on _ _ _ _ _ _ m _ c.taken.ensures st)

pub returns-in-Err-clause-leads : goal.returns-in-Err-clause-leads
returns-in-Err-clause-leads g c = λ m s.
    let st = stood g.M.Medium.seen _ _ m c.self.view_is s in
    let lt : c.args.channel < 15 = omega (arith, c.requires, c.if-channel-eq15.false) in
    let at = stands_here _ _ _ _ _ _ m c.args.channel c.index_mut.result.now c.index_mut.ensures.value lt c.self.invariant st in
    let waits = waits_here _ _ _ _ _ _ m c.args.channel c.index_mut.result.now c.index_mut.ensures.value lt c.self.invariant st in
    let same = use_at c.index_mut.result.now _ m.channels c.args.channel _ (omega (arith, lt, c.self.invariant.count)) c.index_mut.ensures.value in
    absurd (not_ok c.in-Err.trouble c.taken-2.result c.in-Err.is (c.taken-2.ensures.well m.disk (uses_of c.self.inside.channels.items m.channels) c.args.channel (channel m c.args.channel) st.holds same at waits).0)

pub returns-in_default-clause-leads : goal.returns-in_default-clause-leads
returns-in_default-clause-leads g c = λ m s.
    let st = stood g.M.Medium.seen _ _ m c.self.view_is s in
    let lt : c.args.channel < 15 = omega (arith, c.requires, c.if-channel-eq15.false) in
    let at = stands_here _ _ _ _ _ _ m c.args.channel c.index_mut.result.now c.index_mut.ensures.value lt c.self.invariant st in
    let waits = waits_here _ _ _ _ _ _ m c.args.channel c.index_mut.result.now c.index_mut.ensures.value lt c.self.invariant st in
    let same = use_at c.index_mut.result.now _ m.channels c.args.channel _ (omega (arith, lt, c.self.invariant.count)) c.index_mut.ensures.value in
    let well = c.taken-2.ensures.well m.disk (uses_of c.self.inside.channels.items m.channels) c.args.channel (channel m c.args.channel) st.holds same at waits in
    moved _ _ _ _ _ _ _ _ (taken_other c.args.channel m _ (below_15 c.args.channel lt) at)
    (with_one _ _ _ _ _ _ m c.args.channel _ _ lt c.self.invariant well.1 well.2 well.3
    (taken_fits_in _ _ m.disk m.protected m.channels c.args.channel (channel m c.args.channel) (means_of _ _ _ _ _ _ m st) refl st.orderly) st)

pub returns-then-channel-eq15-clause-next : goal.returns-then-channel-eq15-clause-next
returns-then-channel-eq15-clause-next g c = λ n e.
    more_told c.self.inside.channels.items c.args.channel n c.self.inside.telling _ c.if-channel-eq15.true c.taken.ensures (subst (λ (k : Kept _). shown_by c.args.channel k ≡ Some (n, false)) (sym c.self.view_is) e)

-- the trouble is told, and the byte before it waits
pub returns-in-Err-clause-next : goal.returns-in-Err-clause-next
returns-in-Err-clause-next g c = λ n e.
    more_of _ _ c.self.inside.channels.items c.set.new.self.channels c.args.channel n c.index_mut.result.now _ c.self.inside.telling c.set.new.self.told _ c.set.ensures.channels (omega (arith, c.requires, c.if-channel-eq15.false)) c.self.invariant.count
    c.taken-2.ensures.fits (subst (λ (y : kept.Channel). IsTakenBy (g.M.Medium.seen c.self.inside.volume).content y c.taken-2.new.self c.taken-2.result) c.index_mut.ensures.value c.taken-2.ensures.taken) (subst (λ (k : Kept _). shown_by c.args.channel k ≡ Some (n, false)) (sym c.self.view_is) e)

pub returns-in_default-clause-next : goal.returns-in_default-clause-next
returns-in_default-clause-next g c = λ n e.
    more_of _ _ c.self.inside.channels.items _ c.args.channel n c.index_mut.result.now c.taken-2.new.self c.self.inside.telling c.self.inside.telling _ refl (omega (arith, c.requires, c.if-channel-eq15.false)) c.self.invariant.count
    c.taken-2.ensures.fits (subst (λ (y : kept.Channel). IsTakenBy (g.M.Medium.seen c.self.inside.volume).content y c.taken-2.new.self c.taken-2.result) c.index_mut.ensures.value c.taken-2.ensures.taken) (subst (λ (k : Kept _). shown_by c.args.channel k ≡ Some (n, false)) (sym c.self.view_is) e)

pub invariant_of-self-in-Err : goal.invariant_of-self-in-Err
invariant_of-self-in-Err g c =
    fit_set _ c.self.inside.channels.items c.args.channel c.taken-2.new.self c.self.invariant c.taken-2.ensures.fits (omega (arith, c.requires, c.if-channel-eq15.false, c.self.invariant.count))

-- the record's trouble is reported
pub returns-in-Err-clause-takes : goal.returns-in-Err-clause-takes
returns-in-Err-clause-takes g c = record {
  status = (search rules);
  others = subst (λ (k : Kept _). SameBut c.args.channel k.channels c.set.new.self.channels) c.self.view_is (others_set c.self.inside.channels.items c.set.new.self.channels c.args.channel c.taken-2.new.self c.set.ensures.channels);
  ground = λ lt rel.
      let inside : c.args.channel < length c.self.inside.channels.items = omega (arith, lt, c.self.invariant.count) in
      let records : has_records c.index_mut.result.now ≡ true =
      ap has_records (c.index_mut.ensures.value ∙ borrowed_at c.args.channel c.index_mut.result.now (ap (λ k. k.channels) c.self.view_is) inside) ∙ rel in
      told_hidden g.M.Medium.seen c.args.self.now c.set.new.self c.in-Err.trouble (c.set.ensures.told ∙ ap (λ s. record { status = s; told = 0 }) c.from.ensures)
      (subst (λ (k : Kept _). HidesRecords (g.M.Medium.seen k.medium) c.in-Err.trouble) c.self.view_is (c.in-Err.ensures.cause records));
}
