use Rattle.std.proofs.Common.{rules, ◌<◌, ◌≤◌, length, sym, ap, ◌∙◌, subst, arith, refl, inr}
use Rattle.std.specs.Prelude.{slice_index_or}
use Rattle.cbm_machine.specs.Machines.{channel, with_channel, say}
use Rattle.cbm_channel.specs.Moved.{placed_on}
use Rattle.cbm_channel.specs.Grounds.{HasGround}
use Rattle.cbm_channel.specs.declared.channel.Channel as kept
use Rattle.cbm_channel.specs.Standing.{SameBut, HaveSameFiles, IsSameFile, uses_of}
use Rattle.cbm_channel.proofs.Changed.{others_set, have_same, fit_set}
use Rattle.cbm_channel.proofs.Troubles.{record_broken}
use Rattle.cbm_channel.proofs.Asked.{below_15, place_none}
use Rattle.cbm_channel.proofs.Places.{placed_fits, place_is}
use Rattle.cbm_channel.proofs.Stands.{stands_here, waits_here, use_at, with_one, closed_past, zip_length, moved, stood}
use Rattle.cbm_channel.proofs.dos.Dos.place.Goals as goal

pub returns-then-channel-channels-clause-leads : goal.returns-then-channel-channels-clause-leads
returns-then-channel-channels-clause-leads g c = λ some first m s.
    let st = stood g.M.Medium.seen _ _ m c.self.view_is s in
    let far : 15 ≤ c.args.channel = omega (arith, c.if-channel-channels.true, ap length c.as_slice-channels.ensures.value, c.self.invariant.count) in
    moved _ _ _ _ _ _ _ _ (place_none c.args.channel c.args.number c.args.position m far (closed_past _ _ _ _ _ _ m c.args.channel far c.self.invariant st)) (c.say.ensures.leads m s)

pub returns-in-Ok-clause-leads : goal.returns-in-Ok-clause-leads
returns-in-Ok-clause-leads g c = λ some first m s.
    let st = stood g.M.Medium.seen _ _ m c.self.view_is s in
    let lt : c.args.channel < 15 = omega (arith, c.if-channel-channels.false, ap length c.as_slice-channels.ensures.value, c.self.invariant.count) in
    let at = stands_here _ _ _ _ _ _ m c.args.channel c.index_mut.result.now c.index_mut.ensures.value lt c.self.invariant st in
    let waits = waits_here _ _ _ _ _ _ m c.args.channel c.index_mut.result.now c.index_mut.ensures.value lt c.self.invariant st in
    let same = use_at c.index_mut.result.now _ m.channels c.args.channel _ (omega (arith, lt, c.self.invariant.count)) c.index_mut.ensures.value in
    let well = c.in-Ok.ensures.well m.disk (uses_of c.self.inside.channels.items m.channels) c.args.channel (channel m c.args.channel) st.holds same at waits in
    let more : c.args.channel < length m.channels = omega (arith, lt, c.self.invariant.count, zip_length c.self.inside.channels.items m.channels st.each) in
    let next = with_channel c.args.channel (placed_on c.args.number c.args.position m.disk (channel m c.args.channel)) m in
    moved _ _ _ _ _ _ _ _ (place_is c.args.channel c.args.number c.args.position m (below_15 c.args.channel lt) more ∙ ap (λ code. say code next) (sym well.0))
    (c.say-in-Ok.ensures.leads next (with_one _ _ _ _ _ _ m c.args.channel _ _ lt c.self.invariant well.1 well.2 well.3
    (placed_fits c.args.number c.args.position m.disk m.protected m.channels c.args.channel (channel m c.args.channel) refl some first st.orderly) st))

-- on a sound disk each record reads
pub returns-in-Err-clause-leads : goal.returns-in-Err-clause-leads
returns-in-Err-clause-leads g c = λ some first m s.
    let st = stood g.M.Medium.seen _ _ m c.self.view_is s in
    let lt : c.args.channel < 15 = omega (arith, c.if-channel-channels.false, ap length c.as_slice-channels.ensures.value, c.self.invariant.count) in
    let at = stands_here _ _ _ _ _ _ m c.args.channel c.index_mut.result.now c.index_mut.ensures.value lt c.self.invariant st in
    let waits = waits_here _ _ _ _ _ _ m c.args.channel c.index_mut.result.now c.index_mut.ensures.value lt c.self.invariant st in
    let same = use_at c.index_mut.result.now _ m.channels c.args.channel _ (omega (arith, lt, c.self.invariant.count)) c.index_mut.ensures.value in
    absurd (c.in-Err.ensures.well m.disk (uses_of c.self.inside.channels.items m.channels) c.args.channel (channel m c.args.channel) st.holds same at waits).0

-- ---- on any disk

pub invariant_of-self-in-Err : goal.invariant_of-self-in-Err
invariant_of-self-in-Err g c =
    let lt : c.args.channel < 15 = omega (arith, c.if-channel-channels.false, ap length c.as_slice-channels.ensures.value, c.self.invariant.count) in
    fit_set _ c.self.inside.channels.items c.args.channel c.place.new.self c.self.invariant c.place.ensures.file.fits (omega (arith, lt, c.self.invariant.count))

pub returns-in-Err-clause-moves : goal.returns-in-Err-clause-moves
returns-in-Err-clause-moves g c = record {
  channels = let lt : c.args.channel < 15 = omega (arith, c.if-channel-channels.false, ap length c.as_slice-channels.ensures.value, c.self.invariant.count) in
      subst (λ k. HaveSameFiles k.channels c.set.new.self.channels) c.self.view_is
      (have_same c.self.inside.channels.items c.set.new.self.channels c.args.channel c.place.new.self c.index_mut.result.now c.set.ensures.channels (omega (arith, lt, c.self.invariant.count)) (subst (λ (y : kept.Channel). IsSameFile y c.place.new.self) c.index_mut.ensures.value c.place.ensures.file.same));
  others = subst (λ k. SameBut c.args.channel k.channels c.set.new.self.channels) c.self.view_is (others_set c.self.inside.channels.items c.set.new.self.channels c.args.channel c.place.new.self c.set.ensures.channels);
}

pub returns-in-Err-clause-tells : goal.returns-in-Err-clause-tells
returns-in-Err-clause-tells g c = (
  subst (λ k. HasGround g.M.Medium.seen k.medium c.set.new.self.told.status) c.self.view_is
      (subst (λ t. HasGround g.M.Medium.seen c.self.inside.volume t.status) (sym c.set.ensures.told)
      (inr (inr (c.in-Err.trouble, c.from.ensures, record_broken (g.M.Medium.seen c.self.inside.volume) c.in-Err.trouble c.in-Err.ensures.cause)))),
  (search rules),
)
