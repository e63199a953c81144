use Rattle.std.proofs.Common.{rules, refl, sym, subst, arith, inl, inr, ap, ◌∙◌}
use Rattle.std.specs.Prelude.{slice_index_or}
use Rattle.cbm_medium.specs.Seen.{HasFailed}
use Rattle.cbm_machine.specs.Machines.{channel}
use Rattle.cbm_channel.specs.declared.channel.Channel as kept
use Rattle.cbm_channel.specs.ChannelCalls.{KeepsSlot}
use Rattle.cbm_channel.specs.Standing.{uses_of}
use Rattle.cbm_channel.specs.Going.{put_written}
use Rattle.cbm_channel.proofs.BytesPut.{IsPut}
use Rattle.cbm_channel.proofs.Stands.{borrowed_at, stood, stands_here, waits_here, use_at}
use Rattle.cbm_channel.proofs.Stores.{put_waits, put_stored, put_refused, put_cut, has_failed, renamed}
use Rattle.cbm_channel.proofs.Counted.{counted_else}
use Rattle.cbm_channel.proofs.Rest.{rest_seen}
use Rattle.cbm_channel.proofs.Spared.{slot_kept}
use Rattle.cbm_channel.proofs.dos.Dos.store.Goals as goal
use Rattle.cbm_channel.proofs.Goings.{keeps_call}
use Rattle.cbm_channel.proofs.GroundedReports.{answer_grounded}
use Rattle.cbm_channel.proofs.Changed.{set_now}
use Rattle.cbm_channel.proofs.BytesDone.{put_as, fault_told}

-- the byte is stored, or dropped
pub returns-in-Ok-true-clause-goes : goal.returns-in-Ok-true-clause-goes
returns-in-Ok-true-clause-goes g c = λ m s.
    let st = stood g.M.Medium.seen _ _ m c.self.view_is s in
    let at = stands_here _ _ _ _ _ _ m c.args.channel c.index_mut.result.now c.index_mut.ensures.value c.requires c.self.invariant st in
    let same = use_at c.index_mut.result.now _ m.channels c.args.channel _ (omega (arith, c.requires, c.self.invariant.count)) c.index_mut.ensures.value in
    let put = (c.in-Ok-true.ensures.call m.disk (uses_of c.self.inside.channels.items m.channels) c.args.channel (channel m c.args.channel) st.holds same at).done in
    let done = subst (λ b. IsPut (g.M.Medium.seen c.self.inside.volume).tracks (g.M.Medium.seen c.put.new.volume).content m.disk (uses_of c.self.inside.channels.items m.channels) c.args.channel c.put.new.self (channel m c.args.channel) c.args.byte b) c.in-Ok-true.field-0-test put in
    let waits = put_waits c.args.byte m.disk c.index_mut.result.now c.put.new.self (channel m c.args.channel) at done.1 (λ e. (c.in-Ok-true.ensures.quiet e).1) (waits_here _ _ _ _ _ _ m c.args.channel c.index_mut.result.now c.index_mut.ensures.value c.requires c.self.invariant st) in (
      put_written c.args.channel c.args.byte m,
      inl refl,
      renamed _ _ _ _ _ _ _ _ _ c.put.ensures.only.tracks c.put.ensures.only.protected (put_stored _ _ _ _ _ _ m c.args.channel c.requires c.self.invariant st _ c.args.byte _ done waits),
    )

-- no block is free for it
pub returns-in-Ok-false-clause-goes : goal.returns-in-Ok-false-clause-goes
returns-in-Ok-false-clause-goes g c = λ m s.
    let st = stood g.M.Medium.seen _ _ m c.self.view_is s in
    let at = stands_here _ _ _ _ _ _ m c.args.channel c.index_mut.result.now c.index_mut.ensures.value c.requires c.self.invariant st in
    let same = use_at c.index_mut.result.now _ m.channels c.args.channel _ (omega (arith, c.requires, c.self.invariant.count)) c.index_mut.ensures.value in
    let put = (c.in-Ok-false.ensures.call m.disk (uses_of c.self.inside.channels.items m.channels) c.args.channel (channel m c.args.channel) st.holds same at).done in
    let done = subst (λ b. IsPut (g.M.Medium.seen c.self.inside.volume).tracks (g.M.Medium.seen c.put.new.volume).content m.disk (uses_of c.self.inside.channels.items m.channels) c.args.channel c.put.new.self (channel m c.args.channel) c.args.byte b) c.in-Ok-false.field-0-test put in
    let waits = put_waits c.args.byte m.disk c.index_mut.result.now c.put.new.self (channel m c.args.channel) at done.1 (λ e. (c.in-Ok-false.ensures.quiet e).1) (waits_here _ _ _ _ _ _ m c.args.channel c.index_mut.result.now c.index_mut.ensures.value c.requires c.self.invariant st) in
    let next = put_refused _ _ _ _ _ _ m c.args.channel c.requires c.self.invariant st _ c.args.byte _ done waits in (
      _,
      inl (sym next.1),
      c.say.ensures.leads next.0 (renamed _ _ _ _ _ _ _ _ _ c.put.ensures.only.tracks c.put.ensures.only.protected next.2),
    )

-- a write was refused
pub returns-in-Err-clause-goes : goal.returns-in-Err-clause-goes
returns-in-Err-clause-goes g c = λ m s.
    let st = stood g.M.Medium.seen _ _ m c.self.view_is s in
    let at = stands_here _ _ _ _ _ _ m c.args.channel c.index_mut.result.now c.index_mut.ensures.value c.requires c.self.invariant st in
    let same = use_at c.index_mut.result.now _ m.channels c.args.channel _ (omega (arith, c.requires, c.self.invariant.count)) c.index_mut.ensures.value in
    let cut = (c.in-Err.ensures.call m.disk (uses_of c.self.inside.channels.items m.channels) c.args.channel (channel m c.args.channel) st.holds same at).stopped in
    let next = put_cut _ _ _ _ _ _ m c.args.channel c.requires c.self.invariant st _ _ cut.0 cut.1 in
    let failed = has_failed _ _ _ c.args.channel cut.0.slot (g.M.Medium.seen c.self.inside.volume) (g.M.Medium.seen c.put.new.volume) c.in-Err.trouble st.orderly st.same_protection cut.0.bytes cut.0.blocks cut.0.full cut.0.replaces cut.0.wrote
    (c.in-Err.ensures.call m.disk (uses_of c.self.inside.channels.items m.channels) c.args.channel (channel m c.args.channel) st.holds same at).cause in
    let moved = subst (λ k. HasFailed (g.M.Medium.seen k.medium) (g.M.Medium.seen c.set.new.self.medium)) c.self.view_is (subst (λ v. HasFailed (g.M.Medium.seen c.self.inside.volume) (g.M.Medium.seen v)) (sym c.set.ensures.medium) failed) in (
      _,
      inr (moved, next.1 _ c.in-Err.trouble c.from.result c.from.ensures),
      c.set.ensures.leads next.0 (renamed _ _ _ _ _ _ _ _ _ c.put.ensures.only.tracks c.put.ensures.only.protected next.2),
    )

-- ---- what it leaves, on any disk

pub returns-in-Err-clause-leaves : goal.returns-in-Err-clause-leaves
returns-in-Err-clause-leaves g c = record {
  medium = keeps_call g.M.Medium.seen c.args.self.now.medium c.set.new.self.medium c.self.inside.volume c.put.new.volume c.put.result (ap (λ k. k.medium) c.self.view_is) c.set.ensures.medium c.put.ensures.only;
  rest = λ m s.
      let st = stood g.M.Medium.seen _ _ m c.self.view_is s in
      let at = stands_here _ _ _ _ _ _ m c.args.channel c.index_mut.result.now c.index_mut.ensures.value c.requires c.self.invariant st in
      let same = use_at c.index_mut.result.now _ m.channels c.args.channel _ (omega (arith, c.requires, c.self.invariant.count)) c.index_mut.ensures.value in
      rest_seen g.M.Medium.seen c.args.self.now.medium c.set.new.self.medium c.self.inside.volume c.put.new.volume (ap (λ k. k.medium) c.self.view_is) c.set.ensures.medium ((c.put.ensures.call m.disk (uses_of c.self.inside.channels.items m.channels) c.args.channel (channel m c.args.channel) st.holds same at).rest);
  counted = counted_else g.M.Medium.seen c.args.self.now c.set.new.self c.self.inside.volume c.put.new.volume (ap (λ k. k.medium) c.self.view_is) c.set.ensures.medium c.put.result c.in-Err.trouble c.in-Err.is c.put.ensures.only (ap (λ x. x.status) c.set.ensures.told ∙ c.from.ensures);
  grounded = inr (answer_grounded g.M.Medium.seen c.args.self.now c.set.new.self c.self.inside.volume c.put.new.volume (ap (λ k. k.medium) c.self.view_is) c.set.ensures.medium c.put.result c.in-Err.trouble c.in-Err.is c.put.ensures.only (ap (λ x. x.status) c.set.ensures.told ∙ c.from.ensures));
}

pub returns-in-Ok-true-clause-leaves : goal.returns-in-Ok-true-clause-leaves
returns-in-Ok-true-clause-leaves g c = record {
  medium = (search rules);
  rest = λ m s.
      let st = stood g.M.Medium.seen _ _ m c.self.view_is s in
      let at = stands_here _ _ _ _ _ _ m c.args.channel c.index_mut.result.now c.index_mut.ensures.value c.requires c.self.invariant st in
      let same = use_at c.index_mut.result.now _ m.channels c.args.channel _ (omega (arith, c.requires, c.self.invariant.count)) c.index_mut.ensures.value in
      rest_seen g.M.Medium.seen c.args.self.now.medium c.put.new.volume c.self.inside.volume c.put.new.volume (ap (λ k. k.medium) c.self.view_is) refl ((c.put.ensures.call m.disk (uses_of c.self.inside.channels.items m.channels) c.args.channel (channel m c.args.channel) st.holds same at).rest);
  counted = (search rules);
  grounded = (search rules);
}

pub returns-in-Ok-false-clause-leaves : goal.returns-in-Ok-false-clause-leaves
returns-in-Ok-false-clause-leaves g c = record {
  medium = (search rules);
  rest = λ m s.
      let st = stood g.M.Medium.seen _ _ m c.self.view_is s in
      let at = stands_here _ _ _ _ _ _ m c.args.channel c.index_mut.result.now c.index_mut.ensures.value c.requires c.self.invariant st in
      let same = use_at c.index_mut.result.now _ m.channels c.args.channel _ (omega (arith, c.requires, c.self.invariant.count)) c.index_mut.ensures.value in
      rest_seen g.M.Medium.seen c.args.self.now.medium c.say.new.self.medium c.self.inside.volume c.put.new.volume (ap (λ k. k.medium) c.self.view_is) c.say.ensures.medium ((c.put.ensures.call m.disk (uses_of c.self.inside.channels.items m.channels) c.args.channel (channel m c.args.channel) st.holds same at).rest);
  counted = (search rules);
  grounded = (search rules);
}

-- ---- the slot

pub returns-in-Ok-true-clause-slot : goal.returns-in-Ok-true-clause-slot
returns-in-Ok-true-clause-slot g c =
    slot_kept c.args.channel c.args.self.now.channels _ c.self.inside.channels.items c.index_mut.result.now c.put.new.self (ap (λ k. k.channels) c.self.view_is) (omega (arith, c.requires, c.self.invariant.count)) refl (subst (λ (y : kept.Channel). KeepsSlot y c.put.new.self) c.index_mut.ensures.value c.put.ensures.slot)

pub returns-in-Ok-false-clause-slot : goal.returns-in-Ok-false-clause-slot
returns-in-Ok-false-clause-slot g c =
    slot_kept c.args.channel c.args.self.now.channels _ c.self.inside.channels.items c.index_mut.result.now c.put.new.self (ap (λ k. k.channels) c.self.view_is) (omega (arith, c.requires, c.self.invariant.count)) c.say.ensures.channels (subst (λ (y : kept.Channel). KeepsSlot y c.put.new.self) c.index_mut.ensures.value c.put.ensures.slot)

pub returns-in-Err-clause-slot : goal.returns-in-Err-clause-slot
returns-in-Err-clause-slot g c =
    slot_kept c.args.channel c.args.self.now.channels _ c.self.inside.channels.items c.index_mut.result.now c.put.new.self (ap (λ k. k.channels) c.self.view_is) (omega (arith, c.requires, c.self.invariant.count)) c.set.ensures.channels (subst (λ (y : kept.Channel). KeepsSlot y c.put.new.self) c.index_mut.ensures.value c.put.ensures.slot)

-- ---- the byte, on any disk

pub returns-in-Ok-true-clause-done : goal.returns-in-Ok-true-clause-done
returns-in-Ok-true-clause-done g c = inl (
  ap (λ k. k.told) c.self.view_is,
  put_as (g.M.Medium.seen c.self.inside.volume) (g.M.Medium.seen c.args.self.now.medium) (g.M.Medium.seen c.put.new.volume) (g.M.Medium.seen c.put.new.volume) c.args.byte _ _ _ _ _ _ (ap (λ k. g.M.Medium.seen k.medium) c.self.view_is) refl
      (c.index_mut.ensures.value ∙ borrowed_at c.args.channel c.index_mut.result.now (ap (λ k. k.channels) c.self.view_is) (omega (arith, c.requires, c.self.invariant.count)))
      (sym (set_now c.self.inside.channels.items _ c.args.channel c.put.new.self refl (omega (arith, c.requires, c.self.invariant.count))))
      c.in-Ok-true.field-0-test c.in-Ok-true.ensures.led,
)

pub returns-in-Ok-false-clause-done : goal.returns-in-Ok-false-clause-done
returns-in-Ok-false-clause-done g c = inr (inl (
  c.say.ensures.told,
  put_as (g.M.Medium.seen c.self.inside.volume) (g.M.Medium.seen c.args.self.now.medium) (g.M.Medium.seen c.put.new.volume) (g.M.Medium.seen c.say.new.self.medium) c.args.byte _ _ _ _ _ _ (ap (λ k. g.M.Medium.seen k.medium) c.self.view_is) (ap g.M.Medium.seen (sym c.say.ensures.medium))
      (c.index_mut.ensures.value ∙ borrowed_at c.args.channel c.index_mut.result.now (ap (λ k. k.channels) c.self.view_is) (omega (arith, c.requires, c.self.invariant.count)))
      (sym (set_now c.self.inside.channels.items _ c.args.channel c.put.new.self c.say.ensures.channels (omega (arith, c.requires, c.self.invariant.count))))
      c.in-Ok-false.field-0-test c.in-Ok-false.ensures.led,
))

pub returns-in-Err-clause-done : goal.returns-in-Err-clause-done
returns-in-Err-clause-done g c = inr (inr (fault_told g.M.Medium.seen c.args.self.now c.set.new.self c.self.inside.volume c.put.new.volume c.put.result c.in-Err.trouble c.from.result (ap (λ k. k.medium) c.self.view_is) c.set.ensures.medium c.in-Err.is c.from.ensures c.set.ensures.told c.put.ensures.only))
