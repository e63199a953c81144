use Rattle.std.proofs.Common.{Ok, length, sym, ap, subst, ◌∙◌, arith, ◌≢◌, refl}
use Rattle.cbm_medium.specs.Seen.{Seen}
use Rattle.cbm_volume.specs.Opens.{IsHindered}
use Rattle.std.specs.Prelude.{◌==◌, slice_index_or}
use Rattle.cbm_channel.specs.Commanded.{all_scratched, is_slot_among}
use Rattle.cbm_channel.specs.Standing.{uses_of}
use Rattle.cbm_channel.proofs.Elses.{only_else, else_nothing, else_more}
use Rattle.cbm_channel.proofs.DiskSteps.{refused_then, fits_same}
use Rattle.cbm_channel.proofs.Opens.{on_err, failed_by}
use Rattle.cbm_channel.proofs.Scratches.{IsClearing, clearing_first, clearing_next, clearing_stopped, clearing_hindered, clearing_done, next_left}
use Rattle.cbm_channel.specs.Meant.{ScratchesEach}
use Rattle.cbm_channel.proofs.Cleared.{each_next, each_done}
use Rattle.cbm_channel.proofs.Goings.{late}
use Rattle.cbm_channel.proofs.Troubles.{passed_on}
use Rattle.cbm_file.specs.Files.{file_at}
use Rattle.cbm_channel.specs.ChannelCalls.{KeepsRest}
use Rattle.cbm_channel.proofs.Rest.{rest_itself, rest_then, change_rest, scratched_total}
use Rattle.cbm_channel.proofs.Spared.{not_among}
use Rattle.cbm_channel.proofs.dos.Dos.clear.Goals as goal

pub slots-init : goal.slots-init
slots-init g c =
    let old = c.args.self.now in
    let vol = ap (λ k. k.medium) c.self.view_is in (
      (λ m st can. subst (λ x. IsClearing (g.M.Medium.seen old.medium).tracks (g.M.Medium.seen x).content (uses_of old.channels m.channels) m.disk (all_scratched m.disk c.args.slots.now) c.args.slots.now) (sym vol)
          (clearing_first _ _ _ m.disk c.args.slots.now st.holds can)),
      else_nothing (Ok tt) _ _ (ap g.M.Medium.seen vol) tt tt,
      c.self.view_is ∙ ap (λ v. record old { medium = v }) (sym vol),
      (λ m st can. rest_itself _ _ (ap g.M.Medium.seen vol)),
      (λ z k. subst (λ v. ScratchesEach (g.M.Medium.seen v) z c.args.slots.now) vol k),
    )

pub invariant_of-self : goal.invariant_of-self
invariant_of-self g c =
    let vol = ap (λ k. k.medium) c.self.view_is in
    fits_same _ _ _ _ (c.slots.invariant.1.tracks ∙ sym (ap (λ x. (g.M.Medium.seen x).tracks) vol)) (ap (λ k. k.channels) c.slots.invariant.2 ∙ sym (ap (λ k. k.channels) c.self.view_is)) c.self.invariant

pub invariant_of-self-in_err-scratch : goal.invariant_of-self-in_err-scratch
invariant_of-self-in_err-scratch g c =
    let vol = ap (λ k. k.medium) c.self.view_is in
    fits_same _ _ _ _ (c.in_err-scratch.ensures.only.tracks ∙ c.slots.invariant.1.tracks ∙ sym (ap (λ x. (g.M.Medium.seen x).tracks) vol)) (ap (λ k. k.channels) c.slots.invariant.2 ∙ sym (ap (λ k. k.channels) c.self.view_is)) c.self.invariant

pub returns-in_err-scratch-clause-stopped : goal.returns-in_err-scratch-clause-stopped
returns-in_err-scratch-clause-stopped g c = λ m st can unprotected.
    let old = c.args.self.now in
    let mid : Seen = g.M.Medium.seen c.slots.self-inside.volume in
    let new : Seen = g.M.Medium.seen c.scratch.new.self in
    let uses = uses_of old.channels m.channels in
    let h = next_left _ _ _ m.disk (all_scratched m.disk c.args.slots.now) c.args.slots.now c.slots.slot-index c.slots-test.true (c.slots.invariant.0 m st can) in
    on_err c.from_residual.result _ (
      clearing_stopped _ _ new.content uses m.disk (all_scratched m.disk c.args.slots.now) _ _ h mid.tracks c.slots.invariant.1.tracks (λ d us f h at unused. (c.in_err-scratch.ensures.call d us h f at unused).stopped),
      late (g.M.Medium.seen old.medium) mid new c.slots.invariant.1.counted (failed_by mid new c.in_err-scratch.field-0.0 m.protected (st.same_protection ∙ sym c.slots.invariant.1.protected) (unprotected (λ e. omega (arith, c.slots-test.true, ap length e)))
          (clearing_hindered _ _ new.content uses m.disk (all_scratched m.disk c.args.slots.now) _ _ h mid.tracks (IsHindered mid new c.in_err-scratch.field-0.0) c.slots.invariant.1.tracks (λ d us f h at unused. (c.in_err-scratch.ensures.call d us h f at unused).cause))),
    )

pub returns-in_err-scratch-clause-only : goal.returns-in_err-scratch-clause-only
returns-in_err-scratch-clause-only g c = record {
  rest = (λ i. record (c.slots.invariant.2 i) { medium = c.scratch.new.self });
  count = (invariant_of-self-in_err-scratch g c).count;
}

pub returns-in_err-scratch-clause-medium : goal.returns-in_err-scratch-clause-medium
returns-in_err-scratch-clause-medium g c = refused_then c.in_err-scratch.field-0.0 c.from_residual.result _ _ _ c.from_residual.ensures.1 c.slots.invariant.1 (only_else _ _ _ c.in_err-scratch.ensures.only)

pub slots-preserved : goal.slots-preserved
slots-preserved g c =
    let old = c.args.self.now in (
      (λ m st can.
          let h = next_left _ _ _ m.disk (all_scratched m.disk c.args.slots.now) c.args.slots.now c.slots.slot-index c.slots-test.true (c.slots.invariant.0 m st can) in
          clearing_next _ _ (g.M.Medium.seen c.scratch.new.self).content (uses_of old.channels m.channels) m.disk (all_scratched m.disk c.args.slots.now) _ _ h (g.M.Medium.seen c.slots.self-inside.volume).tracks c.slots.invariant.1.tracks (λ d us f h at unused. (c.in_ok-scratch.ensures.call d us h f at unused).done)),
      else_more c.in_ok-scratch.field-0 _ _ _ c.slots.invariant.1 (only_else _ _ _ c.in_ok-scratch.ensures.only),
      (λ i. record (c.slots.invariant.2 i) { medium = c.scratch.new.self }),
      (λ m st can.
          let mid : Seen = g.M.Medium.seen c.slots.self-inside.volume in
          let new : Seen = g.M.Medium.seen c.scratch.new.self in
          let h = next_left _ _ _ m.disk (all_scratched m.disk c.args.slots.now) c.args.slots.now c.slots.slot-index c.slots-test.true (c.slots.invariant.0 m st can) in
          (clearing_hindered _ _ new.content (uses_of old.channels m.channels) m.disk (all_scratched m.disk c.args.slots.now) _ _ h mid.tracks (KeepsRest (g.M.Medium.seen old.medium) new (is_slot_among c.args.slots.now)) c.slots.invariant.1.tracks
          (λ d us f at some unused. rest_then (is_slot_among c.args.slots.now) (λ n. n == slice_index_or c.args.slots.now c.slots.slot-index 0) (g.M.Medium.seen old.medium) mid new d us at (λ n e. (e, not_among c.args.slots.now c.slots.slot-index n c.slots-test.true e)) (c.slots.invariant.3 m st can)
          (change_rest c.scratch.result mid new d _ us _ _ c.scratch.ensures.only refl at (c.scratch.ensures.call d us at f some unused) (scratched_total (file_at d _) d _))))),
      each_next (g.M.Medium.seen old.medium) (g.M.Medium.seen c.slots.self-inside.volume) (g.M.Medium.seen c.scratch.new.self) c.args.slots.now c.slots.slot-index c.slots-test.true c.in_ok-scratch.ensures.only.tracks c.in_ok-scratch.ensures.led c.slots.invariant.4,
    )

pub returns-clause-scratched : goal.returns-clause-scratched
returns-clause-scratched g c = λ m st can. clearing_done _ _ _ m.disk (all_scratched m.disk c.args.slots.now) c.args.slots.now c.slots.slot-index c.slots-test.false (c.slots.invariant.0 m st can)

pub returns-clause-only : goal.returns-clause-only
returns-clause-only g c = record {
  rest = c.slots.invariant.2;
  count = (invariant_of-self g c).count;
}

pub returns-clause-medium : goal.returns-clause-medium
returns-clause-medium g c = c.slots.invariant.1

-- none is cleared on a protected disk
pub returns-in_err-scratch-clause-unguarded : goal.returns-in_err-scratch-clause-unguarded
returns-in_err-scratch-clause-unguarded g c = λ free. passed_on c.from_residual.result c.in_err-scratch.field-0.0 (λ t. t.code ≢ 26) c.from_residual.ensures.1
    (λ is. let z = sym (c.in_err-scratch.ensures.only.guarded is) ∙ c.slots.invariant.1.protected ∙ free.unprotected (λ e. omega (arith, c.slots-test.true, ap length e)) in absurd (cc))

-- ---- the rest of the disk

pub returns-in_err-scratch-clause-rest : goal.returns-in_err-scratch-clause-rest
returns-in_err-scratch-clause-rest g c = λ m st can.
    let old = c.args.self.now in
    let mid : Seen = g.M.Medium.seen c.slots.self-inside.volume in
    let new : Seen = g.M.Medium.seen c.scratch.new.self in
    let h = next_left _ _ _ m.disk (all_scratched m.disk c.args.slots.now) c.args.slots.now c.slots.slot-index c.slots-test.true (c.slots.invariant.0 m st can) in
    (clearing_hindered _ _ new.content (uses_of old.channels m.channels) m.disk (all_scratched m.disk c.args.slots.now) _ _ h mid.tracks (KeepsRest (g.M.Medium.seen old.medium) new (is_slot_among c.args.slots.now)) c.slots.invariant.1.tracks
    (λ d us f at some unused. rest_then (is_slot_among c.args.slots.now) (λ n. n == slice_index_or c.args.slots.now c.slots.slot-index 0) (g.M.Medium.seen old.medium) mid new d us at (λ n e. (e, not_among c.args.slots.now c.slots.slot-index n c.slots-test.true e)) (c.slots.invariant.3 m st can)
    (change_rest c.scratch.result mid new d _ us _ _ c.scratch.ensures.only refl at (c.scratch.ensures.call d us at f some unused) (scratched_total (file_at d _) d _))))

pub returns-clause-rest : goal.returns-clause-rest
returns-clause-rest g c = c.slots.invariant.3

-- ---- on any disk

pub returns-clause-led : goal.returns-clause-led
returns-clause-led g c = each_done (g.M.Medium.seen c.args.self.now.medium) (g.M.Medium.seen c.slots.self-inside.volume) c.args.slots.now c.slots.slot-index c.slots-test.false c.slots.invariant.4
