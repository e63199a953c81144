use Rattle.std.proofs.Common.{Ok, Err, refl, ap, sym, ◌∙◌, ◌+◌}
use Rattle.std.proofs.lemmas.Result.{err_from_is_err_and}
use Rattle.cbm_medium.proofs.Sequences.{only_after, only_refused}
use Rattle.cbm_volume.specs.Opens.{IsHindered}
use Rattle.cbm_volume.proofs.layouts.Hindered.{handed_on}
use Rattle.cbm_volume.proofs.mended.Walked.{goes_on, hindered_at}
use Rattle.cbm_volume.proofs.disk.validating.sweep.Goals as goal

pub returns-in_err-sweep_slot-clause-cause : goal.returns-in_err-sweep_slot-clause-cause
returns-in_err-sweep_slot-clause-cause g c = λ xs h. handed_on c.from_residual.result c.in_err-sweep_slot.field-0.0 (IsHindered (g.M.Medium.seen c.args.medium.now) (g.M.Medium.seen c.sweep_slot.new.medium)) c.from_residual.ensures.1
    (hindered_at c.args.geometry (g.M.Medium.seen c.args.medium.now) (g.M.Medium.seen c.loop-number.medium) (g.M.Medium.seen c.sweep_slot.new.medium) c.loop-number.number c.in_err-sweep_slot.field-0.0
    c.loop-number.invariant c.in_err-sweep_slot.ensures.cause xs h)

pub loop-number-preserved : goal.loop-number-preserved
loop-number-preserved g c = goes_on c.args.geometry (g.M.Medium.seen c.args.medium.now) (g.M.Medium.seen c.loop-number.medium) (g.M.Medium.seen c.sweep_slot.new.medium) c.loop-number.number (c.loop-number.number + 1) c.in_ok-sweep_slot.field-0 refl
    c.loop-number.invariant c.in_ok-sweep_slot.ensures.swept c.in_ok-sweep_slot.ensures.only

-- only what the disk's sectors hold is new
pub returns-in_err-sweep_slot-clause-only : goal.returns-in_err-sweep_slot-clause-only
returns-in_err-sweep_slot-clause-only g c =
    let p = err_from_is_err_and c.from_residual.result c.from_residual.ensures.1 in
    only_refused c.sweep_slot.result c.from_residual.result p.0 (g.M.Medium.seen c.args.medium.now) (g.M.Medium.seen c.sweep_slot.new.medium) (c.in_err-sweep_slot.was ∙ ap Err (sym p.2)) p.1
    (only_after (Ok tt) tt c.sweep_slot.result (g.M.Medium.seen c.args.medium.now) (g.M.Medium.seen c.loop-number.medium) (g.M.Medium.seen c.sweep_slot.new.medium) refl c.loop-number.invariant.only c.sweep_slot.ensures.only)

pub returns-clause-only : goal.returns-clause-only
returns-clause-only g c = c.loop-number.invariant.only
