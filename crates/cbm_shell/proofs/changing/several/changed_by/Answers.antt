use Rattle.std.proofs.Common.{◌+◌, drop, ap, subst, ◌∙◌, Err, arith, inl, inr, refl}
use Rattle.std.proofs.lemmas.List.{drop_all}
use Rattle.std.proofs.lemmas.Result.{err_from_is_err_and}
use Rattle.cbm_shell.specs.Images.{IsSoundDisk}
use Rattle.cbm_shell.proofs.SeveralLemmas.{first_sound, one_formats, one_more, not_made, all_made, next_change}
use Rattle.cbm_shell.proofs.changing.several.changed_by.Goals as goal

pub loop-change-preserved : goal.loop-change-preserved
loop-change-preserved g c =
    let seen = g.M.Medium.seen in
    let old = seen c.args.medium in
    let inv = c.loop-change.invariant in (
      c.in_ok-disk.ensures.same_protection ∙ inv.0,
      c.in_ok-disk.ensures.same_tracks ∙ inv.1,
      λ d h. let u = inv.2 d h in
          one_more (drop c.loop-change.change-index c.args.changes.now) (drop (c.loop-change.change-index + 1) c.args.changes.now) c.args.changes.now _ old.protected old.tracks d
          (seen c.loop-change.disk) (seen c.in_ok-disk.disk) (next_change c.args.changes.now _ c.loop-change.change-index c.loop-change-test.true) inv.0 inv.1 u (c.in_ok-disk.ensures.made u.disk u.holds),
      λ e. absurd (omega (arith, e)),
      λ h. first_sound (IsSoundDisk old.tracks old.content) c.loop-change.change-index
          (λ e. subst (λ m. IsSoundDisk (seen m).tracks (seen m).content) (inv.3 e) c.in_ok-disk.ensures.sound) inv.4,
      one_formats c.args.changes.now _ c.loop-change.change-index (seen c.args.medium).outside (seen c.loop-change.disk).outside (seen c.in_ok-disk.disk).outside c.loop-change-test.true inv.5 c.in_ok-disk.ensures.same_outside,
    )

-- memory is lacking for the drive of a change
pub returns-in_err-channels-clause-made : goal.returns-in_err-channels-clause-made
returns-in_err-channels-clause-made g c = λ d h.
    let p = err_from_is_err_and c.from_residual.result c.from_residual.ensures.1 in
    rw (p.1 ∙ ap Err p.2) (inl refl)

pub returns-in_err-disk-clause-made : goal.returns-in_err-disk-clause-made
returns-in_err-disk-clause-made g c = λ d h.
    let seen = g.M.Medium.seen in
    let old = seen c.args.medium in
    let inv = c.loop-change.invariant in
    let u = inv.2 d h in
    let p = err_from_is_err_and c.from_residual-in_err-disk.result c.from_residual-in_err-disk.ensures.1 in
    rw (p.1 ∙ ap Err p.2) (inr (not_made (drop c.loop-change.change-index c.args.changes.now) (drop (c.loop-change.change-index + 1) c.args.changes.now) c.args.changes.now _ old.protected old.tracks d
    (seen c.loop-change.disk) c.in_err-disk.field-0.0 (next_change c.args.changes.now _ c.loop-change.change-index c.loop-change-test.true) inv.0 inv.1 u (c.in_err-disk.ensures.made u.disk u.holds)))

pub returns-clause-made : goal.returns-clause-made
returns-clause-made g c = λ d h.
    let seen = g.M.Medium.seen in
    let old = seen c.args.medium in
    all_made (drop c.loop-change.change-index c.args.changes.now) c.args.changes.now old.protected old.tracks d (seen c.loop-change.disk)
    (drop_all c.loop-change.change-index c.args.changes.now c.loop-change-test.false) (c.loop-change.invariant.2 d h)

pub returns-clause-sound : goal.returns-clause-sound
returns-clause-sound g c = λ some. c.loop-change.invariant.4 (omega (arith, some, c.loop-change-test.false))
