use Rattle.std.proofs.Common.{ap, subst, ◌∙◌, Err}
use Rattle.std.proofs.lemmas.Result.{err_from_is_err_and}
use Rattle.cbm_image.specs.AnyDisks.{any_seen}
use Rattle.cbm_shell.specs.Editing.{IsUnedited}
use Rattle.cbm_slots.proofs.RetypingLemmas.{unfit_by}
use Rattle.cbm_slots.proofs.retyping.fit_image.Goals as goal

pub returns-in_err-require_sound-clause-fault : goal.returns-in_err-require_sound-clause-fault
returns-in_err-require_sound-clause-fault c =
    let seen = any_seen in
    let f = c.in_err-require_sound.field-0.0 in
    let p = err_from_is_err_and c.from_residual.result c.from_residual.ensures.1 in
    rw (p.1 ∙ ap Err p.2) (unfit_by (seen c.args.disk).tracks (seen c.args.disk).content f
    (subst (λ k. IsUnedited (seen k).tracks (seen k).content ⊥ f) c.open-volume.ensures c.in_err-require_sound.ensures.fault))
