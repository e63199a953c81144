use Rattle.std.proofs.Common.{ap, subst, ◌∙◌, Err}
use Rattle.std.proofs.lemmas.Result.{err_from_is_err_and}
use Rattle.cbm_image.specs.AnyDisks.{any_seen}
use Rattle.cbm_shell.specs.Editing.{IsUnedited}
use Rattle.cbm_shell.proofs.RemakeLemmas.{unsound_unsaved}
use Rattle.cbm_shell.proofs.broken.undeleting.sound_image.Goals as goal

pub returns-in_err-require_sound-clause-fault : goal.returns-in_err-require_sound-clause-fault
returns-in_err-require_sound-clause-fault c =
    let seen = any_seen in
    let p = err_from_is_err_and c.from_residual.result c.from_residual.ensures.1 in
    rw (p.1 ∙ ap Err p.2) (unsound_unsaved (seen c.args.disk) c.in_err-require_sound.field-0.0
    (subst (λ k. IsUnedited (seen k).tracks (seen k).content ⊥ c.in_err-require_sound.field-0.0) c.open-volume.ensures c.in_err-require_sound.ensures.fault))
