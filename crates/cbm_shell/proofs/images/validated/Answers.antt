use Rattle.std.proofs.Common.{ℕ, subst, sym, ◌∙◌, ap, Err}
use Rattle.std.proofs.lemmas.Result.{err_from_is_err_and}
use Rattle.cbm_medium.specs.Content.{Content}
use Rattle.cbm_bam.specs.Map.{geometry_of}
use Rattle.cbm_volume.specs.Sweeps.{IsPutInOrder}
use Rattle.cbm_volume.specs.Unmendable.{IsUnmendable}
use Rattle.cbm_image.specs.AnyDisks.{any_seen, is_steady}
use Rattle.cbm_shell.specs.Images.{IsOrderlyDisk}
use Rattle.cbm_shell.proofs.EditLemmas.{unmended}
use Rattle.cbm_shell.proofs.ImageLemmas.{of_image}
use Rattle.cbm_shell.proofs.RemakeLemmas as remake
use Rattle.cbm_shell.proofs.images.validated.Goals as goal

pub returns-clause-tracks : goal.returns-clause-tracks
returns-clause-tracks c =
    let seen = any_seen in
    ap (λ k. (seen k).tracks) c.into_medium.ensures ∙ c.in_ok-validate.ensures.only.tracks ∙ c.in_ok-volume.ensures.ok.same_tracks

pub returns-clause-outside : goal.returns-clause-outside
returns-clause-outside c =
    let seen = any_seen in
    ap (λ k. (seen k).outside) c.into_medium.ensures ∙ c.in_ok-validate.ensures.only.outside ∙ c.in_ok-volume.ensures.ok.same_outside

pub returns-clause-order : goal.returns-clause-order
returns-clause-order c =
    let seen = any_seen in
    let after = subst (λ n. IsOrderlyDisk n (seen c.validate.new.self).content) (sym c.validate.ensures.only.tracks) c.in_ok-validate.ensures.sound in
    subst (λ k. IsOrderlyDisk (seen k).tracks (seen k).content) (sym c.into_medium.ensures) after

pub returns-clause-changes : goal.returns-clause-changes
returns-clause-changes c =
    let seen = any_seen in
    of_image (λ (n : ℕ) (t : Content). IsPutInOrder (geometry_of n t) t (seen c.into_medium.result).content) c.args.image.now (seen c.in_ok-volume.volume) c.in_ok-volume.ensures.ok
    (subst (λ k. IsPutInOrder (geometry_of (seen c.in_ok-volume.volume).tracks (seen c.in_ok-volume.volume).content) (seen c.in_ok-volume.volume).content (seen k).content) (sym c.into_medium.ensures) c.in_ok-validate.ensures.in_order)

pub returns-in_err-validate-clause-cause : goal.returns-in_err-validate-clause-cause
returns-in_err-validate-clause-cause c =
    let seen = any_seen in
    let old = c.in_ok-volume.volume in
    let t = c.in_err-validate.field-0.0 in
    let opened = c.in_ok-volume.ensures.ok in
    let p = err_from_is_err_and c.from_residual-in_err-validate.result c.from_residual-in_err-validate.ensures.1 in
    let found = unmended (seen old) (seen c.validate.new.self) t opened.free (is_steady old) (is_steady c.validate.new.self) c.in_err-validate.ensures.refused in
    rw (p.1 ∙ ap Err p.2) (remake.of_image (λ k content. IsUnmendable k content t) c.args.image.now (seen old) opened found)
