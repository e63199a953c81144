use Rattle.std.proofs.Common.{ap, subst, ◌∙◌, Err, inl, inr}
use Rattle.std.proofs.lemmas.Result.{err_from_is_err_and}
use Rattle.std.specs.Prelude.{IfOk, ◌≡◌, ◌⊎◌}
use Rattle.cbm_image.specs.AnyDisks.{any_seen}
use Rattle.cbm_image.specs.Images.{kind_of, content_of}
use Rattle.cbm_shell.specs.Images.{IsSoundImage}
use Rattle.cbm_shell.specs.Locking.{marked_as}
use Rattle.cbm_shell.specs.Remaking.{IsFirstFault, MakesFault}
use Rattle.cbm_shell.proofs.ImageLemmas.{in_sectors}
use Rattle.cbm_shell.proofs.RemakeLemmas.{stopped_old, stopped_new}
use Rattle.cbm_shell.proofs.changing.locking.mark.remark.Goals as goal

pub returns-in_err-require_sound-clause-fault : goal.returns-in_err-require_sound-clause-fault
returns-in_err-require_sound-clause-fault c =
    let seen = any_seen in
    let image = c.args.image.now in
    let opened = c.in_ok-volume.ensures.ok in
    let p = err_from_is_err_and c.from_residual-in_err-require_sound.result c.from_residual-in_err-require_sound.ensures.1 in
    rw (p.1 ∙ ap Err p.2) (stopped_old image (seen c.in_ok-volume.volume)
    (λ u. IsFirstFault image u ⊎ MakesFault image (λ new. new ≡ marked_as c.args.mark.now (content_of (kind_of image) image)) u)
    c.in_err-require_sound.field-0.0 opened (λ u h. inl h) c.in_err-require_sound.ensures.fault)

pub returns-clause-fault : goal.returns-clause-fault
returns-clause-fault c =
    let seen = any_seen in
    let image = c.args.image.now in
    let new = seen c.in_ok-disk.disk in
    let opened = c.in_ok-volume.ensures.ok in
    stopped_new c.sound_image.result image new (λ n. n ≡ marked_as c.args.mark.now (content_of (kind_of image) image))
    (λ u. IsFirstFault image u ⊎ MakesFault image (λ n. n ≡ marked_as c.args.mark.now (content_of (kind_of image) image)) u)
    (c.in_ok-disk.ensures.tracks ∙ opened.same_tracks) (c.in_ok-disk.ensures.content ∙ ap (marked_as c.args.mark.now) opened.same_content) (λ u h. inr h) c.sound_image.ensures.fault

pub returns-clause-sound : goal.returns-clause-sound
returns-clause-sound c = subst (λ k. IfOk c.sound_image.result (λ v. IsSoundImage k v.items)) c.kind_of.ensures c.sound_image.ensures.image

pub returns-clause-opens : goal.returns-clause-opens
returns-clause-opens c = in_sectors (λ v. v.items) c.sound_image.result c.args.image.now c.kind_of.result (any_seen c.in_ok-volume.volume) (any_seen c.in_ok-disk.disk) c.kind_of.ensures c.in_ok-volume.ensures.ok c.in_ok-disk.ensures.outside c.sound_image.ensures.saved
