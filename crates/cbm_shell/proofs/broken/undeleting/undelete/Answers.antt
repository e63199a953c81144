use Rattle.std.proofs.Common.{ap, subst, ◌∙◌, Err, inl, inr, Ok, ◌≡◌}
use Rattle.std.proofs.lemmas.Result.{err_from_is_err_and}
use Rattle.std.specs.Prelude.{◌⊎◌}
use Rattle.std.specs.Prelude.{MatchOption}
use Rattle.cbm_image.specs.AnyDisks.{any_seen}
use Rattle.cbm_image.specs.Images.{kind_of, content_of}
use Rattle.cbm_shell.specs.Images.{IsSoundImage, disk_tracks}
use Rattle.cbm_shell.specs.Remaking.{IsFirstFault, MakesFault}
use Rattle.cbm_shell.specs.Undeleting.{IsUndeleted}
use Rattle.cbm_shell.proofs.ImageLemmas.{in_sectors}
use Rattle.cbm_shell.proofs.RemakeLemmas.{stopped_old, stopped_saved, of_image, of_some}
use Rattle.cbm_shell.proofs.broken.undeleting.undelete.Goals as goal

pub returns-in_err-require_sound-clause-fault : goal.returns-in_err-require_sound-clause-fault
returns-in_err-require_sound-clause-fault c =
    let seen = any_seen in
    let image = c.args.image.now in
    let opened = c.in_ok-volume.ensures.ok in
    let p = err_from_is_err_and c.from_residual-in_err-require_sound.result c.from_residual-in_err-require_sound.ensures.1 in
    rw (p.1 ∙ ap Err p.2) (stopped_old image (seen c.in_ok-volume.volume)
    (λ u. IsFirstFault image u ⊎ MakesFault image (λ new. IsUndeleted (disk_tracks image) (content_of (kind_of image) image) new c.args.slot c.args.kind) u)
    c.in_err-require_sound.field-0.0 opened (λ u h. inl h) c.in_err-require_sound.ensures.fault)

pub returns-in_err-sound_image-clause-fault : goal.returns-in_err-sound_image-clause-fault
returns-in_err-sound_image-clause-fault c =
    let seen = any_seen in
    let image = c.args.image.now in
    let new = seen c.in-Some.disk in
    let opened = c.in_ok-volume.ensures.ok in
    let given = of_some c.in_ok-disk.field-0 c.in-Some.disk _ _ c.in_ok-disk.ensures.given c.in-Some.is in
    let p = err_from_is_err_and c.from_residual-in_err-sound_image.result c.from_residual-in_err-sound_image.ensures.1 in
    rw (p.1 ∙ ap Err p.2) (stopped_saved image new (λ n. IsUndeleted (disk_tracks image) (content_of (kind_of image) image) n c.args.slot c.args.kind)
    (λ u. IsFirstFault image u ⊎ MakesFault image (λ n. IsUndeleted (disk_tracks image) (content_of (kind_of image) image) n c.args.slot c.args.kind) u)
    c.in_err-sound_image.field-0.0 (given.0 ∙ opened.same_tracks)
    (of_image (λ t old. IsUndeleted t old new.content c.args.slot c.args.kind) image (seen c.in_ok-volume.volume) opened given.1) (λ u h. inr h) c.in_err-sound_image.ensures.fault)

pub returns-clause-sound : goal.returns-clause-sound
returns-clause-sound c = subst (λ k. IsSoundImage k c.in_ok-sound_image.field-0.items) c.kind_of.ensures c.in_ok-sound_image.ensures.image

pub returns-clause-opens : goal.returns-clause-opens
returns-clause-opens c =
    let old = any_seen c.in_ok-volume.volume in
    in_sectors (λ v. v.items) (Ok c.in_ok-sound_image.field-0) c.args.image.now c.kind_of.result old (any_seen c.in-Some.disk) c.kind_of.ensures c.in_ok-volume.ensures.ok
    (subst (λ o. MatchOption o (Unit {0}) (λ after. (any_seen after).outside ≡ old.outside)) c.in-Some.is c.in_ok-disk.ensures.outside) c.in_ok-sound_image.ensures.saved
