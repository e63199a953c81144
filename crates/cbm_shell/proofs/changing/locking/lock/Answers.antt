use Rattle.std.proofs.Common.{sym, ap, ◌∙◌, Err}
use Rattle.std.proofs.lemmas.Result.{err_from_is_err_and}
use Rattle.cbm_bam.specs.Map.{geometry_of}
use Rattle.cbm_image.specs.AnyDisks.{any_seen}
use Rattle.cbm_image.specs.Images.{kind_of}
use Rattle.cbm_shell.proofs.ImageLemmas.{in_sectors}
use Rattle.cbm_shell.proofs.EditLemmas.{edit_unsound, sound_anew, image_sound}
use Rattle.cbm_shell.proofs.LockLemmas.{locks_sound}
use Rattle.cbm_shell.proofs.changing.locking.lock.Goals as goal

pub returns-in_err-require_sound-clause-fault : goal.returns-in_err-require_sound-clause-fault
returns-in_err-require_sound-clause-fault c =
    let seen = any_seen in
    let p = err_from_is_err_and c.from_residual-in_err-require_sound.result c.from_residual-in_err-require_sound.ensures.1 in
    rw (p.1 ∙ ap Err p.2) (edit_unsound c.args.image.now (seen c.in_ok-volume.volume) ⊥ c.in_err-require_sound.field-0.0 c.in_ok-volume.ensures.ok
    c.in_err-require_sound.ensures.fault)

pub returns-clause-stays : goal.returns-clause-stays
returns-clause-stays c =
    let old = any_seen c.in_ok-volume.volume in
    let new = any_seen c.in_ok-disk.disk in
    let sound = c.in_ok-require_sound.ensures.sound in
    image_sound (λ v. v.items) c.kind_of.result (kind_of c.args.image.now) new c.saved.result (sym c.kind_of.ensures) c.saved.ensures.ok
    (sound_anew old new c.in_ok-disk.ensures.tracks (locks_sound c.args.is_locked (geometry_of old.tracks old.content) _ old.content new.content sound.0 sound.1 c.in_ok-disk.ensures.locks))

pub returns-clause-opens : goal.returns-clause-opens
returns-clause-opens c = in_sectors (λ v. v.items) c.saved.result c.args.image.now c.kind_of.result (any_seen c.in_ok-volume.volume) (any_seen c.in_ok-disk.disk) c.kind_of.ensures c.in_ok-volume.ensures.ok c.in_ok-disk.ensures.outside c.saved.ensures.ok
