use Rattle.std.proofs.Common.{ap, sym, subst, ◌∙◌, Err}
use Rattle.std.proofs.lemmas.Result.{err_from_is_err_and}
use Rattle.cbm_volume.specs.Holding.{HoldsDisk}
use Rattle.cbm_image.specs.AnyDisks.{any_seen}
use Rattle.cbm_image.specs.Images.{kind_of}
use Rattle.cbm_shell.specs.Locking.{entitled}
use Rattle.cbm_shell.proofs.ImageLemmas.{opened_holds, in_sectors}
use Rattle.cbm_shell.proofs.EditLemmas.{edit_unsound, image_means}
use Rattle.cbm_shell.proofs.TitleLemmas.{titled_holds}
use Rattle.cbm_shell.proofs.changing.locking.title.retitle.Goals as goal

pub returns-in_err-require_sound-clause-fault : goal.returns-in_err-require_sound-clause-fault
returns-in_err-require_sound-clause-fault c =
    let seen = any_seen in
    let p = err_from_is_err_and c.from_residual-in_err-require_sound.result c.from_residual-in_err-require_sound.ensures.1 in
    rw (p.1 ∙ ap Err p.2) (edit_unsound c.args.image.now (seen c.in_ok-volume.volume) ⊥ c.in_err-require_sound.field-0.0 c.in_ok-volume.ensures.ok
    c.in_err-require_sound.ensures.fault)

pub returns-clause-made : goal.returns-clause-made
returns-clause-made c = λ d h.
    let seen = any_seen in
    let old = seen c.in_ok-volume.volume in
    let new = seen c.in_ok-disk.disk in
    let title = c.args.title.now in
    let held = opened_holds c.args.image.now (seen c.in_ok-volume.volume) d c.in_ok-volume.ensures.ok h in
    image_means (λ v. v.items) c.kind_of.result (kind_of c.args.image.now) new (entitled title d) c.saved.result (sym c.kind_of.ensures) c.saved.ensures.ok
    (subst (λ n. HoldsDisk n new.content (entitled title d)) (sym c.in_ok-disk.ensures.tracks)
    (titled_holds old.tracks old.content new.content title d c.in_ok-disk.ensures.whole c.requires c.in_ok-disk.ensures.content held))

pub returns-clause-opens : goal.returns-clause-opens
returns-clause-opens c = in_sectors (λ v. v.items) c.saved.result c.args.image.now c.kind_of.result (any_seen c.in_ok-volume.volume) (any_seen c.in_ok-disk.disk) c.kind_of.ensures c.in_ok-volume.ensures.ok c.in_ok-disk.ensures.outside c.saved.ensures.ok
