use Rattle.std.specs.Prelude.{IfOk}
use Rattle.std.proofs.Common.{ap, subst, sym, ◌∙◌, Err}
use Rattle.std.proofs.lemmas.Result.{err_from_is_err_and}
use Rattle.cbm_image.specs.AnyDisks.{any_seen}
use Rattle.cbm_image.specs.Images.{kind_of}
use Rattle.cbm_shell.specs.Editing.{IsUnedited}
use Rattle.cbm_shell.specs.Images.{IsSaved}
use Rattle.cbm_shell.proofs.EditLemmas.{image_sound}
use Rattle.cbm_shell.proofs.ImageLemmas.{in_sectors}
use Rattle.cbm_place.specs.Moves.{IsRelaid}
use Rattle.cbm_place.specs.Placed.{IsNotRelaid}
use Rattle.cbm_place.proofs.PlaceParts.{unsound_old, unsound_new, made_in, sound_opened}
use Rattle.cbm_place.proofs.placing.place.Goals as goal

pub returns-in_err-require_sound-clause-fault : goal.returns-in_err-require_sound-clause-fault
returns-in_err-require_sound-clause-fault c =
    let seen = any_seen in
    let p = err_from_is_err_and c.from_residual-in_err-require_sound.result c.from_residual-in_err-require_sound.ensures.1 in
    rw (p.1 ∙ ap Err p.2) (unsound_old (λ tracks old new. IsRelaid tracks old new c.args.slot c.args.places.now)
    (λ tracks content. IsNotRelaid tracks content c.args.slot c.args.places.now) c.args.image.now (seen c.in_ok-volume.volume) c.in_err-require_sound.field-0.0
    c.in_ok-volume.ensures.ok c.in_err-require_sound.ensures.fault)

pub returns-in_err-require_sound-2-clause-fault : goal.returns-in_err-require_sound-2-clause-fault
returns-in_err-require_sound-2-clause-fault c =
    let seen = any_seen in
    let p = err_from_is_err_and c.from_residual-in_err-require_sound-2.result c.from_residual-in_err-require_sound-2.ensures.1 in
    rw (p.1 ∙ ap Err p.2) (unsound_new (λ tracks old new. IsRelaid tracks old new c.args.slot c.args.places.now)
    (λ tracks content. IsNotRelaid tracks content c.args.slot c.args.places.now) c.args.image.now (seen c.in_ok-volume.volume) (seen c.in_ok-moved.field-0) c.in_err-require_sound-2.field-0.0
    c.in_ok-volume.ensures.ok c.in_ok-moved.ensures.tracks c.in_ok-moved.ensures.moved
    (subst (λ k. IsUnedited (seen k).tracks (seen k).content ⊥ c.in_err-require_sound-2.field-0.0) c.open-new.ensures c.in_err-require_sound-2.ensures.fault))

pub returns-clause-placed : goal.returns-clause-placed
returns-clause-placed c =
    let seen = any_seen in
    made_in (λ v. v.items) c.saved.result (λ tracks old new. IsRelaid tracks old new c.args.slot c.args.places.now) c.kind_of.result c.args.image.now (seen c.in_ok-volume.volume) (seen c.in_ok-moved.field-0)
    (sym c.kind_of.ensures) c.in_ok-volume.ensures.ok c.in_ok-moved.ensures.moved
    (subst (λ k. IfOk c.saved.result (λ v. IsSaved c.kind_of.result v.items (seen k))) (c.into_medium-disk.ensures ∙ c.open-new.ensures) c.saved.ensures.ok)

pub returns-clause-sound : goal.returns-clause-sound
returns-clause-sound c =
    let seen = any_seen in
    sound_opened c.saved.result c.args.image.now (seen c.in_ok-volume.volume) c.in_ok-volume.ensures.ok c.in_ok-require_sound.ensures.sound

pub returns-clause-stays : goal.returns-clause-stays
returns-clause-stays c =
    let seen = any_seen in
    image_sound (λ v. v.items) c.kind_of.result (kind_of c.args.image.now) (seen c.open-new.result) c.saved.result (sym c.kind_of.ensures)
    (subst (λ k. IfOk c.saved.result (λ v. IsSaved c.kind_of.result v.items (seen k))) c.into_medium-disk.ensures c.saved.ensures.ok)
    c.in_ok-require_sound-2.ensures.sound

pub returns-clause-opens : goal.returns-clause-opens
returns-clause-opens c =
    let seen = any_seen in
    in_sectors (λ v. v.items) c.saved.result c.args.image.now c.kind_of.result (seen c.in_ok-volume.volume) (seen c.in_ok-moved.field-0) c.kind_of.ensures c.in_ok-volume.ensures.ok c.in_ok-moved.ensures.outside
    (subst (λ k. IfOk c.saved.result (λ v. IsSaved c.kind_of.result v.items (seen k))) (c.into_medium-disk.ensures ∙ c.open-new.ensures) c.saved.ensures.ok)
