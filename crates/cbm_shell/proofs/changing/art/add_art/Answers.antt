use Rattle.std.proofs.Common.{◌≡◌, ap, sym, subst, ◌∙◌, Err, Ok}
use Rattle.std.proofs.lemmas.Result.{err_from_is_err_and}
use Rattle.std.specs.Prelude.{MatchOption}
use Rattle.cbm_bam.specs.Map.{geometry_of}
use Rattle.cbm_image.specs.AnyDisks.{any_seen}
use Rattle.cbm_image.specs.Images.{kind_of}
use Rattle.cbm_shell.specs.Art.{art_entry, HasEntered, IsDirectoryFull}
use Rattle.cbm_shell.specs.Images.{IsSoundDisk}
use Rattle.cbm_shell.proofs.ImageLemmas.{in_sectors}
use Rattle.cbm_shell.proofs.ArtLemmas.{art_sound}
use Rattle.cbm_shell.proofs.EditLemmas.{edit_unsound, saved_sound}
use Rattle.cbm_shell.proofs.changing.art.add_art.Goals as goal

pub returns-in_err-require_sound-clause-fault : goal.returns-in_err-require_sound-clause-fault
returns-in_err-require_sound-clause-fault c =
    let seen = any_seen in
    let p = err_from_is_err_and c.from_residual-in_err-require_sound.result c.from_residual-in_err-require_sound.ensures.1 in
    rw (p.1 ∙ ap Err p.2) (edit_unsound c.args.image.now (seen c.in_ok-volume.volume) ⊥ c.in_err-require_sound.field-0.0 c.in_ok-volume.ensures.ok
    c.in_err-require_sound.ensures.fault)

pub returns-clause-stays : goal.returns-clause-stays
returns-clause-stays c =
    let seen = any_seen in
    let old = seen c.in_ok-volume.volume in
    let new = seen c.in-Some.disk in
    let looks = c.args.looks in
    let entry = art_entry looks.name.now looks.blocks looks.is_locked in
    let tracks = geometry_of old.tracks old.content in
    let enters = subst (λ o. MatchOption o (IsDirectoryFull tracks old.content) (λ after. HasEntered tracks old.content (seen after).content entry)) c.in-Some.is
    (subst (λ e. MatchOption c.in_ok-disk.field-0 (IsDirectoryFull tracks old.content) (λ after. HasEntered tracks old.content (seen after).content e)) {y = entry} c.art_entry.ensures c.in_ok-disk.ensures.enters) in
    let same = subst (λ o. MatchOption o (Unit {0}) (λ after. (seen after).tracks ≡ old.tracks)) c.in-Some.is c.in_ok-disk.ensures.tracks in
    saved_sound c.kind_of.result (kind_of c.args.image.now) c.in_ok-saved.field-0.items new (sym c.kind_of.ensures) c.in_ok-saved.ensures.ok
    (subst (λ n. IsSoundDisk n new.content) (sym same) (art_sound old.tracks old.content new.content looks.name.now looks.blocks looks.is_locked c.in_ok-require_sound.ensures.sound enters))

pub returns-clause-opens : goal.returns-clause-opens
returns-clause-opens c =
    let old = any_seen c.in_ok-volume.volume in
    in_sectors (λ v. v.items) (Ok c.in_ok-saved.field-0) c.args.image.now c.kind_of.result old (any_seen c.in-Some.disk) c.kind_of.ensures c.in_ok-volume.ensures.ok
    (subst (λ o. MatchOption o (Unit {0}) (λ after. (any_seen after).outside ≡ old.outside)) c.in-Some.is c.in_ok-disk.ensures.outside) c.in_ok-saved.ensures.ok
