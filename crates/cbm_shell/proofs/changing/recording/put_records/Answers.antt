use Rattle.std.proofs.Common.{sym, ap, subst, ◌∙◌, Err, false}
use Rattle.std.proofs.lemmas.Result.{err_from_is_err_and}
use Rattle.std.specs.Prelude.{map}
use Rattle.cbm_machine.specs.Machines.{start}
use Rattle.cbm_volume.specs.Holding.{HoldsDisk}
use Rattle.cbm_image.specs.AnyDisks.{any_seen}
use Rattle.cbm_image.specs.Images.{kind_of, tracks_of}
use Rattle.cbm_shell.specs.Recording.{after_records, AreRecordsUnmade, IsUnmadeIn}
use Rattle.cbm_shell.specs.Changing.{IsFine}
use Rattle.cbm_volume.proofs.layouts.Calls.{ok_any}
use Rattle.cbm_shell.proofs.ImageLemmas.{opened_holds, same_start, as_open_fault, as_other_fault, saved_image, sound_image, in_sectors}
use Rattle.cbm_shell.proofs.changing.recording.put_records.Goals as goal

pub returns-in_err-disk-clause-made : goal.returns-in_err-disk-clause-made
returns-in_err-disk-clause-made c = λ d h.
    let p = err_from_is_err_and c.from_residual.result c.from_residual.ensures.1 in
    rw (p.1 ∙ ap Err p.2) (as_open_fault c.args.image.now (AreRecordsUnmade c.args.file.text.now (map (λ r. r.now) c.args.file.records.now) (start d false (tracks_of (kind_of c.args.image.now) c.args.image.now))) _ c.in_err-disk.ensures.err)

pub returns-in_err-disk-2-clause-made : goal.returns-in_err-disk-2-clause-made
returns-in_err-disk-2-clause-made c = λ d h.
    let seen = any_seen c.in_ok-disk.disk in
    let opened = c.in_ok-disk.ensures.ok in
    let p = err_from_is_err_and c.from_residual-in_err-disk-2.result c.from_residual-in_err-disk-2.ensures.1 in
    rw (p.1 ∙ ap Err p.2) (subst (λ m. IsUnmadeIn c.args.image.now c.args.file.text.now (map (λ r. r.now) c.args.file.records.now) m c.in_err-disk-2.field-0.0) (same_start c.args.image.now seen d opened)
    (as_other_fault c.args.image.now (AreRecordsUnmade c.args.file.text.now (map (λ r. r.now) c.args.file.records.now) (start d seen.protected seen.tracks)) _ (λ n h. h)
    (c.in_err-disk-2.ensures.made d (opened_holds c.args.image.now seen d opened h))))

pub returns-clause-made : goal.returns-clause-made
returns-clause-made c = λ d h.
    let seen = any_seen c.in_ok-disk.disk in
    let opened = c.in_ok-disk.ensures.ok in
    let after = any_seen c.in_ok-disk-2.disk in
    let made = subst (λ m. IsFine (after_records c.args.file.text.now (map (λ r. r.now) c.args.file.records.now) m).status × HoldsDisk after.tracks after.content (after_records c.args.file.text.now (map (λ r. r.now) c.args.file.records.now) m).disk)
    (same_start c.args.image.now seen d opened) (c.in_ok-disk-2.ensures.made d (opened_holds c.args.image.now seen d opened h)) in
    saved_image c.args.image.now (λ v. v.items) c.kind_of.result (kind_of c.args.image.now) after _ _
    (AreRecordsUnmade c.args.file.text.now (map (λ r. r.now) c.args.file.records.now) (start d false (tracks_of (kind_of c.args.image.now) c.args.image.now))) c.saved.result (sym c.kind_of.ensures) c.saved.ensures.ok c.saved.ensures.err made.0 made.1

pub returns-clause-sound : goal.returns-clause-sound
returns-clause-sound c = ok_any _ (sound_image c.args.image.now (any_seen c.in_ok-disk.disk) c.in_ok-disk.ensures.ok c.in_ok-disk-2.ensures.sound)

pub returns-clause-opens : goal.returns-clause-opens
returns-clause-opens c = in_sectors (λ v. v.items) c.saved.result c.args.image.now c.kind_of.result (any_seen c.in_ok-disk.disk) (any_seen c.in_ok-disk-2.disk) c.kind_of.ensures c.in_ok-disk.ensures.ok c.in_ok-disk-2.ensures.same_outside c.saved.ensures.ok
