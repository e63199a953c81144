use Rattle.std.proofs.Common.{◌∙◌, Err, ap, false, length, subst, ◌≡◌}
use Rattle.std.proofs.lemmas.Result.{err_from_is_err_and}
use Rattle.cbm_volume.specs.Holding.{HoldsDisk}
use Rattle.cbm_machine.specs.Machines.{start}
use Rattle.cbm_image.specs.Images.{kind_of, tracks_of}
use Rattle.cbm_device.specs.ImageDisks.{counted_seen}
use Rattle.cbm_device.proofs.Opening.{holds_of, same_start}
use Rattle.yellowadze1541.specs.Putting.{after_files, ArePut, IsFileRefusal}
use Rattle.yellowadze1541.proofs.PuttingLemmas.{unput_open, unput_file, files_saved}
use Rattle.yellowadze1541.proofs.putting.with_files.Goals as goal

pub returns-in_err-disk-clause-made : goal.returns-in_err-disk-clause-made
returns-in_err-disk-clause-made c = λ d h.
    let image = c.args.image.now in
    let p = err_from_is_err_and c.from_residual.result c.from_residual.ensures.1 in
    rw (p.1 ∙ ap Err p.2) (unput_open image c.args.files.now (start d false (tracks_of (kind_of image) image)) c.args.put.now c.in_err-disk.field-0.0 (c.in_err-disk.ensures.exact d h))

pub returns-in_err-disk-2-clause-made : goal.returns-in_err-disk-2-clause-made
returns-in_err-disk-2-clause-made c = λ d h.
    let image = c.args.image.now in
    let files = c.args.files.now in
    let disk = c.in_ok-disk.disk in
    let is = c.in_ok-disk.ensures.disk in
    let p = err_from_is_err_and c.from_residual-in_err-disk-2.result c.from_residual-in_err-disk-2.ensures.1 in
    rw (p.1 ∙ ap Err p.2) (unput_file image files (start d false (tracks_of (kind_of image) image)) c.put_on.new.put c.in_err-disk-2.field-0.0
    (subst (λ m. IsFileRefusal files m c.put_on.new.put c.in_err-disk-2.field-0.0) (same_start image false disk d is) (c.in_err-disk-2.ensures.put d (holds_of image false disk d is h))))

pub returns-clause-made : goal.returns-clause-made
returns-clause-made c = λ d h.
    let image = c.args.image.now in
    let files = c.args.files.now in
    let disk = c.in_ok-disk.disk in
    let is = c.in_ok-disk.ensures.disk in
    let now = counted_seen c.in_ok-disk-2.disk in
    let count = c.put_on.new.put in
    let m = start d false (tracks_of (kind_of image) image) in
    let put = subst (λ m. ArePut files m × (count ≡ length files) × HoldsDisk now.tracks now.content (after_files files m).disk) (same_start image false disk d is)
    (c.in_ok-disk-2.ensures.put d (holds_of image false disk d is h)) in
    files_saved (λ v. v.items) c.image_of.result image c.kind_of.result files m count c.kind_of.ensures (put.0, put.1) (c.image_of.ensures.ok (after_files files m).disk put.2) c.image_of.ensures.err
