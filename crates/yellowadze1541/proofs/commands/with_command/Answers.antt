use Rattle.std.proofs.Common.{◌∙◌, Err, ap, false, subst}
use Rattle.std.proofs.lemmas.Result.{err_from_is_err_and}
use Rattle.cbm_volume.specs.Holding.{HoldsDisk}
use Rattle.cbm_machine.specs.Machines.{start}
use Rattle.cbm_image.specs.Images.{kind_of, tracks_of}
use Rattle.cbm_shell.specs.Changing.{IsFine}
use Rattle.cbm_device.specs.ImageDisks.{counted_seen}
use Rattle.cbm_device.specs.Making.{after_command}
use Rattle.cbm_device.proofs.Opening.{holds_of, same_start}
use Rattle.yellowadze1541.specs.Commands.{IsSaidOf, IsCommandRefusal}
use Rattle.yellowadze1541.proofs.CommandLemmas.{uncommanded_open, uncommanded_refusal, command_saved}
use Rattle.yellowadze1541.proofs.commands.with_command.Goals as goal

pub returns-in_err-disk-clause-made : goal.returns-in_err-disk-clause-made
returns-in_err-disk-clause-made c = λ d h.
    let image = c.args.image.now in
    let p = err_from_is_err_and c.from_residual.result c.from_residual.ensures.1 in
    rw (p.1 ∙ ap Err p.2) (uncommanded_open image (after_command c.args.text.now (start d false (tracks_of (kind_of image) image))) c.args.status.now c.in_err-disk.field-0.0 (c.in_err-disk.ensures.exact d h))

pub returns-in_err-disk-2-clause-made : goal.returns-in_err-disk-2-clause-made
returns-in_err-disk-2-clause-made c = λ d h.
    let image = c.args.image.now in
    let text = c.args.text.now in
    let disk = c.in_ok-disk.disk in
    let is = c.in_ok-disk.ensures.disk in
    let new = c.commanded.new.status in
    let r = c.in_err-disk-2.field-0.0 in
    let p = err_from_is_err_and c.from_residual-in_err-disk-2.result c.from_residual-in_err-disk-2.ensures.1 in
    rw (p.1 ∙ ap Err p.2) (uncommanded_refusal image (after_command text (start d false (tracks_of (kind_of image) image))) c.args.status.now new r
    (subst (λ m. IsCommandRefusal (after_command text m) new r) (same_start image false disk d is) (c.in_err-disk-2.ensures.done d (holds_of image false disk d is h))))

pub returns-clause-made : goal.returns-clause-made
returns-clause-made c = λ d h.
    let image = c.args.image.now in
    let text = c.args.text.now in
    let disk = c.in_ok-disk.disk in
    let is = c.in_ok-disk.ensures.disk in
    let new = c.commanded.new.status in
    let now = counted_seen c.in_ok-disk-2.disk in
    let after = after_command text (start d false (tracks_of (kind_of image) image)) in
    let done = subst (λ m. IsFine (after_command text m).status × IsSaidOf (after_command text m).status new × HoldsDisk now.tracks now.content (after_command text m).disk) (same_start image false disk d is)
    (c.in_ok-disk-2.ensures.done d (holds_of image false disk d is h)) in
    command_saved (λ v. v.items) c.image_of.result image c.kind_of.result after c.args.status.now new c.kind_of.ensures done.0 done.1 (c.image_of.ensures.ok after.disk done.2) c.image_of.ensures.err
