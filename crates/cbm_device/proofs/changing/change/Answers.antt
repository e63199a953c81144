use Rattle.std.proofs.Common.{false, subst, sym}
use Rattle.cbm_machine.specs.Machines.{start}
use Rattle.cbm_volume.specs.Holding.{HoldsDisk}
use Rattle.cbm_image.specs.Images.{kind_of, tracks_of}
use Rattle.cbm_shell.specs.Changing.{begun, disk_after_change, IsFaultOf, IsFine, IsUndone}
use Rattle.cbm_device.specs.ImageDisks.{counted_seen}
use Rattle.cbm_device.specs.Making.{IsUnmade, IsUnchanged}
use Rattle.cbm_device.proofs.Giving.{changed_from}
use Rattle.cbm_device.proofs.Opening.{holds_of, of_disk, same_start}
use Rattle.cbm_device.proofs.Refusing.{unchanged, unmade}
use Rattle.cbm_device.proofs.changing.change.Goals as goal

pub returns-in-Ok-clause-made : goal.returns-in-Ok-clause-made
returns-in-Ok-clause-made c = λ d h.
    let image = c.args.image.now in
    let change = c.args.change.now in
    let is = c.in_ok-disk.ensures.ok in
    let m = start d false (tracks_of (kind_of image) image) in
    let now = counted_seen c.in-Ok.disk in
    let made = subst (λ m. IsFine (disk_after_change change m).status × HoldsDisk now.tracks now.content (disk_after_change change m).disk) (same_start image false c.in_ok-disk.disk d is)
    (c.in-Ok.ensures.made d (holds_of image false c.in_ok-disk.disk d is h)) in
    changed_from (λ v. v.items) c.save.result image c.kind_of.result c.in-Ok.disk (IsFine (disk_after_change change m).status) (disk_after_change change m).disk (begun change m) (disk_after_change change m)
    c.kind_of.ensures made c.save.ensures.ok c.save.ensures.err

pub returns-in-Err-clause-made : goal.returns-in-Err-clause-made
returns-in-Err-clause-made c = λ d h.
    let image = c.args.image.now in
    let change = c.args.change.now in
    let is = c.in_ok-disk.ensures.ok in
    let m = start d false (tracks_of (kind_of image) image) in
    subst (λ r. IsUnmade image (begun change m) (disk_after_change change m) r) (sym c.from.ensures) (unmade image change m c.in-Err.fault
    (subst (λ m. IsUndone change m c.in-Err.fault) (same_start image false c.in_ok-disk.disk d is) (c.in-Err.ensures.made d (holds_of image false c.in_ok-disk.disk d is h))))

pub returns-in-Err-clause-sound : goal.returns-in-Err-clause-sound
returns-in-Err-clause-sound c =
    let image = c.args.image.now in
    let is = c.in_ok-disk.ensures.ok in
    subst (λ r. IsUnchanged image r) (sym c.from.ensures)
    (unchanged image c.in-Err.fault is.accepted (of_disk (λ n content. IsFaultOf n content c.in-Err.fault) image false c.in_ok-disk.disk is c.in-Err.ensures.fault))
