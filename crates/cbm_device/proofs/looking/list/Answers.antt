use Rattle.std.proofs.Common.{false, subst, sym}
use Rattle.cbm_machine.specs.Machines.{start}
use Rattle.cbm_image.specs.Images.{kind_of, tracks_of}
use Rattle.cbm_shell.specs.Listing.{IsSent, IsUnlisted}
use Rattle.cbm_device.specs.Looking.{IsUnsent}
use Rattle.cbm_device.proofs.Opening.{holds_of, same_start}
use Rattle.cbm_device.proofs.Refusing.{unsent}
use Rattle.cbm_device.proofs.looking.list.Goals as goal

pub returns-in-Ok-clause-sent : goal.returns-in-Ok-clause-sent
returns-in-Ok-clause-sent c = λ d h.
    let image = c.args.image.now in
    let disk = c.in_ok-disk.disk in
    let is = c.in_ok-disk.ensures.ok in
    subst (λ m. IsSent c.args.pattern.now m c.in-Ok.bytes.items) (same_start image false disk d is) (c.in-Ok.ensures.sent _ (c.new-dos.ensures.stands d (holds_of image false disk d is h)))

pub returns-clause-sent : goal.returns-clause-sent
returns-clause-sent c = λ d h.
    let image = c.args.image.now in
    let pattern = c.args.pattern.now in
    let disk = c.in_ok-disk.disk in
    let is = c.in_ok-disk.ensures.ok in
    let m = start d false (tracks_of (kind_of image) image) in
    subst (λ r. IsUnsent image pattern m r) (sym c.from.ensures) (unsent image pattern m c.in-Err.fault
    (subst (λ m. IsUnlisted pattern m c.in-Err.fault) (same_start image false disk d is) (c.in-Err.ensures.sent _ (c.new-dos.ensures.stands d (holds_of image false disk d is h)))))
