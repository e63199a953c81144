use Rattle.std.proofs.Common.{true, subst, sym}
use Rattle.cbm_device.specs.Looking.{IsUngot}
use Rattle.cbm_device.proofs.Opening.{holds_of}
use Rattle.cbm_device.proofs.Refusing.{ungot}
use Rattle.cbm_device.proofs.looking.file.Goals as goal

pub returns-clause-got : goal.returns-clause-got
returns-clause-got c = λ d h.
    let image = c.args.image.now in
    let pattern = c.args.pattern.now in
    let disk = c.in_ok-volume.volume in
    subst (λ r. IsUngot image d pattern r) (sym c.from.ensures) (ungot image d pattern c.in-Err.fault (c.in-Err.ensures.means d (holds_of image true disk d c.in_ok-volume.ensures.ok h)))
