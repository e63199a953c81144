use Rattle.std.proofs.Common.{subst, arith}
use Rattle.cbm_iec.specs.Machines.{acted}
use Rattle.cbm_iec.specs.Ports.{told_act}
use Rattle.cbm_machine.specs.Machines.{Machine}
use Rattle.cbm_drive.specs.Desks.{Desk, DeskStands, desk_step}
use Rattle.cbm_device.specs.Devices.{OnLines}
use Rattle.cbm_device.specs.ImageDisks.{counted_seen, never_fails}
use Rattle.cbm_device.proofs.device.Device.hear.Goals as goal

-- its disk never fails by itself
pub returns-clause-machine : goal.returns-clause-machine
returns-clause-machine c =
    subst (λ (o : OnLines). (m : Desk Machine) → DeskStands counted_seen o.seat.machine m → DeskStands counted_seen c.line.new.self.machine (acted (Desk Machine) desk_step (told_act c.args.others o.seat.port) m)) c.self.view_is
    (c.line.ensures.machine (omega (arith, never_fails c.self.inside.drive.machine.dos.medium, never_fails c.line.new.self.machine.dos.medium)))
