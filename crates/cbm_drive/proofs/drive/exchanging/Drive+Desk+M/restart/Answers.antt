use Rattle.std.proofs.Common.{◌≡◌, subst}
use Rattle.cbm_file.specs.Files.{Disk}
use Rattle.cbm_machine.specs.Machines.{start}
use Rattle.cbm_channel.specs.Standing.{Kept}
use Rattle.cbm_volume.specs.Holding.{HoldsDisk}
use Rattle.cbm_drive.specs.Addressing.{paced, unaddressed}
use Rattle.cbm_drive.specs.Afresh.{restarted}
use Rattle.cbm_drive.specs.Desks.{Desk, DeskStands}
use Rattle.cbm_drive.specs.Seats.{Seated}
use Rattle.cbm_drive.proofs.drive.exchanging.Drive+Desk+M.restart.Goals as goal

pub returns-clause-stands : goal.returns-clause-stands
returns-clause-stands g c =
    let seen = g.M.Medium.seen in
    subst (λ (was : Seated (Desk (Kept _))). (d : Disk) → HoldsDisk (seen was.machine.dos.medium).tracks (seen was.machine.dos.medium).content d
    → DeskStands seen c.restart.new.self (record { dos = start d (seen was.machine.dos.medium).protected (seen was.machine.dos.medium).tracks; addressed = paced was.machine.addressed.pace (unaddressed was.machine.addressed.device) }))
    c.self.view_is c.restart.ensures.stands

pub returns-clause-machine : goal.returns-clause-machine
returns-clause-machine g c = subst (λ (was : Seated (Desk (Kept _))). c.restart.new.self ≡ restarted was.machine) c.self.view_is c.restart.ensures.value
