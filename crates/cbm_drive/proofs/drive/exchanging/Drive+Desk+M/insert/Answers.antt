use Rattle.std.proofs.Common.{◌≡◌, subst}
use Rattle.cbm_channel.specs.Exchanged.{still_telling}
use Rattle.cbm_file.specs.Files.{Disk}
use Rattle.cbm_machine.specs.Machines.{start}
use Rattle.cbm_channel.specs.Standing.{Kept}
use Rattle.cbm_volume.specs.Holding.{HoldsDisk}
use Rattle.cbm_drive.specs.Afresh.{with_another}
use Rattle.cbm_drive.specs.Desks.{Desk, DeskStands}
use Rattle.cbm_drive.specs.Seats.{Seated}
use Rattle.cbm_drive.proofs.drive.exchanging.Drive+Desk+M.insert.Goals as goal

pub returns-clause-stands : goal.returns-clause-stands
returns-clause-stands g c =
    let seen = g.M.Medium.seen in
    let new = seen c.args.medium in
    subst (λ (was : Seated (Desk (Kept _))). (d : Disk) → HoldsDisk new.tracks new.content d → DeskStands seen c.insert.new.self (record { dos = still_telling was.machine.dos.told (start d new.protected new.tracks); addressed = was.machine.addressed }))
    c.self.view_is c.insert.ensures.stands

pub returns-clause-machine : goal.returns-clause-machine
returns-clause-machine g c = subst (λ (was : Seated (Desk (Kept _))). c.insert.new.self ≡ with_another c.args.medium was.machine) c.self.view_is c.insert.ensures.value
