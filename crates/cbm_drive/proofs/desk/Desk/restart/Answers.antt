use Rattle.std.proofs.Common.{◌≡◌, sym, subst}
use Rattle.cbm_file.specs.Files.{Disk}
use Rattle.cbm_machine.specs.Machines.{start}
use Rattle.cbm_channel.specs.Standing.{Kept}
use Rattle.cbm_volume.specs.Holding.{HoldsDisk}
use Rattle.cbm_drive.specs.Addressing.{paced, unaddressed}
use Rattle.cbm_drive.specs.Afresh.{restarted, told_first}
use Rattle.cbm_drive.specs.Desks.{Desk, DeskStands}
use Rattle.cbm_drive.proofs.Afresh.{all_closed_is}
use Rattle.cbm_drive.proofs.desk.Desk.restart.Goals as goal

pub returns-clause-stands : goal.returns-clause-stands
returns-clause-stands g c =
    let seen = g.M.Medium.seen in
    let now : Desk (Kept _) = record { dos = c.restart.new.self; addressed = c.restart-2.new.self } in
    subst (λ (was : Desk (Kept _)). (d : Disk) → HoldsDisk (seen was.dos.medium).tracks (seen was.dos.medium).content d
    → DeskStands seen now (record { dos = start d (seen was.dos.medium).protected (seen was.dos.medium).tracks; addressed = paced was.addressed.pace (unaddressed was.addressed.device) })) c.self.view_is
    (λ d h. ((c.restart.ensures.stands d h, sym c.restart-2.ensures), tt))

pub returns-clause-value : goal.returns-clause-value
returns-clause-value g c =
    let was : Desk (Kept _) = record { dos = c.self.inside.dos; addressed = c.self.inside.addressee } in
    let now : Desk (Kept _) = record { dos = c.restart.new.self; addressed = c.restart-2.new.self } in
    let afresh = c.restart.ensures in
    subst (λ (d : Desk (Kept _)). now ≡ restarted d) c.self.view_is
    (λ i. record { dos = all_closed_is c.restart.new.self was.dos.medium told_first afresh.medium afresh.channels afresh.told afresh.text i; addressed = c.restart-2.ensures i })
