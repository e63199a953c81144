use Rattle.std.proofs.Common.{◌≡◌, Option, ℕ, Bool, ◌<◌, refl, subst}
use Rattle.std.specs.Prelude.{IfSome}
use Rattle.cbm_channel.specs.Exchanged.{still_telling}
use Rattle.cbm_file.specs.Files.{Disk}
use Rattle.cbm_machine.specs.Machines.{Machine, start}
use Rattle.cbm_channel.specs.Standing.{Kept}
use Rattle.cbm_volume.specs.Holding.{HoldsDisk}
use Rattle.cbm_drive.specs.Afresh.{with_another}
use Rattle.cbm_drive.specs.Desks.{Desk, DeskStands, IsAlike}
use Rattle.cbm_drive.proofs.Afresh.{all_closed_is}
use Rattle.cbm_drive.proofs.desk.Desk.insert.Goals as goal

-- what is shown is a byte, and the machine's
pub returns-clause-stands : goal.returns-clause-stands
returns-clause-stands g c =
    let seen = g.M.Medium.seen in
    let new = seen c.args.medium in
    let now : Desk (Kept _) = record { dos = c.insert.new.self; addressed = c.self.inside.addressee } in
    subst (λ (was : Desk (Kept _)). (d : Disk) → HoldsDisk new.tracks new.content d → DeskStands seen now (record { dos = still_telling was.dos.told (start d new.protected new.tracks); addressed = was.addressed })) c.self.view_is
    (λ d h.
    (let m : Desk Machine = record { dos = still_telling c.self.inside.dos.told (start d new.protected new.tracks); addressed = c.self.inside.addressee } in
    let alike : IsAlike seen now m = (c.insert.ensures.stands d h, refl) in
    (alike, subst (λ (s : Option (ℕ × Bool)). IfSome s (λ x. x.0 < 256)) (c.shown-byte.ensures.value m alike) c.shown-byte.ensures.byte)))

pub returns-clause-value : goal.returns-clause-value
returns-clause-value g c =
    let now : Desk (Kept _) = record { dos = c.insert.new.self; addressed = c.self.inside.addressee } in
    let other = c.insert.ensures in
    subst (λ (d : Desk (Kept _)). now ≡ with_another c.args.medium d) c.self.view_is
    (λ i. record { dos = all_closed_is c.insert.new.self c.args.medium c.self.inside.dos.told other.medium other.channels other.told other.text i; addressed = c.self.inside.addressee })
