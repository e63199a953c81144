-- Drives as they are switched on, each with a disk in it.
use Rattle.std.specs.Prelude.{ℕ, ◌≡◌, List}
use Rattle.std.specs.List.{AllZip}
use Rattle.cbm_iec.specs.Ports.{resting}
use Rattle.cbm_iec.specs.declared.party.Party.{Party}
use Rattle.cbm_medium.specs.Seen.{Seen}
use Rattle.cbm_file.specs.Files.{Disk}
use Rattle.cbm_machine.specs.Machines.{Machine, start}
use Rattle.cbm_channel.specs.Standing.{Kept}
use Rattle.cbm_session.specs.Playing.{at_rest}
use Rattle.cbm_drive.specs.Cables.{Cabled}
use Rattle.cbm_drive.specs.Desks.{Desk, DeskStands, at_first, desk_step, desk_says, with_pace}
use Rattle.cbm_drive.specs.Seats.{Seated, IsBusAt}

-- the machine of named files at power up, with the disk that this medium holds, addressed by nobody
abbrev pub powered : Party → Seen → Disk → Desk Machine
powered b s d = with_pace b.pace (at_first b.device (start d s.protected s.tracks))

module _ {M : Type 0} (seen : M → Seen) where
  -- A DRIVE AT REST represents a machine: it holds no line, nothing is due, and nobody has a role.
  pub record IsPowered (b : Party) (m : Desk Machine) (x : Seated (Desk (Kept M))) : Type 0 where
    pub port : x.port ≡ resting b
    pub machine : DeskStands seen x.machine m

  -- so does each of these, by its device number
  abbrev pub ArePowered : List Party → (ℕ → Desk Machine) → List (Seated (Desk (Kept M))) → Type 0
  ArePowered bs ms xs = AllZip (λ b x. IsPowered b (ms b.device) x) bs xs

  -- A BUS AT REST: so does each drive on it, and the host holds no line.
  abbrev pub IsAtRest : List Party → (ℕ → Desk Machine) → Cabled (Desk (Kept M)) → Type 0
  IsAtRest bs ms b = IsBusAt (Desk (Kept M)) (Desk Machine) (DeskStands seen) b.host b.drives (at_rest (Desk Machine) desk_step desk_says ms bs)
