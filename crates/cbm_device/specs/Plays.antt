-- A drive that is switched on and played under a list of line changes.
use Rattle.std.specs.Prelude.{ℕ, ◌≡◌, ◌≤◌, ◌+◌, List, [], ◌∷◌, ◌++◌}
use Rattle.cbm_iec.specs.declared.event.Event.{Event}
use Rattle.cbm_iec.specs.declared.lines.Change.{Change}
use Rattle.cbm_iec.specs.declared.party.Party.{Party}
use Rattle.cbm_session.specs.Playing.{Station, Plays, at_rest}
use Rattle.cbm_machine.specs.Machines.{Machine}
use Rattle.cbm_channel.specs.Standing.{Kept}
use Rattle.cbm_drive.specs.Desks.{Desk, at_first, with_pace, desk_step, desk_says}
use Rattle.cbm_drive.specs.Ordered.{host_changes}
use Rattle.cbm_drive.specs.Seats.{Seated}
use Rattle.cbm_volume.specs.Holding.{HoldsDisk}
use Rattle.cbm_device.specs.ImageDisks.{Counted, counted_seen}

-- a drive at power up, above it the machine of its files
abbrev pub machine_of : Party → Machine → ℕ → Desk Machine
machine_of b m device = with_pace b.pace (at_first b.device m)

-- a drive at power up alone on a bus, as a station
abbrev pub drive_powered : Party → Machine → List (Station (Desk Machine))
drive_powered b m = at_rest (Desk Machine) desk_step desk_says (machine_of b m) (b ∷ [])

-- the disk of the one drive of a bus
abbrev pub IsDiskIn : List (Seated (Desk (Kept Counted))) → Counted → Type 0
IsDiskIn xs disk = (x : Seated (Desk (Kept Counted))) × (xs ≡ x ∷ []) × (disk ≡ x.machine.dos.medium)

-- ALL WAS PLAYED: these events were added, which are what a drive does from power up under a host that makes these changes; nothing is due at the end
-- or before it; and the disk that is left means that of the drive's machine. Where the host kept the bus's timing the events are a beginning of a session,
-- in which each byte talked is the machine's answer to the bytes sent, and no reaction is late.
pub record HasPlayedAll (b : Party) (m : Machine) (changes : List Change) (end : ℕ) (old new : List Event) (after : Counted) : Type 0 where
  pub made : List Event
  pub from : ℕ
  pub station : Station (Desk Machine)
  pub added : new ≡ old ++ made
  pub plays : Plays (Desk Machine) desk_step desk_says 0 (drive_powered b m) made from (station ∷ [])
  pub hosts : host_changes made ≡ changes
  pub within : from ≤ end + 1
  pub holds : HoldsDisk (counted_seen after).tracks (counted_seen after).content station.machine.dos.disk
