-- What C is told of the drive of a handle.
use Rattle.std.specs.Prelude.{ℕ, ℤ, ◌≡◌, ◌≢◌, ◌≤◌, ◌<◌, ◌^◌, ◌-◌, ◌⊎◌, Bool, true, false, not, ◌==◌, if◌then◌else◌, List, Option, Some, None}
use Rattle.cbm_iec.specs.declared.lines.Held.{Held}
use Rattle.cbm_iec.specs.declared.lines.Lines.{Lines}
use Rattle.cbm_iec.specs.declared.pace.Pace.{Pace}
use Rattle.cbm_iec.specs.declared.pace.Pace.TheVariants.{Profile, Kernal}
use Rattle.cbm_iec.specs.declared.party.Party.{Party}
use Rattle.cbm_machine.specs.Machines.{Machine}
use Rattle.cbm_drive.specs.Desks.{Desk}
use Rattle.cbm_drive.specs.Seats.{Seated}
use Rattle.cbm_device.specs.declared.refusal.DeviceRefusal.{DeviceRefusal}
use Rattle.cbm_device.specs.declared.refusal.DeviceRefusal.TheVariants.{Memory, Invalid, Absent, NoDrive}
use Rattle.cbm_device.specs.declared.device.DeviceReaction.{DeviceReaction}
use Rattle.cbm_device.specs.Answers.{fine, answer_number}
use Rattle.cbm_device.specs.Devices.{OnLines, StandsFor, react_at, tell_in_turn, IsUnfitParty, IsOnTime, IsOutOfTime, HasHeard, DeviceHasReacted, HasNothingDue, HasAnotherDisk, IsExchanged, GivesImage}
use Rattle.cbm_device.specs.ImageDisks.{no_disk, IsOpenRefusal}
use Rattle.cbm_direct_device.specs.DirectDevices.{DirectOnLines}
use Rattle.yellowadze1541.specs.AnyDevices.{ActsOn}
use Rattle.yellowadze1541.specs.Looks.{flag}
use Rattle.yellowadze1541.specs.declared.any_device.AnyDevice.{AnyDevice}
use Rattle.yellowadze1541.specs.declared.inner.Inner.{Inner}
use Rattle.yellowadze1541.specs.declared.shapes.Reacted.{Reacted}
use Rattle.yellowadze1541.specs.declared.shapes.Pulls.{Pulls}

-- A CALL ON THE DRIVE OF A HANDLE: the handle held one and holds one, of which this is said without direct access, and that with it; or it held none and holds
-- none, and -7 says so.
abbrev pub Acts : Option Inner → Option Inner → ℤ → (OnLines → OnLines → Type 0) → (DirectOnLines → DirectOnLines → Type 0) → Type 0
Acts None None n Does DoesDirect = n ≡ answer_number NoDrive
Acts (Some old) (Some new) n Does DoesDirect = ActsOn Does DoesDirect old.device new.device
Acts None (Some new) n Does DoesDirect = ⊥
Acts (Some old) None n Does DoesDirect = ⊥

-- a number that C passes for yes or no
abbrev pub is_set : ℕ → Bool
is_set n = not (n == 0)

-- the pace of a number
abbrev pub pace_of : ℕ → Pace
pace_of n = if n == 0 then Profile else Kernal

-- a drive of these numbers
abbrev pub party_from : ℕ → ℕ → ℕ → Party
party_from device reaction pace = record { device = device; reaction = reaction; pace = pace_of pace }

-- why a handle isn't opened: it holds a drive, an argument is out of its range, or the image isn't opened
abbrev pub IsNotOpened : Option Inner → List ℕ → Party → ℕ → DeviceRefusal → Type 0
IsNotOpened old image b pace r =
    ((r ≡ NoDrive) × (old ≢ None)) ⊎ (((r ≡ Invalid) × (IsUnfitParty b ⊎ (1 < pace))) ⊎ ((r ≡ Memory) ⊎ IsOpenRefusal image r))

-- A HANDLE IS OPENED: it held none, and holds such a drive, which is switched on with the disk of the image; or a number says why not, and it holds what it held.
abbrev pub Opens : Option Inner → Option Inner → ℤ → List ℕ → Party → ℕ → (AnyDevice → Type 0) → Type 0
Opens old new n image b pace IsOn =
    ((n ≡ fine) × (old ≡ None) × (pace ≤ 1) × ((inner : Inner) × (new ≡ Some inner) × IsOn inner.device))
    ⊎ ((new ≡ old) × ((r : DeviceRefusal) × (n ≡ answer_number r) × IsNotOpened old image b pace r))

-- the lines that C says are low
abbrev pub lines_from_flags : ℕ → ℕ → ℕ → Lines
lines_from_flags atn clock data_low = record { atn_low = is_set atn; clock_low = is_set clock; data_low = is_set data_low }

-- THE DRIVE IS TOLD OF LINES, and with it each machine that it represents; or it isn't the moment for them, and nothing has changed.
abbrev pub Hears : ℕ → Lines → ℤ → OnLines → OnLines → Type 0
Hears moment others n old new =
    ((n ≡ fine) × IsOnTime moment old × HasHeard moment others old new
    × ((s : Seated (Desk Machine)) → StandsFor old.seat s → StandsFor new.seat (tell_in_turn moment old.seat.port.others others s)))
    ⊎ ((n ≡ answer_number Invalid) × IsOutOfTime moment old × (new ≡ old))

-- a moment, or the greatest number for never
abbrev pub moment_or_never : Option ℕ → ℕ
moment_or_never None = 2 ^ 64 - 1
moment_or_never (Some t) = t

-- the lines that a drive holds
abbrev pub IsHeldAs : Held → Pulls → Type 0
IsHeldAs own p = (p.clock_low ≡ flag own.clock_low) × (p.data_low ≡ flag own.data_low)

-- one of them is another than before
abbrev pub differs : Bool → Bool → Bool
differs true b = not b
differs false b = b

-- what C is told of a reaction
pub record IsTold (r : DeviceReaction) (t : Reacted) : Type 0 where
  pub moment : t.moment ≡ r.moment
  pub clock : t.clock_low ≡ flag r.now.clock_low
  pub data_low : t.data_low ≡ flag r.now.data_low
  pub clock_changed : t.clock_changed ≡ flag (differs r.was.clock_low r.now.clock_low)
  pub data_changed : t.data_changed ≡ flag (differs r.was.data_low r.now.data_low)

-- THE REACTION THAT WAS DUE HAPPENED, and that of each machine that the drive represents, and C is told of it; or none was due, and nothing has changed.
abbrev pub Reacts : ℕ → ℤ → Reacted → Reacted → OnLines → OnLines → Type 0
Reacts moment n before told old new =
    ((n ≡ fine) × ((r : DeviceReaction) × (r.moment ≤ moment) × DeviceHasReacted r old new × IsTold r told
    × ((s : Seated (Desk Machine)) → StandsFor old.seat s → StandsFor new.seat (react_at r.moment s))))
    ⊎ ((n ≡ answer_number Absent) × HasNothingDue moment old × (new ≡ old) × (told ≡ before))

-- ---- the disk

-- THE DISK IS TAKEN OUT of a drive that goes on, and its image is given; or it isn't given, and nothing has changed.
abbrev pub Ejects : ℤ → List ℕ → List ℕ → ℕ → ℕ → OnLines → OnLines → Type 0
Ejects n out out_new before needed old new =
    GivesImage n out out_new before needed old × (((n ≡ fine) × IsExchanged no_disk None old new) ⊎ ((n ≢ fine) × (new ≡ old)))

-- another disk is put in, while the drive goes on; or the image isn't opened, and nothing has changed
abbrev pub Inserts : ℤ → List ℕ → Bool → OnLines → OnLines → Type 0
Inserts n image protected old new =
    ((n ≡ fine) × HasAnotherDisk image protected old new) ⊎ ((new ≡ old) × ((r : DeviceRefusal) × (n ≡ answer_number r) × IsOpenRefusal image r))
