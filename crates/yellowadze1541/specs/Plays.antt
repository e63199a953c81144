-- A drive that is played under a list of line changes, as C is told of it.
use Rattle.std.specs.Prelude.{ℕ, ℤ, ◌≡◌, ◌≤◌, ◌<◌, ◌^◌, ◌⊎◌, List, [], ◌++◌, length, map, drop, false, Some, None, IsSome}
use Rattle.cbm_iec.specs.declared.event.Event.{Event}
use Rattle.cbm_iec.specs.declared.lines.Change.{Change}
use Rattle.cbm_iec.specs.declared.party.Party.{Party}
use Rattle.cbm_file.specs.Files.{Disk}
use Rattle.cbm_machine.specs.Machines.{start}
use Rattle.cbm_drive.specs.Ordered.{fault_of}
use Rattle.cbm_image.specs.Images.{kind_of, tracks_of, ImageHolds}
use Rattle.cbm_device.specs.declared.refusal.DeviceRefusal.{DeviceRefusal}
use Rattle.cbm_device.specs.declared.refusal.DeviceRefusal.TheVariants.{Memory, Invalid, NoRoom, Absent, NoImage, Unsound, NoDrive, Status}
use Rattle.cbm_device.specs.Answers.{fine, answer_number}
use Rattle.cbm_device.specs.Devices.{IsUnfitParty}
use Rattle.cbm_device.specs.ImageDisks.{Counted, IsImageIn, IsOpenRefusal}
use Rattle.cbm_device.specs.Looking.{IsAccepted}
use Rattle.cbm_device.specs.Plays.{HasPlayedAll}
use Rattle.yellowadze1541.specs.declared.shapes.Signal.{Signal}
use Rattle.yellowadze1541.specs.Signals.{changes_of, signal_of}

-- the caller's rooms for events and an image, and how many there are
pub record Rooms : Type 0 where
  pub events : List Signal
  pub count : ℕ
  pub image : List ℕ
  pub needed : ℕ

-- these rooms and these numbers, as one record
abbrev pub rooms : List Signal → ℕ → List ℕ → ℕ → Rooms
rooms events count image needed = record { events = events; count = count; image = image; needed = needed }

-- ALL IS HANDED OVER: how many events and bytes there are is reported, and they are the beginnings of the rooms, in which all else is as it was; or a room is too
-- small, and both are as they were.
abbrev pub HandsOut : ℤ → List Event → List ℕ → Rooms → Rooms → Type 0
HandsOut n es bytes old new = (new.count ≡ length es) × (new.needed ≡ length bytes)
    × (((n ≡ fine) × (new.events ≡ map signal_of es ++ drop (length es) old.events) × (new.image ≡ bytes ++ drop (length bytes) old.image))
    ⊎ ((n ≡ answer_number NoRoom) × (new.events ≡ old.events) × (new.image ≡ old.image) × ((length old.events < length es) ⊎ (length old.image < length bytes))))

-- A DRIVE WAS PLAYED under the changes that these signals ask for, none of which is at fault, and this disk is left. Of a sound disk these are what a drive does
-- from power up under them, and the disk that is left means its machine's.
pub record IsSignalPlay (image : List ℕ) (b : Party) (signals : List Signal) (end : ℕ) (before after : List Event) (left : Counted) : Type 0 where
  pub changes : List Change
  pub asked : changes_of signals ≡ Some changes
  pub orderly : fault_of 0 0 end changes ≡ None
  pub accepted : IsAccepted image
  pub means : (d : Disk) → ImageHolds (kind_of image) image d → HasPlayedAll b (start d false (tracks_of (kind_of image) image)) changes end before after left

-- why nothing was played: a line is none, a change goes back in time or comes after the end, the image isn't opened, or memory runs out
abbrev pub IsUnplayed : List ℕ → List Signal → ℕ → DeviceRefusal → Type 0
IsUnplayed image signals end Invalid = (changes_of signals ≡ None) ⊎ ((cs : List Change) × (changes_of signals ≡ Some cs) × IsSome (fault_of 0 0 end cs))
IsUnplayed image signals end Memory = Unit {0}
IsUnplayed image signals end NoImage = IsOpenRefusal image NoImage
IsUnplayed image signals end NoRoom = ⊥
IsUnplayed image signals end Absent = ⊥
IsUnplayed image signals end Unsound = ⊥
IsUnplayed image signals end NoDrive = ⊥
IsUnplayed image signals end (Status code) = ⊥

-- an argument is out of its range
abbrev pub IsOutOfRange : Party → ℕ → ℕ → Type 0
IsOutOfRange b pace end = IsUnfitParty b ⊎ ((1 < pace) ⊎ (2 ^ 59 ≤ end))

-- EVERY PLAY, of any image: its events, and the image of the disk that is left in the format of the one that was passed, are handed over; or none was made for
-- such a reason, and nothing has changed.
abbrev pub PlaysAll : ℤ → List ℕ → Party → ℕ → List Signal → ℕ → Rooms → Rooms → Type 0
PlaysAll n image b pace signals end old new =
    ((es : List Event) × (left : Counted) × (bytes : List ℕ) × IsSignalPlay image b signals end [] es left × IsImageIn (kind_of image) left bytes × HandsOut n es bytes old new)
    ⊎ ((r : DeviceRefusal) × (((r ≡ Invalid) × IsOutOfRange b pace end) ⊎ IsUnplayed image signals end r) × (n ≡ answer_number r) × (new ≡ old))
