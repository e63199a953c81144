-- A drive on lines, with the disk of an image.
use Rattle.std.specs.Prelude.{ℕ, ℤ, ◌≡◌, ◌≤◌, ◌<◌, ◌^◌, ◌⊎◌, Bool, List, Option, Some, None}
use Rattle.cbm_iec.specs.Machines.{acted}
use Rattle.cbm_iec.specs.Ports.{port_due, resting, told, told_act, reacted, reaction_act}
use Rattle.cbm_iec.specs.declared.lines.Lines.{Lines}
use Rattle.cbm_iec.specs.declared.machine.Act.{Act}
use Rattle.cbm_iec.specs.declared.party.Party.{Party}
use Rattle.cbm_iec.specs.declared.port.Port.{Port}
use Rattle.cbm_session.specs.Following.{IsInTime}
use Rattle.cbm_session.specs.Playing.{IsLaterDue}
use Rattle.cbm_file.specs.Files.{Disk}
use Rattle.cbm_machine.specs.Machines.{Machine, start}
use Rattle.cbm_channel.specs.Standing.{Kept}
use Rattle.cbm_channel.specs.Exchanged.{still_telling}
use Rattle.cbm_drive.specs.Afresh.{switched_on, restarted, with_another}
use Rattle.cbm_drive.specs.Desks.{Desk, DeskStands, at_first, with_pace, desk_step, desk_says, desk_shows}
use Rattle.cbm_drive.specs.Playback.{IsActed}
use Rattle.cbm_drive.specs.Seats.{Seated}
use Rattle.cbm_volume.specs.Holding.{HoldsDisk}
use Rattle.cbm_image.specs.Images.{kind_of, tracks_of, ImageHolds}
use Rattle.cbm_image.specs.declared.kind.Kind.{Kind}
use Rattle.cbm_device.specs.declared.refusal.DeviceRefusal.{DeviceRefusal}
use Rattle.cbm_device.specs.declared.refusal.DeviceRefusal.TheVariants.{Memory, Invalid, NoRoom, Absent, NoImage, Unsound, NoDrive, Status}
use Rattle.cbm_device.specs.Answers.{GivesBytes}
use Rattle.cbm_device.specs.ImageDisks.{Counted, counted_seen, IsDiskOf, IsImageIn}
use Rattle.cbm_device.specs.declared.device.DeviceReaction.{DeviceReaction}

-- a drive, the format of its disk's image, none where it has no disk, and when anything last happened
pub record OnLines : Type 0 where
  pub seat : Seated (Desk (Kept Counted))
  pub kind : Option Kind
  pub latest : ℕ

-- a drive has the number 8 to 11, and reacts after 1 to 60 microseconds
abbrev pub IsUnfitParty : Party → Type 0
IsUnfitParty b = ((b.device < 8) ⊎ (11 < b.device)) ⊎ ((b.reaction < 1) ⊎ (60 < b.reaction))

-- an act of the bus, or none, leads the desk from each machine that it represents to that machine's next state
abbrev pub LeadsDesk : Option Act → Desk (Kept Counted) → Desk (Kept Counted) → Type 0
LeadsDesk act old new = (m : Desk Machine) → DeskStands counted_seen old m → DeskStands counted_seen new (acted (Desk Machine) desk_step act m)

-- switched on with this disk, the desk represents the machine of its files, if it is sound
abbrev pub StandsPowered : Counted → Party → Desk (Kept Counted) → Type 0
StandsPowered disk b desk = (d : Disk) → HoldsDisk (counted_seen disk).tracks (counted_seen disk).content d
    → DeskStands counted_seen desk (with_pace b.pace (at_first b.device (start d (counted_seen disk).protected (counted_seen disk).tracks)))

-- A DRIVE THAT IS SWITCHED ON with the disk of an image; where that is sound, it represents the machine of its files.
pub record IsSwitchedOn (image : List ℕ) (protected : Bool) (b : Party) (d : OnLines) : Type 0 where
  pub disk : IsDiskOf image protected d.seat.machine.dos.medium
  pub kind : d.kind ≡ Some (kind_of image)
  pub port : d.seat.port ≡ resting b
  pub machine : d.seat.machine ≡ switched_on b.device b.pace d.seat.machine.dos.medium
  pub first : d.latest ≡ 0
  pub stands : (x : Disk) → ImageHolds (kind_of image) image x
      → DeskStands counted_seen d.seat.machine (with_pace b.pace (at_first b.device (start x protected (tracks_of (kind_of image) image))))

-- A drive represents another one: the same port, and above it the machine of its files.
abbrev pub StandsFor : Seated (Desk (Kept Counted)) → Seated (Desk Machine) → Type 0
StandsFor x s = (x.port ≡ s.port) × DeskStands counted_seen x.machine s.machine

-- ---- lines that change

-- the lines after ATN changed, which is the first to change
abbrev pub after_atn : Lines → Lines → Lines
after_atn was now = record { atn_low = now.atn_low; clock_low = was.clock_low; data_low = was.data_low }

-- the lines after ATN and CLOCK changed; DATA is the last to change
abbrev pub lines_after_clock : Lines → Lines → Lines
lines_after_clock was now = record { atn_low = now.atn_low; clock_low = now.clock_low; data_low = was.data_low }

-- a port that is told of the changes of ATN, CLOCK and DATA in turn
abbrev pub port_in_turn : ℕ → Lines → Lines → Port → Port
port_in_turn t was now p = told t now (told t (lines_after_clock was now) (told t (after_atn was now) p))

-- a drive that is told of the lines at a moment
abbrev pub tell_lines : ℕ → Lines → Seated (Desk Machine) → Seated (Desk Machine)
tell_lines t now s = record { port = told t now s.port; machine = acted (Desk Machine) desk_step (told_act now s.port) s.machine }

-- a drive that is told of the changes of ATN, CLOCK and DATA in turn
abbrev pub tell_in_turn : ℕ → Lines → Lines → Seated (Desk Machine) → Seated (Desk Machine)
tell_in_turn t was now s = tell_lines t now (tell_lines t (lines_after_clock was now) (tell_lines t (after_atn was now) s))

-- a reaction is due before a moment
abbrev pub IsDueBefore : ℕ → Option ℕ → Type 0
IsDueBefore moment None = ⊥
IsDueBefore moment (Some t) = t < moment

-- A change may come at this moment: nothing happened later, no reaction is due before, and it is below 2^60.
pub record IsOnTime (moment : ℕ) (d : OnLines) : Type 0 where
  pub later : d.latest ≤ moment
  pub in_time : IsInTime moment (port_due d.seat.port)
  pub small : moment < 2 ^ 60

-- it may not
abbrev pub IsOutOfTime : ℕ → OnLines → Type 0
IsOutOfTime moment d = (2 ^ 60 ≤ moment) ⊎ ((moment < d.latest) ⊎ IsDueBefore moment (port_due d.seat.port))

-- A DRIVE WAS TOLD OF LINES at a moment.
pub record HasHeard (moment : ℕ) (others : Lines) (old new : OnLines) : Type 0 where
  pub port : new.seat.port ≡ port_in_turn moment old.seat.port.others others old.seat.port
  pub kind : new.kind ≡ old.kind
  pub latest : new.latest ≡ moment

-- ---- reactions

-- nothing is due by this moment, or only when no moment comes any more
abbrev pub HasNothingDue : ℕ → OnLines → Type 0
HasNothingDue moment d = IsLaterDue moment (port_due d.seat.port) ⊎ IsInTime (2 ^ 60) (port_due d.seat.port)

-- THE REACTION THAT WAS DUE HAS HAPPENED, on any disk; and these lines the drive held before and holds since.
pub record DeviceHasReacted (r : DeviceReaction) (old new : OnLines) : Type 0 where
  pub due : port_due old.seat.port ≡ Some r.moment
  pub port : new.seat.port ≡ reacted r.moment (desk_shows old.seat.machine) old.seat.port
  pub machine : IsActed desk_shows (reaction_act (desk_shows old.seat.machine) old.seat.port) old.seat.machine new.seat.machine
  pub was : r.was ≡ old.seat.port.own
  pub now : r.now ≡ new.seat.port.own
  pub kind : new.kind ≡ old.kind
  pub latest : new.latest ≡ r.moment

-- the reaction of a drive with a machine that it represents
abbrev pub react_at : ℕ → Seated (Desk Machine) → Seated (Desk Machine)
react_at t s = record {
  port = reacted t (desk_says s.machine) s.port;
  machine = acted (Desk Machine) desk_step (reaction_act (desk_says s.machine) s.port) s.machine;
}

-- ---- a new start, and another disk

-- A DRIVE WAS SWITCHED OFF AND ON with its disk: it has the same number and pace, no channel is open, and it reports what a drive does at power up, whatever the
-- disk holds; where that is one of files, it represents the machine of these.
pub record IsRestarted (old new : OnLines) : Type 0 where
  pub port : new.seat.port ≡ resting old.seat.port.party
  pub machine : new.seat.machine ≡ restarted old.seat.machine
  pub kind : new.kind ≡ old.kind
  pub latest : new.latest ≡ old.latest
  pub stands : (d : Disk) → HoldsDisk (counted_seen old.seat.machine.dos.medium).tracks (counted_seen old.seat.machine.dos.medium).content d
      → DeskStands counted_seen new.seat.machine (with_pace old.seat.machine.addressed.pace
      (at_first old.seat.machine.addressed.device (start d (counted_seen old.seat.machine.dos.medium).protected (counted_seen old.seat.machine.dos.medium).tracks)))

-- A DRIVE THAT GOES ON WAS GIVEN THIS DISK, of an image of this format: what it does on its lines, what it reports and who is addressed stay, and no channel is open, whatever the
-- disk holds; where that is one of files, it represents the machine of these.
pub record IsExchanged (disk : Counted) (kind : Option Kind) (old new : OnLines) : Type 0 where
  pub port : new.seat.port ≡ old.seat.port
  pub machine : new.seat.machine ≡ with_another disk old.seat.machine
  pub same_kind : new.kind ≡ kind
  pub latest : new.latest ≡ old.latest
  pub stands : (d : Disk) → HoldsDisk (counted_seen disk).tracks (counted_seen disk).content d → DeskStands counted_seen new.seat.machine
      (record { dos = still_telling old.seat.machine.dos.told (start d (counted_seen disk).protected (counted_seen disk).tracks); addressed = old.seat.machine.addressed })

-- the disk of another image
abbrev pub HasAnotherDisk : List ℕ → Bool → OnLines → OnLines → Type 0
HasAnotherDisk image protected old new = (disk : Counted) × IsDiskOf image protected disk × IsExchanged disk (Some (kind_of image)) old new

-- ---- the image of the disk

-- why a drive gives no image: memory runs out, or it has no disk
abbrev pub IsUnsaved : Option Kind → DeviceRefusal → Type 0
IsUnsaved kind Memory = Unit {0}
IsUnsaved kind Absent = kind ≡ None
IsUnsaved kind Invalid = ⊥
IsUnsaved kind NoRoom = ⊥
IsUnsaved kind NoImage = ⊥
IsUnsaved kind Unsound = ⊥
IsUnsaved kind NoDrive = ⊥
IsUnsaved kind (Status code) = ⊥

-- an image of the disk in a drive, in its format
abbrev pub IsImageFrom : OnLines → List ℕ → Type 0
IsImageFrom d image = (kind : Kind) × (d.kind ≡ Some kind) × IsImageIn kind d.seat.machine.dos.medium image

-- THE IMAGE OF THE DISK IN A DRIVE is given, or a number says why not.
abbrev pub GivesImage : ℤ → List ℕ → List ℕ → ℕ → ℕ → OnLines → Type 0
GivesImage n old new before needed d = GivesBytes n old new before needed (IsImageFrom d) (IsUnsaved d.kind)
