-- A drive with direct access on lines, with the disk of an image. It represents no machine of named files; what is said here holds on any disk.
use Rattle.std.specs.Prelude.{ℕ, ℤ, ◌≡◌, ◌≤◌, ◌<◌, ◌^◌, ◌⊎◌, Bool, List, Option, Some, None}
use Rattle.cbm_file.specs.Files.{Disk}
use Rattle.cbm_iec.specs.Ports.{port_due, resting, told, told_act, reacted, reaction_act}
use Rattle.cbm_iec.specs.declared.lines.Lines.{Lines}
use Rattle.cbm_iec.specs.declared.party.Party.{Party}
use Rattle.cbm_iec.specs.declared.port.Port.{Port}
use Rattle.cbm_session.specs.Following.{IsInTime}
use Rattle.cbm_session.specs.Playing.{IsLaterDue}
use Rattle.cbm_machine.specs.Codes.{code_number}
use Rattle.cbm_machine.specs.Machines.{start}
use Rattle.cbm_channel.specs.Standing.{Stands}
use Rattle.cbm_direct.specs.Buffered.{three_free}
use Rattle.cbm_direct.specs.declared.access.Access.{Access}
use Rattle.cbm_direct.specs.declared.access.Access.TheVariants.{Guarded}
use Rattle.cbm_direct.specs.declared.vouch.Vouch.{Vouch}
use Rattle.cbm_direct.specs.declared.vouch.Vouch.TheVariants.{Sound, Unsound, Unknown}
use Rattle.cbm_direct.specs.Vouching.{IsSoundSince, access_of}
use Rattle.cbm_direct_desk.specs.DirectDesks.{DirectAddressed, direct_desk_shows, IsGivenDisk, IsStartedAgain}
use Rattle.cbm_drive.specs.Addressing.{paced, unaddressed}
use Rattle.cbm_drive.specs.Playback.{IsActed}
use Rattle.cbm_drive.specs.Seats.{Seated}
use Rattle.cbm_image.specs.Images.{kind_of, tracks_of, ImageHolds}
use Rattle.cbm_image.specs.declared.kind.Kind.{Kind}
use Rattle.cbm_device.specs.Answers.{GivesBytes}
use Rattle.cbm_device.specs.Devices.{after_atn, lines_after_clock, port_in_turn, IsDueBefore, IsUnsaved}
use Rattle.cbm_device.specs.ImageDisks.{Counted, counted_seen, IsDiskOf, IsImageIn}
use Rattle.cbm_device.specs.declared.device.DeviceReaction.{DeviceReaction}

-- a drive with direct access, the format of its disk's image, none where it has no disk, and when anything last happened
pub record DirectOnLines : Type 0 where
  pub seat : Seated (DirectAddressed Counted)
  pub kind : Option Kind
  pub latest : ℕ

-- the disk in it
abbrev pub disk_in : DirectOnLines → Counted
disk_in d = d.seat.machine.dos.vouched.dos.medium

-- what is known of it
abbrev pub vouch_in : DirectOnLines → Vouch
vouch_in d = d.seat.machine.dos.vouched.vouch

-- the number of its status
abbrev pub status_in : DirectOnLines → ℕ
status_in d = code_number d.seat.machine.dos.vouched.dos.told.status.code

-- A DRIVE WITH DIRECT ACCESS IS SWITCHED ON with the disk of an image: no channel has a buffer. Where the disk is sound, its DOS represents the machine of the
-- disk's files, and unless any sector may be written, it is known that it is sound.
pub record IsSwitchedOnDirect (image : List ℕ) (protected : Bool) (b : Party) (access : Access) (d : DirectOnLines) : Type 0 where
  pub disk : IsDiskOf image protected (disk_in d)
  pub kind : d.kind ≡ Some (kind_of image)
  pub port : d.seat.port ≡ resting b
  pub addressed : d.seat.machine.addressed ≡ paced b.pace (unaddressed b.device)
  pub first : d.latest ≡ 0
  pub buffers : d.seat.machine.dos.buffers ≡ three_free
  pub reply : d.seat.machine.dos.reply ≡ None
  pub allowed : access_of (vouch_in d) ≡ access
  pub sound : access ≡ Guarded → (x : Disk) → ImageHolds (kind_of image) image x → vouch_in d ≡ Sound 0
  pub stands : (x : Disk) → ImageHolds (kind_of image) image x → Stands counted_seen d.seat.machine.dos.vouched.dos (start x protected (tracks_of (kind_of image) image))

-- ---- lines that change

-- A change may come at this moment: nothing happened later, no reaction is due before, and it is below 2^60.
pub record IsOnTimeDirect (moment : ℕ) (d : DirectOnLines) : Type 0 where
  pub later : d.latest ≤ moment
  pub in_time : IsInTime moment (port_due d.seat.port)
  pub small : moment < 2 ^ 60

-- it may not
abbrev pub IsOutOfTimeDirect : ℕ → DirectOnLines → Type 0
IsOutOfTimeDirect moment d = (2 ^ 60 ≤ moment) ⊎ ((moment < d.latest) ⊎ IsDueBefore moment (port_due d.seat.port))

-- ITS MACHINE IS TOLD OF THE CHANGES of ATN, CLOCK and DATA in turn: after each it shows what a machine may show that acts so.
pub record ActsInTurn (t : ℕ) (was now : Lines) (p : Port) (old new : DirectAddressed Counted) : Type 0 where
  pub after_first : DirectAddressed Counted
  pub after_second : DirectAddressed Counted
  pub first : IsActed direct_desk_shows (told_act (after_atn was now) p) old after_first
  pub second : IsActed direct_desk_shows (told_act (lines_after_clock was now) (told t (after_atn was now) p)) after_first after_second
  pub third : IsActed direct_desk_shows (told_act now (told t (lines_after_clock was now) (told t (after_atn was now) p))) after_second new

-- A DRIVE WITH DIRECT ACCESS WAS TOLD OF LINES at a moment.
pub record HasHeardDirect (moment : ℕ) (others : Lines) (old new : DirectOnLines) : Type 0 where
  pub port : new.seat.port ≡ port_in_turn moment old.seat.port.others others old.seat.port
  pub machine : ActsInTurn moment old.seat.port.others others old.seat.port old.seat.machine new.seat.machine
  pub vouch : vouch_in new ≡ vouch_in old
  pub kind : new.kind ≡ old.kind
  pub latest : new.latest ≡ moment

-- ---- reactions

-- nothing is due by this moment, or only when no moment comes any more
abbrev pub HasNothingDueDirect : ℕ → DirectOnLines → Type 0
HasNothingDueDirect moment d = IsLaterDue moment (port_due d.seat.port) ⊎ IsInTime (2 ^ 60) (port_due d.seat.port)

-- THE REACTION THAT WAS DUE HAS HAPPENED, by what is shown; and these lines the drive held before and holds since.
pub record HasReactedDirect (r : DeviceReaction) (old new : DirectOnLines) : Type 0 where
  pub due : port_due old.seat.port ≡ Some r.moment
  pub port : new.seat.port ≡ reacted r.moment (direct_desk_shows old.seat.machine) old.seat.port
  pub machine : IsActed direct_desk_shows (reaction_act (direct_desk_shows old.seat.machine) old.seat.port) old.seat.machine new.seat.machine
  pub was : r.was ≡ old.seat.port.own
  pub now : r.now ≡ new.seat.port.own
  pub vouch : vouch_in new ≡ vouch_in old
  pub kind : new.kind ≡ old.kind
  pub latest : new.latest ≡ r.moment

-- ---- a new start, and another disk

-- IT WAS SWITCHED OFF AND ON with its disk: it has the same number and pace, no channel is open, and none has a buffer.
pub record IsRestartedDirect (old new : DirectOnLines) : Type 0 where
  pub port : new.seat.port ≡ resting old.seat.port.party
  pub machine : IsStartedAgain counted_seen old.seat.machine new.seat.machine
  pub kind : new.kind ≡ old.kind
  pub latest : new.latest ≡ old.latest

-- IT WAS GIVEN THIS DISK, of an image of this format, and goes on: its lines, its status and who is addressed stay; no channel is open, none has a buffer, and
-- unless any sector may be written, it is known whether this disk is sound.
pub record IsExchangedDirect (disk : Counted) (kind : Option Kind) (old new : DirectOnLines) : Type 0 where
  pub port : new.seat.port ≡ old.seat.port
  pub machine : IsGivenDisk counted_seen disk old.seat.machine new.seat.machine
  pub same_kind : new.kind ≡ kind
  pub latest : new.latest ≡ old.latest

-- the disk of another image
abbrev pub HasAnotherDiskDirect : List ℕ → Bool → DirectOnLines → DirectOnLines → Type 0
HasAnotherDiskDirect image protected old new = (disk : Counted) × IsDiskOf image protected disk × IsExchangedDirect disk (Some (kind_of image)) old new

-- ---- the image of the disk

-- a disk is sound, if it is known that it was put in so
abbrev pub ShowsSoundDisk : Vouch → Counted → Type 0
ShowsSoundDisk vouch disk = IsSoundSince vouch (counted_seen disk)

-- an image holds a disk, where it is known that it was put in sound
abbrev pub HoldsIfSound : Vouch → Kind → List ℕ → Type 0
HoldsIfSound (Sound since) kind image = (x : Disk) × ImageHolds kind image x
HoldsIfSound Unsound kind image = Unit {0}
HoldsIfSound Unknown kind image = Unit {0}

-- an image of the disk in a drive, in its format; sound, if it is known that the disk was put in so
abbrev pub IsImageFromDirect : DirectOnLines → List ℕ → Type 0
IsImageFromDirect d image = (kind : Kind) × (d.kind ≡ Some kind) × IsImageIn kind (disk_in d) image × HoldsIfSound (vouch_in d) kind image

-- THE IMAGE OF THE DISK IN A DRIVE WITH DIRECT ACCESS is given, or a number says why not.
abbrev pub GivesImageDirect : ℤ → List ℕ → List ℕ → ℕ → ℕ → DirectOnLines → Type 0
GivesImageDirect n old new before needed d = GivesBytes n old new before needed (IsImageFromDirect d) (IsUnsaved d.kind)
