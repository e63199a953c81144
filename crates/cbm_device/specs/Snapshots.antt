-- The whole state of a drive as bytes.
use Rattle.std.specs.Prelude.{ℕ, ◌≡◌, ◌⊎◌, ◌==◌, Bool, List, [], ◌∷◌, ◌++◌, length, Option, Some, None, if◌then◌else◌}
use Rattle.cbm_saved.specs.Steps.{◌>>=◌}
use Rattle.cbm_saved.specs.Numbers.{eight_bytes, eight_at}
use Rattle.cbm_saved.specs.Texts.{front_of}
use Rattle.cbm_saved.specs.Seals.{seal_opened, sealed}
use Rattle.cbm_channel.specs.Saved.{flag_byte}
use Rattle.cbm_channel.specs.Loaded.{is_flag}
use Rattle.cbm_drive.specs.Saved.{saved_seat, MaySit}
use Rattle.cbm_drive.specs.Loaded.{seat_at}
use Rattle.cbm_image.specs.declared.kind.Kind.{Kind}
use Rattle.cbm_image.specs.declared.kind.Kind.TheVariants as kind
use Rattle.cbm_image.specs.declared.any_disk.AnyDisk.TheVariants.{D64, G64}
use Rattle.cbm_g64.specs.NewFile.{base_of}
use Rattle.cbm_g64.specs.Rest.{g64_rest}
use Rattle.cbm_g64.specs.File.{g64_fault, g64_circles}
use Rattle.cbm_device.specs.declared.image_disk.saving.Parts.{Parts}
use Rattle.cbm_device.specs.declared.image_disk.Sectors.{Sectors}
use Rattle.cbm_device.specs.declared.image_disk.Sectors.TheVariants.{Held, Blank}
use Rattle.cbm_device.specs.declared.refusal.DeviceRefusal.{DeviceRefusal}
use Rattle.cbm_device.specs.declared.refusal.DeviceRefusal.TheVariants.{Memory, NoImage}
use Rattle.cbm_device.specs.ImageDisks.{Counted, counted_seen}
use Rattle.cbm_device.specs.Devices.{OnLines}

-- the version of the bytes
abbrev pub snapshot_version : ℕ
snapshot_version = 1

-- the parts of a disk: its format, its protection, the count of its writes, and its image
pub record DiskParts : Type 0 where
  pub format : ℕ
  pub protected : Bool
  pub writes : ℕ
  pub image : List ℕ

-- the parts as the code has them
abbrev pub parts_of : Parts → DiskParts
parts_of p = record { format = p.format; protected = p.protected; writes = p.writes; image = p.image.now }

-- these are the sectors of these parts: of a D64 its bytes; of a G64 an image with its 35 circles, and its bytes outside them; of no disk nothing
abbrev pub AreSectorsOf : DiskParts → Sectors → Type 0
AreSectorsOf p (Held (D64 disk)) = (p.format ≡ 1) × (p.protected ≡ disk.protected) × (p.image ≡ disk.bytes)
AreSectorsOf p (Held (G64 disk)) = (p.format ≡ 2) × (p.protected ≡ disk.protected) × (g64_fault p.image ≡ None) × (g64_circles p.image 35 ≡ disk.tracks)
    × (g64_rest p.image ≡ g64_rest (base_of disk.formatted disk.file))
AreSectorsOf p Blank = p.format ≡ 0

-- the parts of a disk, as bytes
abbrev pub saved_parts : DiskParts → List ℕ
saved_parts p = p.format ∷ flag_byte p.protected ∷ (eight_bytes p.writes ++ (eight_bytes (length p.image) ++ p.image))

-- a disk of these parts
pub record IsDiskWith (p : DiskParts) (d : Counted) : Type 0 where
  pub sectors : AreSectorsOf p d.sectors
  pub writes : p.writes ≡ d.writes

-- the bytes of the parts of sectors were added, which were written so often
abbrev pub AreSectorsKept : Sectors → ℕ → List ℕ → List ℕ → Type 0
AreSectorsKept s writes before after = (p : DiskParts) × AreSectorsOf p s × (p.writes ≡ writes) × (after ≡ before ++ saved_parts p)

-- the bytes of a disk's parts were added
abbrev pub IsKeptDisk : Counted → List ℕ → List ℕ → Type 0
IsKeptDisk d before after = (p : DiskParts) × IsDiskWith p d × (after ≡ before ++ saved_parts p)

-- why bytes are no drive: they are none of this version, or memory runs out
abbrev pub IsLoadRefusal : DeviceRefusal → Type 0
IsLoadRefusal r = (r ≡ NoImage) ⊎ (r ≡ Memory)

-- the parts of a disk, read from bytes, and what follows them
abbrev pub disk_parts_at : List ℕ → Option (DiskParts × List ℕ)
disk_parts_at (format ∷ protected ∷ rest) = do
  writes ← eight_at rest
  count ← eight_at writes.1
  image ← front_of count.0 count.1
  Some (record { format = format; protected = is_flag protected; writes = writes.0; image = image.0 }, image.1)
disk_parts_at _ = None

-- the number of the format in which the disk of a drive was put in, 0 without one
abbrev pub kind_number : Option Kind → ℕ
kind_number None = 0
kind_number (Some kind.D64) = 1
kind_number (Some kind.G64) = 2

-- the format of a number
abbrev pub kind_by : ℕ → Option Kind
kind_by n = if n == 1 then Some kind.D64 else if n == 2 then Some kind.G64 else None

-- what is under the seal: the format, the latest moment, the disk, and the drive
abbrev pub state_bytes : OnLines → DiskParts → List ℕ
state_bytes d p = kind_number d.kind ∷ (eight_bytes d.latest ++ (saved_parts p ++ saved_seat d.seat))

-- THE BYTES ARE A DRIVE'S WHOLE STATE.
pub record IsSnapshot (d : OnLines) (bytes : List ℕ) : Type 0 where
  pub parts : DiskParts
  pub disk : IsDiskWith parts d.seat.machine.dos.medium
  pub spelled : bytes ≡ sealed snapshot_version (state_bytes d parts)
  pub sits : MaySit (counted_seen d.seat.machine.dos.medium).tracks d.seat

-- so were these bytes added
abbrev pub IsKeptState : OnLines → List ℕ → List ℕ → Type 0
IsKeptState d before after = (p : DiskParts) × IsDiskWith p d.seat.machine.dos.medium × (after ≡ before ++ state_bytes d p)

-- a drive was read from what is under the seal
pub record IsStateOf (state : List ℕ) (d : OnLines) : Type 0 where
  pub number : ℕ
  pub body : List ℕ
  pub rest : List ℕ
  pub after : List ℕ
  pub parts : DiskParts
  pub begins : state ≡ number ∷ body
  pub format : d.kind ≡ kind_by number
  pub moment : eight_at body ≡ Some (d.latest, rest)
  pub has_parts : disk_parts_at rest ≡ Some (parts, after)
  pub disk : IsDiskWith parts d.seat.machine.dos.medium
  pub seat : seat_at d.seat.machine.dos.medium (counted_seen d.seat.machine.dos.medium).tracks after ≡ Some (d.seat, [])

-- A DRIVE WAS READ FROM BYTES under the seal of this version, of which nothing was left over.
pub record IsRestoredFrom (bytes : List ℕ) (d : OnLines) : Type 0 where
  pub state : List ℕ
  pub unsealed : seal_opened snapshot_version bytes ≡ Some state
  pub drive : IsStateOf state d

-- TWO DRIVES ARE THE SAME to all that is promised of a drive: the disks show the same and were written as often, though a G64 may have another
-- file around its tracks, and all else is equal.
pub record IsSameDrive (old new : OnLines) : Type 0 where
  pub port : new.seat.port ≡ old.seat.port
  pub addressed : new.seat.machine.addressed ≡ old.seat.machine.addressed
  pub channels : new.seat.machine.dos.channels ≡ old.seat.machine.dos.channels
  pub told : new.seat.machine.dos.told ≡ old.seat.machine.dos.told
  pub gathered : new.seat.machine.dos.text ≡ old.seat.machine.dos.text
  pub shows : counted_seen new.seat.machine.dos.medium ≡ counted_seen old.seat.machine.dos.medium
  pub writes : new.seat.machine.dos.medium.writes ≡ old.seat.machine.dos.medium.writes
  pub kind : new.kind ≡ old.kind
  pub latest : new.latest ≡ old.latest
