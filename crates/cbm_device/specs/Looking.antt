-- Looks into an image.
use Rattle.std.specs.Prelude.{ℕ, ◌≡◌, ◌≢◌, ◌⊎◌, List, Option, None, Result, Ok, Err}
use Rattle.cbm_medium.specs.Place.{Place, Has, directory_head}
use Rattle.cbm_file.specs.Files.{Disk}
use Rattle.cbm_bam.specs.Map.{geometry_of}
use Rattle.cbm_directory.specs.Slots.{Answers, directory_of}
use Rattle.cbm_volume.specs.Layouts.{Layout, Sound}
use Rattle.cbm_volume.specs.check.WholeDisk.{DiskFault}
use Rattle.cbm_volume.specs.declared.Unsound as unsound
use Rattle.cbm_channel.specs.declared.Code.TheVariants.{FileNotFound}
use Rattle.cbm_machine.specs.Codes.{code_number}
use Rattle.cbm_machine.specs.Finding.{found}
use Rattle.cbm_machine.specs.Machines.{Machine}
use Rattle.cbm_shell.specs.Listing.{opened}
use Rattle.cbm_shell.specs.Reading.{IsUnclosed, FindsRecords}
use Rattle.cbm_medium.specs.declared.fault.Trouble.{Trouble}
use Rattle.cbm_image.specs.Images.{kind_of, image_fault, tracks_of, content_of}
use Rattle.cbm_device.specs.declared.looking.Heading.{Heading}
use Rattle.cbm_device.specs.declared.refusal.DeviceRefusal.{DeviceRefusal}
use Rattle.cbm_device.specs.declared.refusal.DeviceRefusal.TheVariants.{Memory, Invalid, NoRoom, Absent, NoImage, Unsound, NoDrive, Status}
use Rattle.cbm_device.specs.ImageDisks.{IsOpenRefusal}

-- a disk's title, its id with the kind of DOS, and how many blocks are free
pub record IsTitleOf (d : Disk) (t : Heading) : Type 0 where
  pub title : t.label.title ≡ d.title
  pub mark : t.label.mark ≡ d.mark
  pub free : t.free ≡ d.free

-- why there is no title: the image isn't opened, or 18/0 doesn't read
abbrev pub IsUntitled : List ℕ → DeviceRefusal → Type 0
IsUntitled image (Status code) = content_of (kind_of image) image directory_head ≡ Err code
IsUntitled image Memory = IsOpenRefusal image Memory
IsUntitled image Invalid = IsOpenRefusal image Invalid
IsUntitled image NoRoom = IsOpenRefusal image NoRoom
IsUntitled image Absent = IsOpenRefusal image Absent
IsUntitled image NoImage = IsOpenRefusal image NoImage
IsUntitled image Unsound = IsOpenRefusal image Unsound
IsUntitled image NoDrive = IsOpenRefusal image NoDrive

-- what the directory of an image answers to a slot's number
abbrev pub SlotAnswers : List ℕ → ℕ → Result (Option (List ℕ)) Trouble → Type 0
SlotAnswers image slot = Answers (directory_of (geometry_of (tracks_of (kind_of image) image) (content_of (kind_of image) image)) (content_of (kind_of image) image)) slot

-- why there is no entry: the image isn't opened, the slot is past the last one, or the directory breaks off before it
abbrev pub IsNoDeviceEntry : List ℕ → ℕ → DeviceRefusal → Type 0
IsNoDeviceEntry image slot (Status code) = (t : Trouble) × (t.code ≡ code) × SlotAnswers image slot (Err t)
IsNoDeviceEntry image slot Absent = SlotAnswers image slot (Ok None)
IsNoDeviceEntry image slot Memory = IsOpenRefusal image Memory
IsNoDeviceEntry image slot Invalid = IsOpenRefusal image Invalid
IsNoDeviceEntry image slot NoRoom = IsOpenRefusal image NoRoom
IsNoDeviceEntry image slot NoImage = IsOpenRefusal image NoImage
IsNoDeviceEntry image slot Unsound = IsOpenRefusal image Unsound
IsNoDeviceEntry image slot NoDrive = IsOpenRefusal image NoDrive

-- why there are no bytes of a sector: the image isn't opened, the disk has no such sector, or a fault stands in their place
abbrev pub IsNoSector : List ℕ → Place → DeviceRefusal → Type 0
IsNoSector image p (Status code) = content_of (kind_of image) image p ≡ Err code
IsNoSector image p Absent = Has (tracks_of (kind_of image) image) p → ⊥
IsNoSector image p Memory = IsOpenRefusal image Memory
IsNoSector image p Invalid = IsOpenRefusal image Invalid
IsNoSector image p NoRoom = IsOpenRefusal image NoRoom
IsNoSector image p NoImage = IsOpenRefusal image NoImage
IsNoSector image p Unsound = IsOpenRefusal image Unsound
IsNoSector image p NoDrive = IsOpenRefusal image NoDrive

-- ---- what the drive sends of a disk

-- an image has no fault of its format
abbrev pub IsAccepted : List ℕ → Type 0
IsAccepted image = image_fault (kind_of image) image ≡ None

-- a call is refused: an image with a fault for that one, or for want of memory
abbrev pub IsLookRefused : List ℕ → DeviceRefusal → Type 0
IsLookRefused image r = IsAccepted image ⊎ IsOpenRefusal image r

-- the disk of an image is sound
abbrev pub IsSound : List ℕ → Type 0
IsSound image = let content = content_of (kind_of image) image in (l : Layout) × Sound (geometry_of (tracks_of (kind_of image) image) content) content l

-- it isn't, and this is wrong with it first
abbrev pub IsUnsound : List ℕ → Type 0
IsUnsound image = let content = content_of (kind_of image) image in (u : unsound.Unsound) × DiskFault (geometry_of (tracks_of (kind_of image) image) content) content u

-- why the directory of a sound disk isn't sent: the image isn't opened, memory runs out, or the machine refused it with this status
abbrev pub IsUnsent : List ℕ → List ℕ → Machine → DeviceRefusal → Type 0
IsUnsent image pattern m (Status code) = (code ≡ code_number (opened pattern m).status.code) × (code_number (opened pattern m).status.code ≢ 0)
IsUnsent image pattern m Memory = Unit {0}
IsUnsent image pattern m NoImage = IsOpenRefusal image NoImage
IsUnsent image pattern m Invalid = ⊥
IsUnsent image pattern m NoRoom = ⊥
IsUnsent image pattern m Absent = ⊥
IsUnsent image pattern m Unsound = ⊥
IsUnsent image pattern m NoDrive = ⊥

-- why a file of a sound disk isn't got: the image isn't opened, memory runs out, no file matches, or the first one that does was never closed; one with records
-- may have a sector that doesn't read
abbrev pub IsUngot : List ℕ → Disk → List ℕ → DeviceRefusal → Type 0
IsUngot image d pattern (Status code) = ((code ≡ 60) × IsUnclosed d pattern) ⊎ FindsRecords d pattern
IsUngot image d pattern Memory = Unit {0}
IsUngot image d pattern Absent = found d pattern None ≡ Err FileNotFound
IsUngot image d pattern NoImage = IsOpenRefusal image NoImage
IsUngot image d pattern Invalid = ⊥
IsUngot image d pattern NoRoom = ⊥
IsUngot image d pattern Unsound = ⊥
IsUngot image d pattern NoDrive = ⊥
