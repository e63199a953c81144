-- What is done with the bytes of an image.
use Rattle.std.specs.Prelude.{ℕ, ◌≡◌, List, false, Some, None, Result, Ok, Err}
use Rattle.cbm_medium.specs.Content.{Content}
use Rattle.cbm_medium.specs.Seen.{Seen}
use Rattle.cbm_file.specs.Files.{Disk}
use Rattle.cbm_file.specs.Changes.{validated}
use Rattle.cbm_bam.specs.Map.{geometry_of}
use Rattle.cbm_volume.specs.Holding.{HoldsDisk}
use Rattle.cbm_volume.specs.Sweeps.{IsPutInOrder}
use Rattle.cbm_volume.specs.Layouts.{Layout, Sound}
use Rattle.cbm_volume.specs.check.WholeDisk.{DiskFault}
use Rattle.cbm_volume.specs.declared.Unsound.{Unsound}
use Rattle.cbm_machine.specs.Machines.{Machine, start}
use Rattle.cbm_image.specs.declared.kind.Kind.{Kind}
use Rattle.cbm_image.specs.Images.{kind_of, image_fault, tracks_of, content_of, outside_of, ImageHolds}
use Rattle.cbm_shell.specs.declared.changing.DiskChange.{DiskChange}
use Rattle.cbm_shell.specs.declared.fault.ShellFault.{ShellFault}
use Rattle.cbm_shell.specs.declared.fault.ShellFault.TheVariants as fault
use Rattle.cbm_shell.specs.Reading.{IsGetFault, ShowsFile}
use Rattle.cbm_shell.specs.Listing.{IsUnlisted}
use Rattle.cbm_shell.specs.Changing.{disk_after_change, IsFine, IsUndone}

-- the disk of an image: it shows what the image is, and can be written
pub record IsImageOpened (image : List ℕ) (seen : Seen) : Type 0 where
  pub same_tracks : seen.tracks ≡ tracks_of (kind_of image) image
  pub same_content : seen.content ≡ content_of (kind_of image) image
  pub same_outside : seen.outside ≡ outside_of (kind_of image) image
  pub free : seen.protected ≡ false

-- an image of this format is what the disk shows, and opens again
pub record IsSaved (kind : Kind) (image : List ℕ) (seen : Seen) : Type 0 where
  pub faultless : image_fault kind image ≡ None
  pub same_tracks : seen.tracks ≡ tracks_of kind image
  pub same_content : seen.content ≡ content_of kind image
  pub same_outside : seen.outside ≡ outside_of kind image

-- why an image isn't opened: its own fault, or want of memory
abbrev pub IsOpenFault : List ℕ → ShellFault → Type 0
IsOpenFault image fault.Memory = Unit {0}
IsOpenFault image (fault.Image n) = image_fault (kind_of image) image ≡ Some n
IsOpenFault image (fault.Unsound u) = ⊥
IsOpenFault image (fault.Refused s) = ⊥
IsOpenFault image (fault.Trouble t) = ⊥
IsOpenFault image fault.NotFound = ⊥
IsOpenFault image fault.NotClosed = ⊥
IsOpenFault image fault.Mistaken = ⊥

-- an image is refused for its own fault, or memory runs out, or else it is this fault
abbrev pub OrOpenFault : List ℕ → (ShellFault → Type 0) → ShellFault → Type 0
OrOpenFault image P fault.Memory = Unit {0}
OrOpenFault image P (fault.Image n) = image_fault (kind_of image) image ≡ Some n
OrOpenFault image P (fault.Unsound u) = P (fault.Unsound u)
OrOpenFault image P (fault.Refused s) = P (fault.Refused s)
OrOpenFault image P (fault.Trouble t) = P (fault.Trouble t)
OrOpenFault image P fault.NotFound = P fault.NotFound
OrOpenFault image P fault.NotClosed = P fault.NotClosed
OrOpenFault image P fault.Mistaken = P fault.Mistaken

-- why a change gives no image
abbrev pub IsFailed : List ℕ → DiskChange → Machine → ShellFault → Type 0
IsFailed image change m = OrOpenFault image (IsUndone change m)

-- why a file isn't got of an image
abbrev pub IsLost : List ℕ → Disk → List ℕ → ShellFault → Type 0
IsLost image d pattern = OrOpenFault image (IsGetFault d pattern)

-- the disk of an image shows a file of these bytes, whether its directory breaks off behind it or not
abbrev pub ShowsFileIn : List ℕ → List ℕ → List ℕ → Type 0
ShowsFileIn image pattern bytes = (seen : Seen) → IsImageOpened image seen → ShowsFile seen pattern bytes

-- why the directory of an image isn't listed
abbrev pub IsHidden : List ℕ → List ℕ → Machine → ShellFault → Type 0
IsHidden image pattern m = OrOpenFault image (IsUnlisted pattern m)

-- A DISK IS SOUND: a medium of this many tracks with this content
abbrev pub IsSoundDisk : ℕ → Content → Type 0
IsSoundDisk tracks content = (l : Layout) × Sound (geometry_of tracks content) content l

-- the disk of an image of this format is sound
abbrev pub IsSoundImage : Kind → List ℕ → Type 0
IsSoundImage kind image = IsSoundDisk (tracks_of kind image) (content_of kind image)

-- the disk is sound, or this is its first fault
abbrev pub IsChecked : ℕ → Content → Result (Unit {0}) Unsound → Type 0
IsChecked tracks content (Ok _) = IsSoundDisk tracks content
IsChecked tracks content (Err u) = DiskFault (geometry_of tracks content) content u

-- a disk that VALIDATE leaves as it is
abbrev pub IsOrderlyDisk : ℕ → Content → Type 0
IsOrderlyDisk tracks content = (e : Disk) × HoldsDisk tracks content e × (e ≡ validated e)

-- the image has no fault, and holds a disk that VALIDATE leaves as it is: each file is closed, and each block is free or a file's
pub record IsInOrder (kind : Kind) (image : List ℕ) : Type 0 where
  pub faultless : image_fault kind image ≡ None
  pub disk : Disk
  pub holds : ImageHolds kind image disk
  pub still : disk ≡ validated disk

-- between the images nothing has changed but what VALIDATE changes
abbrev pub IsImageInOrder : Kind → List ℕ → List ℕ → Type 0
IsImageInOrder kind old new = IsPutInOrder (geometry_of (tracks_of kind old) (content_of kind old)) (content_of kind old) (content_of kind new)

-- how many tracks the disk of an image has, as its map says
abbrev pub disk_tracks : List ℕ → ℕ
disk_tracks image = geometry_of (tracks_of (kind_of image) image) (content_of (kind_of image) image)

-- this holds of each disk that an image holds
abbrev pub OfHeld : List ℕ → (Disk → Type 0) → Type 0
OfHeld image P = (d : Disk) → ImageHolds (kind_of image) image d → P d

-- the machine at power up, with the disk of an image that can be written
abbrev pub machine_on : List ℕ → Disk → Machine
machine_on image d = start d false (tracks_of (kind_of image) image)

-- A CHANGE WAS MADE between an image and a new one of its format: the machine's status is fine, and the new image holds its disk
abbrev pub HasChanged : List ℕ → DiskChange → Disk → List ℕ → Type 0
HasChanged image change d new = IsFine (disk_after_change change (machine_on image d)).status × ImageHolds (kind_of image) new (disk_after_change change (machine_on image d)).disk

-- the disk of an image is sound, or this is its first fault
abbrev pub IsCheckedImage : List ℕ → Result (Unit {0}) Unsound → Type 0
IsCheckedImage image check = IsChecked (tracks_of (kind_of image) image) (content_of (kind_of image) image) check
