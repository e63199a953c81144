-- What C is told of an image.
use Rattle.std.specs.Prelude.{ℕ, ℤ, ◌≡◌, ◌⊎◌, ◌+◌, ◌*◌, ◌%◌, Bool, true, false, List, Ok, slice_index, slice_range}
use Rattle.cbm_file.specs.Files.{Disk}
use Rattle.cbm_bam.specs.Map.{geometry_of}
use Rattle.cbm_volume.specs.Layouts.{Layout, Sound}
use Rattle.cbm_directory.specs.Entries.{type_byte, bit_of, is_closed, width_of}
use Rattle.cbm_volume.specs.Holding.{EntryStandsAt}
use Rattle.cbm_volume.specs.check.WholeDisk.{DiskFault}
use Rattle.cbm_medium.specs.Content.{Content}
use Rattle.cbm_image.specs.Images.{kind_of, tracks_of, content_of, ImageHolds}
use Rattle.cbm_device.specs.declared.refusal.DeviceRefusal.{DeviceRefusal}
use Rattle.cbm_device.specs.declared.refusal.DeviceRefusal.TheVariants.{Unsound}
use Rattle.cbm_device.specs.Answers.{fine, answer_number, AreGiven}
use Rattle.cbm_device.specs.ImageDisks.{IsOpenRefusal}
use Rattle.cbm_device.specs.Looking.{IsUntitled, IsNoDeviceEntry, IsNoSector}
use Rattle.yellowadze1541.specs.declared.shapes.Place.{Place}
use Rattle.yellowadze1541.specs.declared.shapes.Title.{Title}
use Rattle.yellowadze1541.specs.declared.shapes.Entry.{Entry}

-- what the sectors of an image's disk hold
abbrev pub image_held : List ℕ → Content
image_held image = content_of (kind_of image) image

-- the tracks that an image's disk uses
abbrev pub used_by : List ℕ → ℕ
used_by image = geometry_of (tracks_of (kind_of image) image) (image_held image)

-- an image isn't opened, and that is reported
abbrev pub IsUnopened : List ℕ → ℤ → Type 0
IsUnopened image n = (r : DeviceRefusal) × IsOpenRefusal image r × (n ≡ answer_number r)

-- THE CHECK OF AN IMAGE: of one that is opened 0 says exactly that its disk is sound, and -6 what is wrong first.
pub record IsCheck (image : List ℕ) (n : ℤ) (old new : Place) : Type 0 where
  pub told : ((n ≡ fine) × (new ≡ old) × ((l : Layout) × Sound (used_by image) (image_held image) l))
      ⊎ (((n ≡ answer_number Unsound) × DiskFault (used_by image) (image_held image) (record { number = new.what; track = new.track; sector = new.sector }))
      ⊎ ((new ≡ old) × IsUnopened image n))
  pub exact : (l : Layout) → Sound (used_by image) (image_held image) l → (n ≡ fine) ⊎ IsUnopened image n

-- a title that says what a disk has
pub record TitleSays (t : Title) (d : Disk) : Type 0 where
  pub title : t.title ≡ d.title
  pub mark : t.mark ≡ d.mark
  pub free : t.free ≡ d.free

-- THE TITLE OF AN IMAGE: 0 says that it is that of its disk, if this is sound; any other number why there is none, and of a sound one that it isn't opened.
pub record IsTitle (image : List ℕ) (n : ℤ) (old new : Title) : Type 0 where
  pub told : (n ≡ fine) ⊎ ((r : DeviceRefusal) × IsUntitled image r × (n ≡ answer_number r) × (new ≡ old))
  pub means : (d : Disk) → ImageHolds (kind_of image) image d → ((n ≡ fine) × TitleSays new d) ⊎ ((r : DeviceRefusal) × IsOpenRefusal image r × (n ≡ answer_number r) × (new ≡ old))

-- 1 for yes, 0 for no
abbrev pub flag : Bool → ℕ
flag true = 1
flag false = 0

-- an entry's thirty bytes, field by field, as C has them
abbrev pub entry_spelled : List ℕ → Entry
entry_spelled e = record {
  blocks = slice_index e 28 + 256 * slice_index e 29;
  kind = type_byte e % 16;
  closed = flag (is_closed e);
  locked = flag (bit_of (type_byte e) 6);
  record_length = width_of e;
  name = slice_range e 3 19;
  track = slice_index e 1;
  sector = slice_index e 2;
}

-- AN ENTRY OF AN IMAGE: 0 says that it is the one that stands in the slot, any other number why there is none.
abbrev pub IsEntry : List ℕ → ℕ → ℤ → Entry → Entry → Type 0
IsEntry image slot n old new =
    ((e : List ℕ) × EntryStandsAt (tracks_of (kind_of image) image) (image_held image) slot e × (n ≡ fine) × (new ≡ entry_spelled e))
    ⊎ ((r : DeviceRefusal) × IsNoDeviceEntry image slot r × (n ≡ answer_number r) × (new ≡ old))

-- A SECTOR OF AN IMAGE: its bytes are given, or any other number says why not.
abbrev pub IsSector : List ℕ → ℕ → ℕ → ℤ → List ℕ → List ℕ → Type 0
IsSector image track sector n old new =
    ((bytes : List ℕ) × (image_held image (record { track = track; sector = sector }) ≡ Ok bytes) × AreGiven n old new bytes)
    ⊎ ((r : DeviceRefusal) × IsNoSector image (record { track = track; sector = sector }) r × (n ≡ answer_number r) × (new ≡ old))
