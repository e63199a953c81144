-- All entries of a directory and all flaws of a disk, as C is told of them.
use Rattle.std.specs.Prelude.{ℕ, ℤ, pos, max, ◌≡◌, ◌<◌, ◌⊎◌, List, ◌++◌, length, drop, map, Option, Some, None}
use Rattle.cbm_medium.specs.declared.fault.Trouble.{Trouble}
use Rattle.cbm_medium.specs.Place.{Place}
use Rattle.cbm_directory.specs.Slots.{all_entries}
use Rattle.cbm_image.specs.Images.{kind_of, content_of}
use Rattle.cbm_shell.specs.Images.{disk_tracks}
use Rattle.cbm_shell.specs.Salvaging.{directory_sectors}
use Rattle.cbm_shell.specs.Flaws.{flaws_of}
use Rattle.cbm_shell.specs.declared.broken.flaws.found.Whose.{Whose}
use Rattle.cbm_shell.specs.declared.broken.flaws.found.Whose.TheVariants.{Disk, Directory, File}
use Rattle.cbm_shell.specs.declared.broken.flaws.found.DiskFlaw.{DiskFlaw}
use Rattle.cbm_device.specs.declared.refusal.DeviceRefusal.{DeviceRefusal}
use Rattle.cbm_device.specs.declared.refusal.DeviceRefusal.TheVariants.{NoRoom}
use Rattle.cbm_device.specs.Answers.{fine, answer_number}
use Rattle.cbm_device.specs.ImageDisks.{IsOpenRefusal}
use Rattle.yellowadze1541.specs.declared.shapes.Entry.{Entry}
use Rattle.yellowadze1541.specs.declared.shapes.Flaw.{Flaw}
use Rattle.yellowadze1541.specs.Looks.{entry_spelled}

-- THE ITEMS ARE HANDED OUT with this answer: how many they are is reported, and they are the beginning of the caller's room, in which all else is as it was; or the
-- room is too small for them, and as it was
abbrev pub AreHandedOut : {A : Type 0} → ℤ → ℤ → List A → List A → ℕ → List A → Type 0
AreHandedOut n good old new count items = (count ≡ length items)
    × (((n ≡ good) × (new ≡ items ++ drop (length items) old)) ⊎ ((n ≡ answer_number NoRoom) × (new ≡ old) × (length old < length items)))

-- nothing is handed out: the image isn't opened, or memory runs out
abbrev pub IsNothingOut : {A : Type 0} → List ℕ → ℤ → List A → List A → ℕ → ℕ → Type 0
IsNothingOut image n old new before count = (r : DeviceRefusal) × IsOpenRefusal image r × (n ≡ answer_number r) × (new ≡ old) × (count ≡ before)

-- the answer after entries: all is well if the directory was followed to its end, else the status of what breaks it off
abbrev pub after_trouble : Option Trouble → ℤ
after_trouble None = fine
after_trouble (Some t) = pos (max t.code 20)

-- the entries of an image's directory, up to where it breaks off or comes back to a sector of its own, and the answer after them
pub record ListsEntries (image : List ℕ) (items : List Entry) (good : ℤ) : Type 0 where
  pub blocks : List Place
  pub trouble : Option Trouble
  pub followed : directory_sectors (disk_tracks image) (content_of (kind_of image) image) ≡ record { blocks = blocks; trouble = trouble }
  pub all : items ≡ map entry_spelled (all_entries (content_of (kind_of image) image) blocks)
  pub after : good ≡ after_trouble trouble

-- THE ENTRIES OF AN IMAGE'S DIRECTORY are handed out
abbrev pub IsEntryList : List ℕ → ℤ → List Entry → List Entry → ℕ → ℕ → Type 0
IsEntryList image n old new before count =
    ((items : List Entry) × (good : ℤ) × ListsEntries image items good × AreHandedOut n good old new count items) ⊎ IsNothingOut image n old new before count

-- whose sectors led to a flaw, as a number
abbrev pub number_of_whose : Whose → ℕ
number_of_whose Disk = 0
number_of_whose Directory = 1
number_of_whose (File slot) = 2

-- the slot of the file whose sectors they are, or 0
abbrev pub slot_of_whose : Whose → ℕ
slot_of_whose Disk = 0
slot_of_whose Directory = 0
slot_of_whose (File slot) = slot

-- a flaw, as C has it
abbrev pub flaw_spelled : DiskFlaw → Flaw
flaw_spelled f = record {
  what = f.what.number;
  track = f.what.track;
  sector = f.what.sector;
  whose = number_of_whose f.whose;
  slot = slot_of_whose f.whose;
  before = f.before;
}

-- no flaws are told: the image isn't opened, memory runs out, or a sector that did read doesn't any more
abbrev pub IsUnflawed : ℤ → List Flaw → List Flaw → ℕ → ℕ → Type 0
IsUnflawed n old new before count = (r : DeviceRefusal) × (n ≡ answer_number r) × (new ≡ old) × (count ≡ before)

-- ALL THAT IS WRONG WITH AN IMAGE'S DISK is handed out; nothing is wrong with a sound one
abbrev pub IsFlawList : List ℕ → ℤ → List Flaw → List Flaw → ℕ → ℕ → Type 0
IsFlawList image n old new before count =
    AreHandedOut n fine old new count (map flaw_spelled (flaws_of (disk_tracks image) (content_of (kind_of image) image))) ⊎ IsUnflawed n old new before count
