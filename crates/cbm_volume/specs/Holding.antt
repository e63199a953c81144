-- What the reading calls of a volume answer on a sound disk.
use Rattle.std.specs.Prelude.{ℕ, ◌+◌, ◌*◌, ◌%◌, ◌<◌, ◌≤◌, ◌≡◌, ◌==◌, true, false, List, length, slice_index, Option, Some, None, Result, Ok, Err}
use Rattle.std.specs.List.{AllZip}
use Rattle.cbm_medium.specs.Content.{Content}
use Rattle.cbm_medium.specs.Seen.{Seen}
use Rattle.cbm_medium.specs.declared.fault.Trouble.{Trouble}
use Rattle.cbm_file.specs.declared.file_type.FileType.TheVariants.{Rel}
use Rattle.cbm_file.specs.Types.{type_with, is_same_type}
use Rattle.cbm_file.specs.Files.{Disk, File, file_at, Bytes, bytes_in, record_length_in}
use Rattle.cbm_bam.specs.Map.{geometry_of}
use Rattle.cbm_directory.specs.Entries.{type_byte, bit_of, is_closed, width_of, name_in}
use Rattle.cbm_directory.specs.Slots.{Listed, Answers, directory_of}
use Rattle.cbm_volume.specs.Blocks.{Blocks, slot_with}
use Rattle.cbm_volume.specs.Layouts.{Layout, Sound, Means}

-- A medium of this many tracks with this content holds this disk: the content is sound, and means it.
abbrev pub HoldsDisk : ℕ → Content → Disk → Type 0
HoldsDisk medium content d = Means (geometry_of medium content) content d

-- this holds of each disk that the medium holds, whether or not channels use it
abbrev pub OfHeldDisk : Seen → (Disk → Type 0) → Type 0
OfHeldDisk now P = (d : Disk) → HoldsDisk now.tracks now.content d → P d

-- it is sound, with some layout
abbrev pub HasSoundLayout : Seen → Type 0
HasSoundLayout now = (l : Layout) × Sound (geometry_of now.tracks now.content) now.content l

-- this holds of each layout with which it is sound
abbrev pub OfSound : Seen → (Layout → Type 0) → Type 0
OfSound now P = (l : Layout) → Sound (geometry_of now.tracks now.content) now.content l → P l

-- The entry is that of a slot: what it says of its file is true of the file in the slot.
pub record IsSlot (file : Option File) (entry : List ℕ) : Type 0 where
  pub bytes : List ℕ
  pub blocks : Blocks
  pub same : file ≡ slot_with bytes entry blocks

-- the answer to a slot's number: its entry, none past the last one, and no trouble
abbrev pub ShowsSlot : Disk → ℕ → Result (Option (List ℕ)) Trouble → Type 0
ShowsSlot d n (Ok (Some entry)) = (n < length d.slots) × IsSlot (file_at d n) entry
ShowsSlot d n (Ok None) = length d.slots ≤ n
ShowsSlot d n (Err t) = ⊥

-- the entry stands in the directory at this number
abbrev pub EntryStandsAt : ℕ → Content → ℕ → List ℕ → Type 0
EntryStandsAt medium content n entry = Answers (directory_of (geometry_of medium content) content) n (Ok (Some entry))

-- the slot has a closed file of these bytes
pub record HasBytes (d : Disk) (n : ℕ) (bytes : List ℕ) : Type 0 where
  pub file : File
  pub in_slot : file_at d n ≡ Some file
  pub closed : file.closed ≡ true
  pub body : file.body ≡ Bytes bytes

-- The entry says of a file what the disk knows of it. What has no records has bytes; a closed relative file has records of the
-- length that the entry says.
pub record EntrySays (f : File) (entry : List ℕ) : Type 0 where
  pub used : (type_byte entry == 0) ≡ false
  pub kind : type_with (type_byte entry % 16) ≡ Some f.kind
  pub closed : is_closed entry ≡ f.closed
  pub locked : bit_of (type_byte entry) 6 ≡ f.locked
  pub name : name_in entry ≡ f.name
  pub blocks : slice_index entry 28 + 256 * slice_index entry 29 ≡ f.shown
  pub body : is_same_type Rel f.kind ≡ false → f.body ≡ Bytes (bytes_in f.body)
  pub record_length : f.closed ≡ true → is_same_type Rel f.kind ≡ true → record_length_in f.body ≡ width_of entry

-- the entry of an empty slot, or that of its file
abbrev pub SlotSays : Option File → List ℕ → Type 0
SlotSays None entry = (type_byte entry == 0) ≡ true
SlotSays (Some f) entry = EntrySays f entry

-- The directory has the disk's slots, one entry for each, and nothing breaks it off.
pub record TellsOf (d : Disk) (listed : Listed) : Type 0 where
  pub whole : listed.trouble ≡ None
  pub each : AllZip SlotSays d.slots listed.entries
