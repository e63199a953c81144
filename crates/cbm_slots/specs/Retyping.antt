-- The file in a slot of the directory gets another type.
use Rattle.std.specs.Prelude.{ℕ, ◌≡◌, ◌⊎◌, ◌+◌, ◌*◌, ◌/◌, true, false, List, Some, None, Ok, slice_set}
use Rattle.cbm_medium.specs.Content.{Content}
use Rattle.cbm_file.specs.declared.file_type.FileType.{FileType}
use Rattle.cbm_file.specs.Types.{type_number}
use Rattle.cbm_bam.specs.Map.{geometry_of}
use Rattle.cbm_directory.specs.Entries.{EntersLed, type_byte, is_relative}
use Rattle.cbm_directory.specs.Slots.{Answers, directory_of}
use Rattle.cbm_channel.specs.declared.Status.{Status}
use Rattle.cbm_channel.specs.declared.Code.TheVariants.{WrongType}
use Rattle.cbm_volume.specs.check.WholeDisk.{DiskFault}
use Rattle.cbm_image.specs.Images.{kind_of, tracks_of, content_of}
use Rattle.cbm_shell.specs.Images.{OrOpenFault, disk_tracks}
use Rattle.cbm_shell.specs.declared.fault.ShellFault.{ShellFault}
use Rattle.cbm_shell.specs.declared.fault.ShellFault.TheVariants as fault

-- an entry with another type: the low four bits of its type byte; whether it is closed and locked, and all else, stay
abbrev pub retyped_entry : FileType → List ℕ → List ℕ
retyped_entry kind e = slice_set e 0 (16 * (type_byte e / 16) + type_number kind)

-- the entry in a slot is that of a file without records
pub record IsPlainFile (tracks : ℕ) (content : Content) (slot : ℕ) (entry : List ℕ) : Type 0 where
  pub stands : Answers (directory_of tracks content) slot (Ok (Some entry))
  pub taken : type_byte entry ≡ 0 → ⊥
  pub plain : is_relative entry ≡ false

-- the entry in a slot is empty
abbrev pub HasEmptySlot : ℕ → Content → ℕ → Type 0
HasEmptySlot tracks content slot = (entry : List ℕ) × Answers (directory_of tracks content) slot (Ok (Some entry)) × (type_byte entry ≡ 0)

-- the file in a slot has records
abbrev pub HasRecordsAt : ℕ → Content → ℕ → Type 0
HasRecordsAt tracks content slot = (entry : List ℕ) × Answers (directory_of tracks content) slot (Ok (Some entry)) × (is_relative entry ≡ true)

-- the refusal of a file with records
abbrev pub mismatch : Status
mismatch = record { code = WrongType; first = 0; second = 0 }

-- WHY A SLOT HAS NO FILE THAT CAN BE RETYPED: the directory ends before it, it is empty, or its file has records; or a sector can't be read or written
abbrev pub IsNoPlainFile : ℕ → Content → ℕ → ShellFault → Type 0
IsNoPlainFile tracks content slot fault.NotFound = Answers (directory_of tracks content) slot (Ok None) ⊎ HasEmptySlot tracks content slot
IsNoPlainFile tracks content slot (fault.Refused s) = (s ≡ mismatch) × HasRecordsAt tracks content slot
IsNoPlainFile tracks content slot (fault.Trouble t) = Unit {0}
IsNoPlainFile tracks content slot f = ⊥

-- THE FILE IN A SLOT HAS ANOTHER TYPE in the new content, and nothing else is changed
pub record IsRetyped (tracks slot : ℕ) (kind : FileType) (old new : Content) : Type 0 where
  pub entry : List ℕ
  pub file : IsPlainFile tracks old slot entry
  pub entered : EntersLed tracks old new slot (retyped_entry kind entry)

-- a disk gives no image: this is wrong with it first, or memory ran out
abbrev pub IsUnfit : ℕ → Content → ShellFault → Type 0
IsUnfit tracks content (fault.Unsound u) = DiskFault (geometry_of tracks content) content u
IsUnfit tracks content fault.Memory = Unit {0}
IsUnfit tracks content f = ⊥

-- WHY THE FILE IN A SLOT OF A DISK ISN'T RETYPED: there is none that can be; or with the other type this would be wrong with the disk first; or memory ran out
abbrev pub IsUnretyped : ℕ → Content → ℕ → FileType → ShellFault → Type 0
IsUnretyped tracks content slot kind (fault.Unsound u) =
    (new : Content) × IsRetyped (geometry_of tracks content) slot kind content new × DiskFault (geometry_of tracks new) new u
IsUnretyped tracks content slot kind fault.Memory = Unit {0}
IsUnretyped tracks content slot kind f = IsNoPlainFile (geometry_of tracks content) content slot f

-- the same, or the disk wasn't sound before, and this was wrong with it first
abbrev pub IsKeptType : ℕ → Content → ℕ → FileType → ShellFault → Type 0
IsKeptType tracks content slot kind (fault.Unsound u) = DiskFault (geometry_of tracks content) content u ⊎ IsUnretyped tracks content slot kind (fault.Unsound u)
IsKeptType tracks content slot kind f = IsUnretyped tracks content slot kind f

-- ---- of an image, and a new one of its format

-- the file in a slot of its disk has another type in the new image
abbrev pub IsRetypedInSlot : List ℕ → ℕ → FileType → List ℕ → Type 0
IsRetypedInSlot image slot kind new = IsRetyped (disk_tracks image) slot kind (content_of (kind_of image) image) (content_of (kind_of image) new)

-- why it hasn't: the image's own fault or want of memory, or its disk's
abbrev pub IsNotRetypedInSlot : List ℕ → ℕ → FileType → ShellFault → Type 0
IsNotRetypedInSlot image slot kind = OrOpenFault image (IsKeptType (tracks_of (kind_of image) image) (content_of (kind_of image) image) slot kind)
