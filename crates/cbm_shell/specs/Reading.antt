-- Taking a file out of a disk.
use Rattle.std.specs.Prelude.{ℕ, ◌≡◌, ◌⊎◌, List, true, false, Option, Some, None, Ok, Err}
use Rattle.cbm_medium.specs.Place.{sector_count}
use Rattle.cbm_medium.specs.Seen.{Seen}
use Rattle.cbm_medium.specs.declared.fault.Trouble.{Trouble}
use Rattle.cbm_bam.specs.Map.{geometry_of}
use Rattle.cbm_directory.specs.Entries.{first_block, is_closed}
use Rattle.cbm_directory.specs.Slots.{directory_of, first_from}
use Rattle.cbm_chain.specs.Reading.{RestOfFile, held_from}
use Rattle.cbm_file.specs.declared.file_type.FileType.TheVariants.{Rel}
use Rattle.cbm_file.specs.Types.{is_same_type}
use Rattle.cbm_file.specs.Files.{File, Disk, bytes_in}
use Rattle.cbm_channel.specs.declared.Code.TheVariants.{FileNotFound}
use Rattle.cbm_channel.specs.Sought.{is_sought}
use Rattle.cbm_machine.specs.Finding.{found}
use Rattle.cbm_shell.specs.declared.fault.ShellFault.{ShellFault}
use Rattle.cbm_shell.specs.declared.fault.ShellFault.TheVariants as fault

-- Reading a chain failed: memory ran out, or this is the trouble that cuts the chain off.
abbrev pub IsReadFault : Option Trouble → ShellFault → Type 0
IsReadFault why f = (f ≡ fault.Memory) ⊎ ((t : Trouble) × (f ≡ fault.Trouble t) × (why ≡ Some t))

-- These are the bytes of the first file that matches, which is closed. What is said of its bytes is said of a file without records.
pub record Gets (d : Disk) (pattern bytes : List ℕ) : Type 0 where
  pub slot : ℕ
  pub file : File
  pub first : found d pattern None ≡ Ok (slot, file)
  pub closed : file.closed ≡ true
  pub body : is_same_type Rel file.kind ≡ false → bytes_in file.body ≡ bytes

-- The first file that matches isn't closed.
pub record IsUnclosed (d : Disk) (pattern : List ℕ) : Type 0 where
  pub slot : ℕ
  pub file : File
  pub first : found d pattern None ≡ Ok (slot, file)
  pub closed : file.closed ≡ false

-- The first file that matches has records.
pub record FindsRecords (d : Disk) (pattern : List ℕ) : Type 0 where
  pub slot : ℕ
  pub file : File
  pub first : found d pattern None ≡ Ok (slot, file)
  pub relative : is_same_type Rel file.kind ≡ true

-- Why a file isn't got from a disk. A sector that doesn't read isn't met in a file without records.
abbrev pub IsGetFault : Disk → List ℕ → ShellFault → Type 0
IsGetFault d pattern fault.Memory = Unit {0}
IsGetFault d pattern fault.NotFound = found d pattern None ≡ Err FileNotFound
IsGetFault d pattern fault.NotClosed = IsUnclosed d pattern
IsGetFault d pattern (fault.Trouble t) = FindsRecords d pattern
IsGetFault d pattern (fault.Image n) = ⊥
IsGetFault d pattern (fault.Unsound u) = ⊥
IsGetFault d pattern (fault.Refused s) = ⊥
IsGetFault d pattern fault.Mistaken = ⊥

-- what the chain of an entry holds, over what a medium shows
abbrev pub file_held : Seen → List ℕ → RestOfFile
file_held now entry = held_from (geometry_of now.tracks now.content) now.content (sector_count (geometry_of now.tracks now.content)) (first_block entry)

-- ON ANY DISK, whether its directory breaks off behind it or not: the first entry that matches is closed, and its chain holds these bytes to its end.
pub record ShowsFile (now : Seen) (pattern bytes : List ℕ) : Type 0 where
  pub slot : ℕ
  pub entry : List ℕ
  pub first : first_from (is_sought pattern None) 0 (directory_of (geometry_of now.tracks now.content) now.content).entries ≡ Some (slot, entry)
  pub closed : is_closed entry ≡ true
  pub whole : file_held now entry ≡ record { bytes = bytes; trouble = None }
