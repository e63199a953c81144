-- What becomes of an entry: it is made, opened again, renamed, cleared. What isn't named stays as it is.
use Rattle.std.specs.Prelude.{ℕ, ◌+◌, ◌*◌, ◌/◌, ◌%◌, ◌<◌, ◌≤◌, ◌≡◌, ◌⊎◌, Some, List, ◌∷◌, ◌++◌, drop, take, replicate, slice_index, slice_range, slice_set, MatchOption}
use Rattle.cbm_medium.specs.Place.{Place}
use Rattle.cbm_medium.specs.Content.{Content}
use Rattle.cbm_medium.specs.Links.{bytes_at}
use Rattle.cbm_medium.specs.Seen.{Seen}
use Rattle.cbm_medium.specs.Met.{IsMetFrom}
use Rattle.cbm_medium.specs.declared.fault.Trouble.{Trouble}
use Rattle.cbm_bam.specs.Causes.{HasCause}
use Rattle.cbm_file.specs.Padding.{before_filler, padded}
use Rattle.cbm_file.specs.Types.{type_number}
use Rattle.cbm_file.specs.declared.file_type.FileType.{FileType}
use Rattle.cbm_directory.specs.Entries.{Enters, entry_of, led_to, first_directory, DirectoryLeadsOff, type_byte, first_block, first_side, width_of, name_in}

-- A new entry of a file that isn't closed: its type, the link to its first block and its name, and all else is 0.
abbrev pub fresh_entry : FileType → List ℕ → Place → List ℕ
fresh_entry kind name first = type_number kind ∷ first.track ∷ first.sector ∷ (padded name ++ replicate 11 0)

-- what a new entry says
pub record IsFreshAs (new : List ℕ) (kind : FileType) (name : List ℕ) (first : Place) : Type 0 where
  pub typed : type_byte new ≡ type_number kind
  pub begins : first_block new ≡ first
  pub named : name_in new ≡ before_filler name
  pub shown : slice_index new 28 + 256 * slice_index new 29 ≡ 0

-- The entry of a closed file as one that is being written: bit 7 of the type byte is cleared.
abbrev pub reopened_entry : List ℕ → List ℕ
reopened_entry e = slice_set e 0 (type_byte e % 128)

-- An empty slot: the type byte is 0, and the other bytes are what they were.
abbrev pub cleared_entry : List ℕ → List ℕ
cleared_entry e = slice_set e 0 0

-- only the type byte is another
pub record IsTypedAs (old new : List ℕ) (type : ℕ) : Type 0 where
  pub typed : type_byte new ≡ type
  pub others : (i : ℕ) → 0 < i → slice_index new i ≡ slice_index old i

-- One entry of a sector of the directory is cleared, by one write of the sector, and nothing else is changed.
abbrev pub Clears : Content → Content → Place → ℕ → Type 0
Clears old new p e = Enters old new p e (cleared_entry (entry_of (bytes_at old p) e))

-- The entry of this number is cleared where the directory's links lead, on any content; nothing where they lead off the disk.
abbrev pub ClearsLed : ℕ → Content → Content → ℕ → Type 0
ClearsLed tracks old new n =
    MatchOption (led_to tracks old (n / 8) first_directory) ((new ≡ old) × DirectoryLeadsOff tracks old) (λ p. Clears old new p (n % 8))

-- Why an entry isn't written, on any content: the directory's links meet this from 18/1 on, or its sector refuses.
abbrev pub IsEntryRefused : ℕ → Seen → Seen → ℕ → Trouble → Type 0
IsEntryRefused tracks old new n t =
    IsMetFrom tracks old.content (λ q. q ≡ first_directory) t
    ⊎ ((p : Place) × (led_to tracks old.content (n / 8) first_directory ≡ Some p) × HasCause old new p t.code)

-- The entry under another name.
abbrev pub renamed_entry : List ℕ → List ℕ → List ℕ
renamed_entry e name = take 3 e ++ (padded name ++ drop 19 e)

-- only the sixteen bytes of the name are others
pub record IsRenamedAs (old new name : List ℕ) : Type 0 where
  pub named : name_in new ≡ before_filler name
  pub before : (i : ℕ) → i < 3 → slice_index new i ≡ slice_index old i
  pub afterwards : (i : ℕ) → 19 ≤ i → slice_index new i ≡ slice_index old i

-- The entry has another number of blocks; what else it says of the file stays.
pub record IsCountedAs (old new : List ℕ) (blocks : ℕ) : Type 0 where
  pub typed : type_byte new ≡ type_byte old
  pub begins : first_block new ≡ first_block old
  pub named : slice_range new 3 19 ≡ slice_range old 3 19
  pub lists : first_side new ≡ first_side old
  pub long : width_of new ≡ width_of old
  pub shown : slice_index new 28 + 256 * slice_index new 29 ≡ blocks

-- The entry names the first side sector and the length of its file's records; what else it says of the file stays.
pub record IsRelativeAs (old new : List ℕ) (side : Place) (width : ℕ) : Type 0 where
  pub typed : type_byte new ≡ type_byte old
  pub begins : first_block new ≡ first_block old
  pub named : slice_range new 3 19 ≡ slice_range old 3 19
  pub lists : first_side new ≡ side
  pub long : width_of new ≡ width
  pub shown : slice_index new 28 + 256 * slice_index new 29 ≡ slice_index old 28 + 256 * slice_index old 29
