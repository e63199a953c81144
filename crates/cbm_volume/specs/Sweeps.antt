-- Slots that were never closed become empty, one after another.
use Rattle.std.specs.Prelude.{ℕ, ◌*◌, ◌%◌, ◌<◌, ◌≤◌, ◌⊎◌, ◌≡◌, ◌≢◌, List, true, false, length, slice_index, Result, IsOk, IfErr, MatchResult}
use Rattle.cbm_medium.specs.Place.{Place, directory_head}
use Rattle.cbm_medium.specs.Content.{Content}
use Rattle.cbm_medium.specs.Links.{Chain, IsApart, bytes_at, link}
use Rattle.cbm_medium.specs.Seen.{Seen}
use Rattle.cbm_medium.specs.declared.fault.Trouble.{Trouble}
use Rattle.cbm_bam.specs.Map.{IsOutsideMap, map_of, geometry_of}
use Rattle.cbm_directory.specs.Entries.{type_byte, is_closed, entry_at, sector_of, first_directory}
use Rattle.cbm_directory.specs.EntryChanges.{Clears}
use Rattle.cbm_volume.specs.Layouts.{IsCellWritable}
use Rattle.cbm_volume.specs.Opens.{IsHindered}

-- A closed entry stays, and one that isn't closed is an empty slot then.
pub record IsSweptAs (old new : List ℕ) : Type 0 where
  pub closed : is_closed old ≡ true → new ≡ old
  pub unclosed : is_closed old ≡ false → type_byte new ≡ 0

-- these are the sectors of the directory, and no more than there are
abbrev pub IsDirectoryChain : ℕ → Content → List Place → Type 0
IsDirectoryChain tracks c directory = Chain tracks c first_directory directory × (length directory ≤ 18)

-- this holds of the directory, wherever it lies
abbrev pub OfDirectory : ℕ → Content → (List Place → Type 0) → Type 0
OfDirectory tracks c P = (directory : List Place) → IsDirectoryChain tracks c directory → P directory

-- where the directory is whole, a refusal has its cause in what refuses a write, or the medium failed
abbrev pub StopsSweep : {A : Type 0} → ℕ → Seen → Seen → Result A Trouble → Type 0
StopsSweep tracks old new result = OfDirectory tracks old.content (λ directory. IfErr result (IsHindered old new))

-- The slots before k are swept, those from k on are as they were, and so are the directory's links and all other sectors.
pub record IsSwept (old new : Content) (directory : List Place) (k : ℕ) : Type 0 where
  pub elsewhere : (p : Place) → IsApart p directory → new p ≡ old p
  pub links : (p : Place) → IsOk (old p) → IsOk (new p) × (link (bytes_at new p) ≡ link (bytes_at old p))
  pub writable : (p : Place) → IsCellWritable (old p) → IsCellWritable (new p)
  pub before : (n : ℕ) → n < 8 * length directory → n < k → IsSweptAs (entry_at old directory n) (entry_at new directory n)
  pub afterwards : (n : ℕ) → n < 8 * length directory → k ≤ n → entry_at new directory n ≡ entry_at old directory n

-- One slot is swept: it is closed or empty or none, and nothing changes; or it was never closed, and is cleared.
abbrev pub SlotSwept : Content → Content → List Place → ℕ → Type 0
SlotSwept old new directory n =
    ((n < 8 * length directory → IsSweptAs (entry_at old directory n) (entry_at old directory n)) × (new ≡ old))
    ⊎ ((n < 8 * length directory) × (is_closed (entry_at old directory n) ≡ false) × Clears old new (sector_of directory n) (n % 8))

-- WHAT VALIDATE CHANGES, on any disk: of the directory each slot that isn't closed becomes empty, and each closed entry stays, with the
-- directory's links; of 18/0 the rows of the map alone; and no other sector.
pub record IsPutInOrder (tracks : ℕ) (old new : Content) : Type 0 where
  pub directory : List Place
  pub was : IsDirectoryChain tracks old directory
  pub stays : IsDirectoryChain tracks new directory
  pub slots : (n : ℕ) → n < 8 * length directory → IsSweptAs (entry_at old directory n) (entry_at new directory n)
  pub label : (i : ℕ) → IsOutsideMap tracks i → slice_index (map_of new) i ≡ slice_index (map_of old) i
  pub elsewhere : (p : Place) → IsApart p directory → p ≢ directory_head → new p ≡ old p

-- What it has changed where a write was refused: nothing, or slots that weren't closed, up to some number.
abbrev pub IsPartlyInOrder : ℕ → Content → Content → Type 0
IsPartlyInOrder tracks old new = (new ≡ old) ⊎ ((directory : List Place) × IsDirectoryChain tracks old directory × (k : ℕ) × IsSwept old new directory k)

-- what it has changed on any disk, where it is done, and where it wasn't
abbrev pub PutsInOrder : {A : Type 0} → Result A Trouble → Seen → Seen → Type 0
PutsInOrder result old new = MatchResult result
    (λ x. IsPutInOrder (geometry_of old.tracks old.content) old.content new.content)
    (λ t. IsPartlyInOrder (geometry_of old.tracks old.content) old.content new.content)
