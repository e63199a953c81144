-- What the volume's calls do on any disk, sound or not: where the directory leads, and by what its sectors hold.
use Rattle.std.specs.Prelude.{ℕ, ◌≡◌, ◌⊎◌, ◌++◌, true, false, if◌then◌else◌, List, [], Some, None, Ok, IsOk, MatchBool}
use Rattle.cbm_medium.specs.Place.{Place, sector_count, directory_head}
use Rattle.cbm_medium.specs.Content.{Content, written}
use Rattle.cbm_medium.specs.Links.{Followed, bytes_at, follow}
use Rattle.cbm_medium.specs.Seen.{Seen}
use Rattle.cbm_bam.specs.Map.{Frees}
use Rattle.cbm_chain.specs.Writing.{EndsChain, StandsAfter, place_or_none}
use Rattle.cbm_relfile.specs.SideSectors.{sides_listed}
use Rattle.cbm_directory.specs.Entries.{EntersLed, is_closed, is_relative, first_block, first_side, closed_entry}
use Rattle.cbm_directory.specs.EntryChanges.{renamed_entry, reopened_entry, ClearsLed}
use Rattle.cbm_directory.specs.Slots.{Answers}
use Rattle.cbm_volume.specs.SeenDisks.{seen_tracks, seen_directory}
use Rattle.cbm_volume.specs.Writers.{Filling}

-- ---- the entry of a slot

-- THE DIRECTORY LEADS TO NO SUCH SLOT, and nothing has changed; or it leads to the slot's entry, of which this holds.
abbrev pub AtSlot : Seen → Seen → ℕ → (List ℕ → Type 0) → Type 0
AtSlot old new slot P =
    (Answers (seen_directory old) slot (Ok None) × (new.content ≡ old.content)) ⊎ ((entry : List ℕ) × Answers (seen_directory old) slot (Ok (Some entry)) × P entry)

-- ---- the sectors of a file

-- the blocks that links lead to from an entry's first one, and what breaks them off
abbrev pub file_chain : ℕ → Content → List ℕ → Followed
file_chain tracks content entry = follow tracks content (sector_count tracks) (first_block entry)

-- the side sectors that its first one lists, where it is of a relative file
abbrev pub file_sides : Content → List ℕ → List Place
file_sides content entry = if is_relative entry then sides_listed (bytes_at content (first_side entry)) else []

-- THE BLOCKS OF A FILE'S CHAIN ARE GIVEN BACK to a map: the chain comes to its end.
pub record FreesChain (tracks : ℕ) (content : Content) (entry map freed : List ℕ) : Type 0 where
  pub whole : (file_chain tracks content entry).trouble ≡ None
  pub given : Frees tracks map (file_chain tracks content entry).blocks freed

-- the chain of a file comes to its end, and the first side sector of a relative one reads
abbrev pub IsFileWhole : ℕ → Content → List ℕ → Type 0
IsFileWhole tracks content entry = ((file_chain tracks content entry).trouble ≡ None) × (is_relative entry ≡ true → IsOk (content (first_side entry)))

-- ALL SECTORS OF A FILE ARE GIVEN BACK to a map, the blocks and then the side sectors.
pub record FreesFile (tracks : ℕ) (content : Content) (entry map freed : List ℕ) : Type 0 where
  pub whole : IsFileWhole tracks content entry
  pub given : Frees tracks map ((file_chain tracks content entry).blocks ++ file_sides content entry) freed

-- the map is written as it was read, but for what was given back to it
abbrev pub RemapsFreed : Seen → Content → Content → (List ℕ → List ℕ → Type 0) → Type 0
RemapsFreed old mid new P = (map : List ℕ) × (freed : List ℕ) × (old.content directory_head ≡ Ok map) × P map freed × (new ≡ written mid directory_head freed)

-- ---- the calls

-- RENAME OF ANY DISK: the slot's entry gets the name.
abbrev pub RenamesLed : Seen → Seen → ℕ → List ℕ → Type 0
RenamesLed old new slot name = AtSlot old new slot (λ entry. EntersLed (seen_tracks old) old.content new.content slot (renamed_entry entry name))

-- SCRATCH OF ANY DISK: the slot's entry is cleared, and then, if it was closed, the file's sectors are given back.
abbrev pub ScratchesLed : Seen → Seen → ℕ → Type 0
ScratchesLed old new slot =
    AtSlot old new slot (λ entry. (cleared : Content) × ClearsLed (seen_tracks old) old.content cleared slot
    × MatchBool (is_closed entry) (RemapsFreed old cleared new.content (FreesFile (seen_tracks old) old.content entry)) (new.content ≡ cleared))

-- A SCRATCH THAT ISN'T DONE: nothing has changed; or the slot's entry is cleared, and the sectors of its file, which was closed and is whole,
-- are not given back.
abbrev pub ScratchStopped : Seen → Seen → ℕ → Type 0
ScratchStopped old new slot =
    (new.content ≡ old.content)
    ⊎ ((entry : List ℕ) × Answers (seen_directory old) slot (Ok (Some entry)) × (is_closed entry ≡ true) × IsFileWhole (seen_tracks old) old.content entry
    × ClearsLed (seen_tracks old) old.content new.content slot)

-- a writer's last block is written, and then this entry of its slot is closed over its blocks, where the directory leads
abbrev pub ClosesEntry : Seen → Content → Filling → List ℕ → Type 0
ClosesEntry old new w entry =
    (mid : Content) × EndsChain old.content mid w.chain.current w.chain.waiting
    × EntersLed (seen_tracks old) mid new w.slot (closed_entry entry (place_or_none w.chain.first) w.chain.count)

-- CLOSE ON ANY DISK: the slot's entry is closed.
abbrev pub FinishesLed : Seen → Seen → Filling → Type 0
FinishesLed old new w = AtSlot old new w.slot (λ entry. ClosesEntry old new.content w entry)

-- and of a replacement, the blocks of the chain that it had are given back after it
abbrev pub ReplacesLed : Seen → Seen → Filling → Type 0
ReplacesLed old new w =
    AtSlot old new w.slot (λ entry. (closed : Content) × ClosesEntry old closed w entry
    × RemapsFreed old closed new.content (FreesChain (seen_tracks old) old.content entry))

-- OPEN FOR APPENDING ON ANY DISK: the entry that is given is no longer closed where the directory leads.
abbrev pub ReopensLed : Seen → Seen → ℕ → List ℕ → Type 0
ReopensLed old new slot entry = EntersLed (seen_tracks old) old.content new.content slot (reopened_entry entry)

-- and its writer goes on after the last byte of the chain that the entry has, which comes to its end
pub record AppendsTo (now : Seen) (slot : ℕ) (entry : List ℕ) (w : Filling) : Type 0 where
  pub same_slot : w.slot ≡ slot
  pub replaces : w.replaces ≡ false
  pub whole : (file_chain (seen_tracks now) now.content entry).trouble ≡ None
  pub after : StandsAfter (seen_tracks now) now.content (file_chain (seen_tracks now) now.content entry).blocks w.chain
