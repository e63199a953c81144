-- What a call has reached on its way, before its end.
use Rattle.std.specs.Prelude.{ℕ, ◌+◌, ◌<◌, ◌≡◌, ◌++◌, Bool, true, false, List, length, slice_index_or}
use Rattle.cbm_medium.specs.Place.{Place, directory_head}
use Rattle.cbm_medium.specs.Content.{Content}
use Rattle.cbm_medium.specs.Links.{bytes_at, link}
use Rattle.cbm_file.specs.Files.{Disk, file_at}
use Rattle.cbm_bam.specs.Map.{geometry_of}
use Rattle.cbm_directory.specs.Entries.{is_closed, is_relative, first_block, first_side, width_of, entry_at}
use Rattle.cbm_volume.specs.Layouts.{Owner, DataOf, SideOf, Layout, slot_count}
use Rattle.cbm_volume.specs.Writers.{Use, HoldsAt}

-- the sector is a file's, or one of its side sectors
abbrev pub is_file : Owner → Bool
is_file (DataOf n) = true
is_file (SideOf n) = true
is_file _ = false

-- the sectors of all files are the same in both
abbrev pub KeepsFiles : Layout → Content → Content → Type 0
KeepsFiles l c c' = (p : Place) → is_file (l.owner p) ≡ true → c' p ≡ c p

-- Two entries lead to the same sectors: both are closed or neither is, and relative, and they name one first block, first side sector
-- and width.
pub record LeadsAlike (old new : List ℕ) : Type 0 where
  pub closed : is_closed new ≡ is_closed old
  pub relative : is_relative new ≡ is_relative old
  pub first : first_block old ≡ first_block new
  pub side : first_side old ≡ first_side new
  pub width : width_of old ≡ width_of new

-- The entry of each closed file leads to the same sectors in both, but for those in slots that pass the test, and each sector of the
-- directory but its last one links to the next in both.
pub record KeepsEntries (l : Layout) (c c' : Content) (but : ℕ → Bool) : Type 0 where
  pub links : (i : ℕ) → i + 1 < length l.directory → link (bytes_at c' (slice_index_or l.directory i directory_head)) ≡ link (bytes_at c (slice_index_or l.directory i directory_head))
  pub entries : (m : ℕ) → m < slot_count l → but m ≡ false → is_closed (entry_at c l.directory m) ≡ true → LeadsAlike (entry_at c l.directory m) (entry_at c' l.directory m)

-- The closed files are kept: the sectors of all files, and the entries that lead to the closed ones, but for those in slots that pass
-- the test.
pub record KeepsClosed (l : Layout) (c c' : Content) (but : ℕ → Bool) : Type 0 where
  pub files : KeepsFiles l c c'
  pub entries : KeepsEntries l c c' but

-- the directory's sectors are the first of those that it has then
abbrev pub IsFront : Layout → Layout → Type 0
IsFront l l' = (rest : List Place) × (l'.directory ≡ l.directory ++ rest)

-- WHAT A CALL HAS REACHED on its way: the medium holds this disk, in a layout of as many tracks, in which the directory is the same but for
-- sectors after it; and the closed files are kept
pub record Reached (medium : ℕ) (c : Content) (l : Layout) (c1 : Content) (d1 : Disk) (uses : ℕ → Use) : Type 0 where
  pub layout : Layout
  pub so : HoldsAt (geometry_of medium c) c1 layout d1 uses
  pub same : geometry_of medium c1 ≡ geometry_of medium c
  pub front : IsFront l layout
  pub kept : KeepsClosed l c c1 (λ m. false)
  pub later : (p : Place) → is_file (l.owner p) ≡ true → is_file (layout.owner p) ≡ true

-- A WRITE WAS REFUSED BEFORE THE SLOT WAS THERE: a disk with the same slots, and at most a sector of the directory's room less
pub record SlotLost (medium : ℕ) (c : Content) (l : Layout) (c1 : Content) (d : Disk) (uses : ℕ → Use) : Type 0 where
  pub disk : Disk
  pub reached : Reached medium c l c1 disk uses
  pub slots : (m : ℕ) → file_at disk m ≡ file_at d m
