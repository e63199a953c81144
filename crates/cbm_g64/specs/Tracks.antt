use Rattle.std.specs.Prelude.{ℕ, ◌≡◌, ◌≢◌, ◌<◌, ◌≤◌, ◌+◌, ◌*◌, ◌-◌, ◌⊎◌, List, [], ◌∷◌, Bool, false, length, if◌then◌else◌, Some, None, Ok, Err, replicate, slice_index_or, unwrap_or}
use Rattle.cbm_medium.specs.Place.{Place, Has, has, sectors_on}
use Rattle.cbm_medium.specs.Content.{Cell, Content}
use Rattle.cbm_medium.specs.Seen.{Seen, Outside}
use Rattle.cbm_track.specs.Circle.{circle_bit}
use Rattle.cbm_sector.specs.Answer.{sector_shown, id_shown, block_of, block_code, IsOverwritten}
use Rattle.cbm_sector.specs.Fresh.{block_place, bytes_on, fresh}
use Rattle.cbm_g64.specs.File.{offset}
use Rattle.cbm_g64.specs.NewFile.{base_of, new_file}
use Rattle.cbm_g64.specs.Rest.{g64_rest}

-- the 35 tracks of a disk, the file that it came from, whether it was formatted since, and whether it is protected. A track that it hasn't is a circle without sync mark, which answers as no track does.
pub record G64State : Type 0 where
  pub tracks : List (List Bool)
  pub file : List ℕ
  pub formatted : Bool
  pub protected : Bool

-- the bits of a track
abbrev pub bits_at : List (List Bool) → ℕ → List Bool
bits_at tracks t = slice_index_or tracks (t - 1) []

-- the disk's id
unfoldable pub id_for : List (List Bool) → List ℕ
id_for tracks = unwrap_or (id_shown (bits_at tracks 18)) (0 ∷ 0 ∷ [])

-- what the sectors hold; a place that the disk lacks counts as 256 zeros
unfoldable pub g64_content : List (List Bool) → Content
g64_content tracks p = if has 35 p then sector_shown (bits_at tracks p.track) (id_for tracks) p else Ok (replicate 256 0)

-- a write to track i + 1: all others stay, each keeps its length, and so does the disk's id; a track on which no sector has room stays as it is
pub record IsCircleChanged (old new : List (List Bool)) (i : ℕ) : Type 0 where
  pub count : length new ≡ length old
  pub lengths : (j : ℕ) → length (slice_index_or new j []) ≡ length (slice_index_or old j [])
  pub others : (j : ℕ) → j ≢ i → slice_index_or new j [] ≡ slice_index_or old j []
  pub short : (j : ℕ) → length (slice_index_or old j []) < 2610 → slice_index_or new j [] ≡ slice_index_or old j []
  pub id : id_for new ≡ id_for old

-- a write to a sector changes its track only within the bits of the sector's data block, which are the block's code then
pub record IsPut (old new : List (List Bool)) (a : Place) (bytes : List ℕ) : Type 0 where
  pub block : (d : ℕ) → block_of (bits_at old a.track) (id_for old) a ≡ Ok d → IsOverwritten (bits_at old a.track) (bits_at new a.track) d (block_code bytes)

-- a track of the disk: one of the first 35, for which its file has a place
abbrev pub HasTrack : G64State → ℕ → Type 0
HasTrack d t = (0 < t) × (t ≤ 35) × (offset (base_of d.formatted d.file) (t - 1) ≢ 0)

-- the bytes outside the tracks: those of the file, and of a new file after a format
abbrev pub g64_outside : Bool → List ℕ → Outside
g64_outside is_formatted file = record { kept = g64_rest (base_of is_formatted file); formatted = g64_rest new_file }

-- what the disk shows: an image has 35 tracks, and a disk in memory never fails by itself
abbrev pub g64_seen : G64State → Seen
g64_seen d = record { content = g64_content d.tracks; tracks = 35; protected = d.protected; failures = 0; refused = None; id = Some (id_for d.tracks); outside = g64_outside d.formatted d.file }

-- each track is as formatting writes it
abbrev pub AreFresh : List ℕ → List (List Bool) → Type 0
AreFresh id tracks = (i : ℕ) → i < 35 → slice_index_or tracks i [] ≡ fresh (i + 1) id

-- each sector's data block stands where formatting puts it
pub record AreLaid (tracks : List (List Bool)) : Type 0 where
  pub blocks : (p : Place) → Has 35 p → block_of (bits_at tracks p.track) (id_for tracks) p ≡ Ok (block_place p.sector)

-- a place of track t that is in none of the data blocks that formatting puts there
abbrev pub IsBetween : ℕ → ℕ → Type 0
IsBetween t k = (s : ℕ) → s < sectors_on t → (k < block_place s) ⊎ (block_place s + 2600 ≤ k)

-- Tracks that were formatted and then written: lengths, marks, headers and gaps are as formatting writes them, and each sector's data block is the code of what the sector shows.
pub record AreFilled (id : List ℕ) (tracks : List (List Bool)) : Type 0 where
  pub lengths : (i : ℕ) → i < 35 → length (slice_index_or tracks i []) ≡ 8 * bytes_on (i + 1)
  pub between : (i k : ℕ) → i < 35 → k < 8 * bytes_on (i + 1) → IsBetween (i + 1) k → circle_bit (slice_index_or tracks i []) k ≡ circle_bit (fresh (i + 1) id) k
  pub blocks : (p : Place) → Has 35 p → (bytes : List ℕ) → g64_content tracks p ≡ Ok bytes
      → (k : ℕ) → k < 2600 → circle_bit (bits_at tracks p.track) (block_place p.sector + k) ≡ slice_index_or (block_code bytes) k false

-- a cell, or zeros where it holds a fault
abbrev pub or_zeros : Cell → Cell
or_zeros (Ok bytes) = Ok bytes
or_zeros (Err code) = Ok (replicate 256 0)
