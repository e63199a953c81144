-- The image of a disk.
use Rattle.std.specs.Prelude.{ℕ, ◌+◌, ◌*◌, ◌<◌, ◌≤◌, ◌≡◌, ◌≢◌, ◌⊎◌, List, [], ◌∷◌, Bool, false, is_some, length, take, drop, slice_index, slice_index_or}
use Rattle.cbm_track.specs.Circle.{circle_bits_of}
use Rattle.cbm_g64.specs.File.{offset, size, g64_fault}
use Rattle.cbm_g64.specs.NewFile.{new_file}
use Rattle.cbm_g64.specs.Tracks.{id_for, AreFilled, AreLaid}

-- a byte of a file that belongs to none of its tracks
abbrev pub IsOutsideTracks : List ℕ → ℕ → Type 0
IsOutsideTracks file p = (i : ℕ) → i < 35 → offset file i ≢ 0 → (p < offset file i + 2) ⊎ (offset file i + 2 + size file i ≤ p)

-- the bytes of track i + 1 in an image that has the tracks of a file
abbrev pub track_bytes : List ℕ → List ℕ → ℕ → List ℕ
track_bytes file image i = take (size file i) (drop (offset file i + 2) image)

-- a file with these tracks in the places of its own; all else is as in the file
pub record IsImageOf (file : List ℕ) (tracks : List (List Bool)) (image : List ℕ) : Type 0 where
  pub same_length : length image ≡ length file
  pub circles : (i : ℕ) → i < 35 → offset file i ≢ 0 → circle_bits_of (track_bytes file image i) ≡ slice_index_or tracks i []
  pub others : (p : ℕ) → IsOutsideTracks file p → slice_index image p ≡ slice_index file p

-- 35 circles that can stand in a file without fault: each as long as the track there, and where there is no track the circle of a zero byte
pub record IsHeld (file : List ℕ) (tracks : List (List Bool)) : Type 0 where
  pub count : length tracks ≡ 35
  pub right : is_some (g64_fault file) ≡ false
  pub lengths : (i : ℕ) → i < 35 → offset file i ≢ 0 → length (slice_index_or tracks i []) ≡ 8 * size file i
  pub absent : (i : ℕ) → i < 35 → offset file i ≡ 0 → slice_index_or tracks i [] ≡ circle_bits_of (0 ∷ [])

-- THE TRACKS OF A NEW DISK of this id, whatever was written to its sectors since it was formatted.
pub record AreOfNewDisk (id : List ℕ) (tracks : List (List Bool)) : Type 0 where
  pub held : IsHeld new_file tracks
  pub laid : AreLaid tracks
  pub filled : AreFilled id tracks
  pub named : id_for tracks ≡ id
