-- The map as `check` looks at it: 18/0 itself, then the count of each track.
use Rattle.std.specs.Prelude.{ℕ, ◌<◌, ◌≤◌, ◌⊎◌, ◌≡◌, ◌==◌, List, Bool, true, false, IsOk}
use Rattle.cbm_medium.specs.Place.{sectors_on, directory_head}
use Rattle.cbm_medium.specs.Content.{Content}
use Rattle.cbm_bam.specs.Map.{map_of, is_free_in, tally, count_in, at}
use Rattle.cbm_volume.specs.declared.check.unsound.Unsound.{Unsound}
use Rattle.cbm_volume.specs.check.Claims.{reads, fault_at}

-- the map counts the free sectors of a track rightly
abbrev pub is_counted_on : ℕ → List ℕ → Bool
is_counted_on t map = count_in map t == tally (is_free_in map) t (sectors_on t)

-- 18/0 reads, isn't free, and each count is the number of its track's free bits
pub record IsMapRight (tracks : ℕ) (content : Content) : Type 0 where
  pub reads : IsOk (content directory_head)
  pub taken : is_free_in (map_of content) directory_head ≡ false
  pub counted : (t : ℕ) → 0 < t → t ≤ tracks → is_counted_on t (map_of content) ≡ true

-- the first track whose count isn't the number of its free bits
pub record IsFirstMiscount (tracks : ℕ) (map : List ℕ) (t : ℕ) : Type 0 where
  pub some : 0 < t
  pub few : t ≤ tracks
  pub miscounted : is_counted_on t map ≡ false
  pub first : (u : ℕ) → 0 < u → u < t → is_counted_on u map ≡ true

-- 18/0 reads, and has itself as taken
abbrev pub IsHeadRight : Content → Type 0
IsHeadRight content = IsOk (content directory_head) × (is_free_in (map_of content) directory_head ≡ false)

-- The first thing that is wrong with the map: 18/0 doesn't read (9); it reads, and is free in itself (2); or it is right, and a
-- count is wrong (1).
abbrev pub IsMapFault : ℕ → Content → Unsound → Type 0
IsMapFault tracks content u =
    ((u ≡ fault_at 9 directory_head) × (reads (content directory_head) ≡ false))
    ⊎ (((u ≡ fault_at 2 directory_head) × IsOk (content directory_head) × (is_free_in (map_of content) directory_head ≡ true))
    ⊎ (IsHeadRight content × ((t : ℕ) × (u ≡ fault_at 1 (at t 0)) × IsFirstMiscount tracks (map_of content) t)))
