-- Where the headers of a track's sectors stand, found once.
use Rattle.std.specs.Prelude.{ℕ, ◌≡◌, ◌<◌, ◌==◌, List, Bool, false, Option, Some, None, slice_index_or}
use Rattle.cbm_track.specs.Circle.{first_below}
use Rattle.cbm_sector.specs.Answer.{header_at, header_of, names}

-- a header names this sector
abbrev pub is_of : Option ℕ → ℕ → Bool
is_of None s = false
is_of (Some sector) s = sector == s

-- OF EACH SECTOR OF A TRACK WITH THIS NUMBER the place of its first header is known, from the track's first bit on, or that it has none.
abbrev pub IsIndex : List Bool → ℕ → List (Option ℕ) → Type 0
IsIndex track number headers = (s : ℕ) → s < 21 → slice_index_or headers s None ≡ header_of track (record { track = number; sector = s })

-- the same of the headers before a place
abbrev pub IsIndexBelow : List Bool → ℕ → ℕ → List (Option ℕ) → Type 0
IsIndexBelow track number from headers = (s : ℕ) → s < 21 → slice_index_or headers s None ≡ first_below (header_at (names (record { track = number; sector = s })) track) from
