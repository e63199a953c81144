-- What no write changes of a G64: all bytes but those of its 35 tracks, so the tables, the half tracks, the tracks beyond 35, and the gaps.
use Rattle.std.specs.Prelude.{ℕ, ◌+◌, List, Bool, not, ◌&&◌, ◌==◌, nat_lt, nat_le, if◌then◌else◌, length, slice_index}
use Rattle.cbm_medium.specs.Seen.{OutsideBytes}
use Rattle.cbm_track.specs.Circle.{each_below}
use Rattle.cbm_g64.specs.File.{offset, size}

-- a byte of track i + 1
unfoldable pub is_in_track : List ℕ → ℕ → ℕ → Bool
is_in_track file p i = not (offset file i == 0) && (nat_le (offset file i + 2) p && nat_lt p (offset file i + 2 + size file i))

-- a byte of no track
unfoldable pub is_outside : List ℕ → ℕ → Bool
is_outside file p = each_below (λ i. not (is_in_track file p i)) 35

unfoldable pub g64_rest : List ℕ → OutsideBytes
g64_rest file = record { size = length file; byte = λ p. if is_outside file p then slice_index file p else 0 }
