-- Sectors that were met, as a number for each track.
use Rattle.std.specs.Prelude.{ℕ, ◌*◌, ◌^◌, ◌%◌, ◌==◌, List, Bool, false, slice_index, slice_set, bit_or}
use Rattle.std.specs.Int.{bit_at}
use Rattle.cbm_medium.specs.Place.{Place}

-- the bit of a sector stands at its own number
unfoldable pub is_marked : List ℕ → Place → Bool
is_marked rows p = bit_at (slice_index rows p.track) p.sector == 1

-- the rows with one sector more
unfoldable pub with_row_mark : List ℕ → Place → List ℕ
with_row_mark rows p = slice_set rows p.track (bit_or (slice_index rows p.track) (1 * 2 ^ p.sector % 2 ^ 32))

-- no sector
abbrev pub nothing : Place → Bool
nothing p = false
