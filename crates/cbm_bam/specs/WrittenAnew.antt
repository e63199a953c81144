-- The map of a disk while it is written anew: the tracks in order, and the sectors of each in order.
use Rattle.std.specs.Prelude.{ℕ, ◌≡◌, ◌==◌, ◌&&◌, ◌||◌, not, nat_lt, List, Bool, false, length, slice_index}
use Rattle.cbm_medium.specs.Place.{Place, Has}
use Rattle.cbm_bam.specs.Map.{is_free_in, IsCounted, IsOutsideMap, IsSpare}

-- a sector of an earlier track, or an earlier one of this track
abbrev pub is_place_before : ℕ → ℕ → Place → Bool
is_place_before t s p = nat_lt p.track t || ((p.track == t) && nat_lt p.sector s)

-- The map up to a sector: of those before it, all that aren't used are free, and those after it aren't yet.
pub record IsAnew (tracks : ℕ) (old new : List ℕ) (used : Place → Bool) (t s : ℕ) : Type 0 where
  pub length : length new ≡ 256
  pub bits : (p : Place) → Has tracks p → is_free_in new p ≡ (is_place_before t s p && not (used p))
  pub counted : IsCounted tracks new
  pub outside : (i : ℕ) → IsOutsideMap tracks i → slice_index new i ≡ slice_index old i
  pub spare : (p : Place) → IsSpare tracks p → is_free_in new p ≡ false
