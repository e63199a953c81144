-- The headers of all sectors, in order.
use Rattle.std.specs.Prelude.{ℕ, ◌<◌, ◌≡◌, ◌==◌, ◌&&◌, ◌||◌, nat_lt, Bool, true, false, Ok, Err}
use Rattle.cbm_medium.specs.Place.{Place, Has, sectors_on}
use Rattle.cbm_medium.specs.Content.{Cell, Content, is_header_fault}
use Rattle.cbm_bam.specs.Map.{at}
use Rattle.cbm_volume.specs.Layouts.{IsCellWritable}
use Rattle.cbm_volume.specs.declared.check.unsound.Unsound.{Unsound}
use Rattle.cbm_volume.specs.check.Claims.{fault_at}

-- what stands in place of a sector's bytes is a fault of its header
abbrev pub is_bad_header : Cell → Bool
is_bad_header (Ok bytes) = false
is_bad_header (Err code) = is_header_fault code

-- addresses are ordered by their tracks, and by their sectors on one track
abbrev pub comes_before : Place → Place → Bool
comes_before q p = nat_lt q.track p.track || ((q.track == p.track) && nat_lt q.sector p.sector)

-- the first sector of the disk that has a fault of its header
pub record IsFirstBad (tracks : ℕ) (content : Content) (p : Place) : Type 0 where
  pub has : Has tracks p
  pub bad : is_bad_header (content p) ≡ true
  pub first : (q : Place) → Has tracks q → comes_before q p ≡ true → IsCellWritable (content q)

-- the first sector of a track that has a fault of its header (5)
abbrev pub TrackFault : Content → ℕ → Unsound → Type 0
TrackFault content track u =
    (s : ℕ) × (s < sectors_on track) × (is_bad_header (content (at track s)) ≡ true)
    × ((r : ℕ) → r < s → IsCellWritable (content (at track r))) × (u ≡ fault_at 5 (at track s))
