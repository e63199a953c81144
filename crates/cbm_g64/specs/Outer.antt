-- A G64 image has no tracks beyond 35.
use Rattle.std.specs.Prelude.{ℕ, ◌≡◌, ◌<◌, None}
use Rattle.std.proofs.Common.{arith}
use Rattle.cbm_medium.specs.Place.{Place}
use Rattle.cbm_medium.specs.Content.{Content, header_fault}

-- what would be asked of the tracks 36 to 40
pub no_outer : (n : ℕ) → n ≡ 35 → (content : Content) (p : Place) → n ≡ 40 → 35 < p.track → header_fault (content p) ≡ None
no_outer n e content p f h = absurd (omega arith)
