-- A side sector more for a file whose side sectors can't list all its blocks: it lists none yet.
use Rattle.std.specs.Prelude.{ℕ, ◌+◌, ◌*◌, ◌<◌, ◌≤◌, ◌≡◌, List, length, slice_index}
use Rattle.cbm_medium.specs.Place.{Place}
use Rattle.cbm_medium.specs.Content.{Content, written}
use Rattle.cbm_bam.specs.Map.{Claims}
use Rattle.cbm_relfile.specs.SideSectors.{sides_begin, blocks_begin}

-- A new side sector t, the one after this many others, with their list and itself: it is the last, and lists no block.
pub record IsEmptySide (head : List ℕ) (k w : ℕ) (t : Place) (new : List ℕ) : Type 0 where
  pub whole : length new ≡ 256
  pub ends : (slice_index new 0 ≡ 0) × (slice_index new 1 ≡ 15)
  pub number : slice_index new 2 ≡ k
  pub width : slice_index new 3 ≡ w
  pub others : (i : ℕ) → sides_begin ≤ i → i < sides_begin + 2 * k → slice_index new i ≡ slice_index head i
  pub itself : (slice_index new (sides_begin + 2 * k) ≡ t.track) × (slice_index new (sides_begin + 1 + 2 * k) ≡ t.sector)
  pub last : k < 5 → (slice_index new (sides_begin + 2 + 2 * k) ≡ 0) × (slice_index new (sides_begin + 3 + 2 * k) ≡ 0)
  pub afterwards : (i : ℕ) → sides_begin + 4 + 2 * k ≤ i → i < blocks_begin → slice_index new i ≡ slice_index head i
  pub zeros : (i : ℕ) → blocks_begin ≤ i → slice_index new i ≡ 0

-- it is claimed and written
pub record IsEmptyBegun (tracks : ℕ) (old new : Content) (head : List ℕ) (k w : ℕ) (t : Place) : Type 0 where
  pub one : Content
  pub claims : Claims tracks old one t
  pub side : List ℕ
  pub empty : IsEmptySide head k w t side
  pub written : new ≡ written one t side
