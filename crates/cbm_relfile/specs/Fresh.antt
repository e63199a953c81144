-- Fresh records in the blocks of a file that grows.
use Rattle.std.specs.Prelude.{ℕ, ◌+◌, ◌*◌, ◌<◌, ◌≤◌, ◌≡◌, List, length, slice_index}
use Rattle.cbm_medium.specs.Place.{Place}
use Rattle.cbm_file.specs.Records.{record_count}
use Rattle.cbm_relfile.specs.Making.{fresh_byte}

-- the byte at place o of a file of this many data blocks that has fresh records alone
abbrev pub fresh_in : ℕ → ℕ → ℕ → ℕ
fresh_in w blocks o = fresh_byte w (record_count w blocks) o

-- A DATA BLOCK IS FILLED UP with fresh records from a place of its data on: block i of a file of this many. It links to this place, and
-- the data before are as they were.
pub record IsFilledFrom (w blocks i place : ℕ) (old : List ℕ) (next : Place) (new : List ℕ) : Type 0 where
  pub whole : length new ≡ 256
  pub track : slice_index new 0 ≡ next.track
  pub sector : slice_index new 1 ≡ next.sector
  pub front : (o : ℕ) → o < place → slice_index new (2 + o) ≡ slice_index old (2 + o)
  pub fresh : (o : ℕ) → place ≤ o → o < 254 → slice_index new (2 + o) ≡ fresh_in w blocks (254 * i + o)

-- the link of a last block that is full
abbrev pub full_end : Place
full_end = record { track = 0; sector = 255 }
