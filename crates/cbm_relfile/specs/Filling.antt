-- The last data block of a file is filled up with fresh records.
use Rattle.std.specs.Prelude.{ℕ, ◌-◌, ◌*◌, ◌/◌, ◌<◌, ◌≤◌, ◌≡◌, ◌⊎◌, List, length, slice_index_or, Ok}
use Rattle.cbm_medium.specs.Place.{Place, directory_head}
use Rattle.cbm_medium.specs.Content.{Content, written}
use Rattle.cbm_medium.specs.Links.{link}
use Rattle.cbm_medium.specs.Seen.{Seen}
use Rattle.cbm_chain.specs.Data.{chain_bytes}
use Rattle.cbm_relfile.specs.Fresh.{full_end, IsFilledFrom}
use Rattle.cbm_relfile.specs.Changing.{IsWriteRefused}

-- Block i of these is filled up from a place of its data on. It was read from c, and m is what the medium held before it was written.
pub record IsRefilled (c m c' : Content) (blocks : List Place) (w i place : ℕ) (next : List ℕ → Place) : Type 0 where
  pub sector : List ℕ
  pub holds : c (slice_index_or blocks i directory_head) ≡ Ok sector
  pub new : List ℕ
  pub filled : IsFilledFrom w (length blocks) i place sector (next sector) new
  pub written : c' ≡ written m (slice_index_or blocks i directory_head) new

-- where fresh records begin in this many bytes: after the last whole one
abbrev pub fresh_begin : ℕ → ℕ → ℕ
fresh_begin w n = n / w * w

-- the place in the file at which the last of these blocks begins
abbrev pub last_begin : List Place → ℕ
last_begin blocks = 254 * (length blocks - 1)

-- The block before the last one is filled up, where fresh records begin in it.
abbrev pub IsTailFilled : Content → Content → List Place → ℕ → ℕ → Type 0
IsTailFilled c c' blocks w from =
    ((last_begin blocks ≤ from) × (c' ≡ c))
    ⊎ ((from < last_begin blocks) × IsRefilled c c c' blocks w (length blocks - 2) (from - 254 * (length blocks - 2)) link)

-- That block is filled up, and then the last one.
pub record IsEndFilled (c c' : Content) (blocks : List Place) (w from : ℕ) : Type 0 where
  pub mid : Content
  pub tail : IsTailFilled c mid blocks w from
  pub last : IsRefilled c mid c' blocks w (length blocks - 1) (from - last_begin blocks) (λ sector. full_end)

-- THE LAST BLOCK IS FULL: it was so, or it is filled up with fresh records, which begin after the last whole record.
abbrev pub IsFilledUp : Content → Content → List Place → ℕ → Type 0
IsFilledUp c c' blocks w =
    let n = length (chain_bytes c blocks) in
    ((n ≡ 254 * length blocks) × (c' ≡ c)) ⊎ ((n < 254 * length blocks) × IsEndFilled c c' blocks w (fresh_begin w n))

-- A WRITE WAS REFUSED: nothing has changed, or the block before the last one is filled up.
pub record IsFillStopped (tracks : ℕ) (old new : Seen) (blocks : List Place) (w code : ℕ) : Type 0 where
  pub so_far : (new.content ≡ old.content) ⊎ IsTailFilled old.content new.content blocks w (fresh_begin w (length (chain_bytes old.content blocks)))
  pub cause : IsWriteRefused tracks old new code
