-- A new relative file: one block of fresh records, and one side sector that lists it.
use Rattle.std.specs.Prelude.{ℕ, ◌+◌, ◌*◌, ◌/◌, ◌%◌, ◌<◌, ◌≤◌, ◌≡◌, ◌==◌, ◌⊎◌, nat_lt, List, ◌∷◌, ◌++◌, length, replicate, slice_index, find, if◌then◌else◌, Some, Option, MatchOption}
use Rattle.cbm_medium.specs.Place.{Place, directory_head}
use Rattle.cbm_medium.specs.Content.{Content, written}
use Rattle.cbm_medium.specs.Seen.{Seen, write_refusal, HasFailed}
use Rattle.cbm_bam.specs.Map.{map_of, is_free_in, IsFull, Claims}
use Rattle.cbm_bam.specs.Orders.{first_order, next_order}
use Rattle.cbm_bam.specs.Causes.{HasCause}

-- the byte at a place of this many fresh records of this width, and 0 after them
abbrev pub fresh_byte : ℕ → ℕ → ℕ → ℕ
fresh_byte w j o = if nat_lt o (j * w) then (if o % w == 0 then 255 else 0) else 0

-- A last block whose 254 bytes are as many fresh records of this width as there is room for, and zeros.
pub record IsFreshBlock (w : ℕ) (bytes : List ℕ) : Type 0 where
  pub whole : length bytes ≡ 256
  pub last : slice_index bytes 0 ≡ 0
  pub full : slice_index bytes 1 ≡ 255
  pub each : (o : ℕ) → o < 254 → slice_index bytes (2 + o) ≡ fresh_byte w (254 / w) o

-- The side sector of number 0, which is the last and lists itself alone and one block: byte 17 is the last that is used.
abbrev pub one_listed : Place → Place → ℕ → List ℕ
one_listed block side w = 0 ∷ 17 ∷ 0 ∷ w ∷ side.track ∷ side.sector ∷ (replicate 10 0 ++ (block.track ∷ block.sector ∷ replicate 238 0))

-- two blocks are claimed, one after the other: the first that is free where a first block is looked for, and then after that one
pub record AreClaimed (tracks : ℕ) (old new : Content) (p q : Place) : Type 0 where
  pub one : Content
  pub first : Claims tracks old one p
  pub second : Claims tracks one new q
  pub is_first : find (is_free_in (map_of old)) (first_order tracks) ≡ Some p
  pub is_next : find (is_free_in (map_of one)) (next_order tracks p) ≡ Some q

-- No block is free, or no second one.
abbrev pub LacksBlocks : ℕ → Content → Content → Type 0
LacksBlocks tracks old new = (IsFull tracks (map_of old) × (new ≡ old)) ⊎ ((p : Place) × Claims tracks old new p × IsFull tracks (map_of new))

-- two blocks were claimed; or there weren't two, and one of them may be claimed
abbrev pub ClaimsTwo : ℕ → Content → Content → Option (Place × Place) → Type 0
ClaimsTwo tracks old new o = MatchOption o (LacksBlocks tracks old new) (λ r. AreClaimed tracks old new r.0 r.1)

-- A claim was refused, the first or the second, for what stands in 18/0 then, or by a failure of the medium's own.
pub record IsClaimStopped (tracks : ℕ) (old new : Seen) (code : ℕ) : Type 0 where
  pub mid : Seen
  pub before : (mid.content ≡ old.content) ⊎ ((p : Place) × Claims tracks old.content mid.content p)
  pub protected : mid.protected ≡ old.protected
  pub counted : old.failures ≤ mid.failures
  pub same : new.content ≡ mid.content
  pub cause : HasCause mid new directory_head code

-- The block is written, and then the side sector.
pub record IsNewRelfile (old new : Content) (p q : Place) (w : ℕ) : Type 0 where
  pub block : List ℕ
  pub fresh : IsFreshBlock w block
  pub written : new ≡ written (written old p block) q (one_listed p q w)

-- why a sector isn't written
abbrev pub IsNotWritten : Seen → Seen → Place → ℕ → Type 0
IsNotWritten old new p code = (write_refusal old p ≡ Some code) ⊎ HasFailed old new

-- The block is written, and nothing but the content is another.
pub record HasBlock (old mid : Seen) (p : Place) : Type 0 where
  pub block : List ℕ
  pub written : mid.content ≡ written old.content p block
  pub protected : mid.protected ≡ old.protected
  pub counted : old.failures ≤ mid.failures

-- The block wasn't written, or the side sector after it.
abbrev pub IsNewStopped : Seen → Seen → Place → Place → ℕ → Type 0
IsNewStopped old new p q code =
    ((new.content ≡ old.content) × IsNotWritten old new p code)
    ⊎ ((mid : Seen) × HasBlock old mid p × (new.content ≡ mid.content) × IsNotWritten mid new q code)
