-- The growth of the file in a slot: what it needs, and what it makes.
use Rattle.std.specs.Prelude.{ℕ, ◌+◌, ◌-◌, ◌≤◌, ◌≡◌, Option, Result, IsOkAnd, MatchOption, MatchResult}
use Rattle.cbm_medium.specs.Seen.{Seen}
use Rattle.cbm_medium.specs.declared.fault.Trouble.{Trouble}
use Rattle.cbm_file.specs.Records.{sides_for}
use Rattle.cbm_relfile.specs.Records.{Relative}
use Rattle.cbm_volume.specs.declared.records.growing.GrowthPlan.{GrowthPlan}
use Rattle.cbm_volume.specs.Growth.{IsTooLarge}
use Rattle.cbm_volume.specs.Growing.{IsGrowthStopped, IsGrownTo, IsPlanned, OfFile}
use Rattle.cbm_volume.specs.RecordWrites.{OfOpen}

-- WHAT THE GROWTH TO A RECORD NEEDS is answered, where a channel has the slot's records open and this many blocks are free; None where it is too
-- large.
abbrev pub PlansGrowth : Result (Option GrowthPlan) Trouble → Seen → ℕ → ℕ → ℕ → Type 0
PlansGrowth result now slot number free =
    OfOpen now slot (λ d uses w b s rs o. free ≡ d.free → IsOkAnd result
    (λ x. MatchOption x (IsTooLarge d w b s number)
    (λ p. IsPlanned now.tracks now.content d uses slot w b s rs o number p.file p.extent.blocks p.extent.sides p.blocks)))

-- THE FILE IN A SLOT HAS GROWN from b data blocks and s side sectors to this many data blocks, where enough blocks are free; or a write was
-- refused on the way.
abbrev pub GrowsFile : Result (Unit {0}) Trouble → Seen → Seen → ℕ → Relative → ℕ → ℕ → ℕ → Type 0
GrowsFile result old new slot r b s blocks =
    OfFile old r slot b s (λ d uses w rs o. blocks + sides_for s blocks - (b + s) ≤ d.free → MatchResult result
    (λ x. IsGrownTo old.tracks old.content new.content o.holds.layout d uses slot w rs b s blocks)
    (IsGrowthStopped old new old.content o.holds.layout d uses slot w rs))
