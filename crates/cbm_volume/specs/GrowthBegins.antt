-- A relative file begins to grow: what holds where it can grow block by block.
use Rattle.std.specs.Prelude.{ℕ, ◌-◌, ◌*◌, ◌≤◌, ◌≡◌, Result, MatchResult}
use Rattle.cbm_medium.specs.Place.{Place}
use Rattle.cbm_medium.specs.Seen.{Seen}
use Rattle.cbm_medium.specs.declared.fault.Trouble.{Trouble}
use Rattle.cbm_file.specs.Records.{sides_for}
use Rattle.cbm_relfile.specs.Records.{Relative}
use Rattle.cbm_volume.specs.declared.records.growing_blocks.Reach.{Reach}
use Rattle.cbm_volume.specs.Calls.{IsLeftAlone}
use Rattle.cbm_relfile.specs.SideSectors.{most_blocks}
use Rattle.cbm_volume.specs.Layouts.{Layout}
use Rattle.cbm_volume.specs.Growth.{IsGrowthCut}
use Rattle.cbm_volume.specs.Growing.{IsListed, HasGrown, IsReadyToGrow, IsGrowthStopped, OfSized}

-- THE LAST DATA BLOCK IS FULL, and is answered, where the side sectors list the blocks in the drive's form; or a write was refused.
abbrev pub FillsLast : Result Place Trouble → Seen → Seen → ℕ → Relative → ℕ → Type 0
FillsLast result old new geometry r blocks =
    (n s : ℕ) → OfSized geometry old r n blocks s (λ d uses w rs o. let l = o.holds.layout in
    IsListed old.content (l.files n).sides (l.files n).data_blocks → MatchResult result
    (λ at. HasGrown old.tracks old.content d uses n w blocks s rs o r new.content blocks s at)
    (IsGrowthCut old new d uses n w rs))

-- A FILE WHOSE SIDE SECTORS CAN LIST ALL ITS BLOCKS GROWS BLOCK BY BLOCK FROM HERE: it lists them in the drive's form, and its last data block
-- is full, and is answered; or a write was refused.
abbrev pub BeginsListed : Result Place Trouble → Seen → Seen → ℕ → Relative → ℕ → ℕ → Type 0
BeginsListed result old new geometry r blocks sides =
    (n : ℕ) → OfSized geometry old r n blocks sides (λ d uses w rs o. blocks ≤ most_blocks * sides → MatchResult result
    (λ at. HasGrown old.tracks old.content d uses n w blocks sides rs o r new.content blocks sides at)
    (IsGrowthStopped old new old.content o.holds.layout d uses n w rs))

-- A FILE GROWS BLOCK BY BLOCK FROM HERE, where enough blocks are free for the side sectors that it lacks: it has as many as list all its
-- blocks; or a write was refused.
abbrev pub BeginsGrowth : Result Reach Trouble → Seen → Seen → ℕ → Relative → ℕ → ℕ → Type 0
BeginsGrowth result old new geometry r blocks sides =
    (n : ℕ) → OfSized geometry old r n blocks sides (λ d uses w rs o. sides_for sides blocks - sides ≤ d.free →
    MatchResult result (λ x. (x.sides ≡ sides_for sides blocks) ×
    HasGrown old.tracks old.content d uses n w blocks sides rs o r new.content blocks x.sides x.last)
    (IsGrowthStopped old new old.content o.holds.layout d uses n w rs))

-- nothing is written to a file that grows as it lies, such as this drive wrote
abbrev pub KeepsReady : {A : Type 0} → Result A Trouble → Seen → Seen → Layout → ℕ → ℕ → Type 0
KeepsReady result old new l n blocks = IsReadyToGrow old.content (l.files n).sides (l.files n).data_blocks blocks → IsLeftAlone result old new
