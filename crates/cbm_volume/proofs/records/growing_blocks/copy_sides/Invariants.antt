use Rattle.std.proofs.Common.{◌≤◌, ◌+◌, ◌-◌, ℕ, List, Ok}
use Rattle.cbm_medium.specs.Seen.{OnlyContent}
use Rattle.cbm_relfile.specs.Growing.{AreSides, AreSidesLinked}
use Rattle.cbm_volume.proofs.grown.GrowingJoined.{HasCopied}
use Rattle.cbm_volume.proofs.grown.SidesAnswers.{GoesBy, OfEmpty}
use Rattle.cbm_volume.proofs.records.growing_blocks.copy_sides.Given as goal

-- the side sectors so far have the new one in their lists
abbrev pub invariant-loop-passed : goal.invariant-loop-passed
invariant-loop-passed g l =
    HasCopied (g.M.Medium.seen l.initial.medium) (g.M.Medium.seen l.medium) l.file l.geometry l.sides l.side × OnlyContent {A = Unit {0}} l.geometry (Ok tt) (g.M.Medium.seen l.initial.medium) (g.M.Medium.seen l.medium) × (1 ≤ l.passed)
    × ((head : List ℕ) → AreSides l.geometry (g.M.Medium.seen l.initial.medium).content l.file.side head l.sides
    → AreSidesLinked (g.M.Medium.seen l.initial.medium).content (g.M.Medium.seen l.medium).content head (l.sides + 1 - l.passed) l.sides l.side)
    × GoesBy (g.M.Medium.seen l.initial.medium).tracks (g.M.Medium.seen l.initial.medium) (g.M.Medium.seen l.medium) l.geometry (OfEmpty l.file l.sides l.side) (OfEmpty l.file l.sides l.side) (λ p q. p)
