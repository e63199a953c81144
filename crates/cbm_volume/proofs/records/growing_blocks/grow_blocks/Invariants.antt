use Rattle.std.proofs.Common.{◌≡◌, ◌≤◌, ◌+◌, Ok}
use Rattle.cbm_medium.specs.Seen.{OnlyContent}
use Rattle.cbm_volume.proofs.grown.GrowingJoined.{HasTurned}
use Rattle.cbm_volume.proofs.records.growing_blocks.grow_blocks.Given as goal

-- the blocks so far
abbrev pub invariant-loop-passed : goal.invariant-loop-passed
invariant-loop-passed g l =
    HasTurned (g.M.Medium.seen l.initial.medium) (g.M.Medium.seen l.medium) l.file l.geometry l.fn.from.blocks l.fn.from.sides l.fn.from.last l.count l.passed l.reach.blocks l.reach.sides l.reach.last
    × OnlyContent {A = Unit {0}} l.geometry (Ok tt) (g.M.Medium.seen l.initial.medium) (g.M.Medium.seen l.medium)
    × (l.reach.blocks ≡ l.fn.from.blocks + l.passed) × (l.reach.sides ≤ 6) × (l.reach.last.track ≤ l.geometry) × (l.passed ≤ l.count)
