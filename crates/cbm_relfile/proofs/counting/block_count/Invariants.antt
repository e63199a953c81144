use Rattle.std.proofs.Common.{List}
use Rattle.cbm_medium.specs.Place.{Place}
use Rattle.cbm_medium.specs.Links.{Chain}
use Rattle.cbm_medium.proofs.Passed.{WalksTo}
use Rattle.cbm_relfile.proofs.Counted.{Walked}
use Rattle.cbm_relfile.proofs.counting.block_count.Given as goal

-- what is left of a chain that begins where the walk began, and the blocks that were walked
abbrev pub invariant-loop-passed : goal.invariant-loop-passed
invariant-loop-passed g l =
    ((blocks : List Place) → Chain l.fn.geometry (g.M.Medium.seen l.medium).content l.fn.first blocks → Walked l.fn.geometry (g.M.Medium.seen l.medium).content l.at blocks l.passed)
    × WalksTo l.fn.geometry (g.M.Medium.seen l.medium).content l.fn.first l.at l.passed
