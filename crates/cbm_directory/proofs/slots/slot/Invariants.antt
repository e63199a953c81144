use Rattle.std.proofs.Common.{◌≡◌}
use Rattle.cbm_directory.specs.Slots.{directory_of, listed_left}
use Rattle.cbm_directory.proofs.Stepping.{Passed}
use Rattle.cbm_directory.proofs.slots.slot.Given as goal

abbrev pub invariant-loop-passed : goal.invariant-loop-passed
invariant-loop-passed g l = (l.slots.tracks ≡ l.fn.geometry)
    × Passed (directory_of l.fn.geometry (g.M.Medium.seen l.medium).content) l.passed (listed_left (g.M.Medium.seen l.medium).content l.slots)
