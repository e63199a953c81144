use Rattle.std.proofs.Common.{◌≡◌, ◌+◌}
use Rattle.cbm_directory.specs.Slots.{directory_of, listed_left, most_left}
use Rattle.cbm_directory.proofs.Stepping.{Looked}
use Rattle.cbm_directory.proofs.slots.find.Given as goal

abbrev pub invariant-slots : goal.invariant-slots
invariant-slots g l = (l.slots.tracks ≡ l.fn.geometry) × (l.number + most_left l.slots ≡ 144)
    × Looked (g.W.Wanted.wants l.wanted) (directory_of l.fn.geometry (g.M.Medium.seen l.medium).content) l.number (listed_left (g.M.Medium.seen l.medium).content l.slots)

abbrev pub decreases-slots : goal.decreases-slots
decreases-slots g l = most_left l.slots
