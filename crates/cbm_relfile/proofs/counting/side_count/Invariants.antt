use Rattle.std.proofs.Common.{◌≡◌, ◌+◌, length}
use Rattle.cbm_relfile.specs.SideSectors.{sides_following}
use Rattle.cbm_relfile.proofs.counting.side_count.Given as goal

-- those that were counted, and what is listed after them
abbrev pub invariant-loop-number : goal.invariant-loop-number
invariant-loop-number l = l.number + length (sides_following l.number l.head) ≡ length (sides_following 0 l.head)
