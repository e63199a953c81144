use Rattle.std.proofs.Common.{◌≡◌, take}
use Rattle.bus_judge.proofs.trying.next_after.Given as goal

-- so many steps are the same
abbrev pub invariant-loop-i : goal.invariant-loop-i
invariant-loop-i l = take l.i l.list ≡ take l.i l.seen
