use Rattle.std.proofs.Common.{length, ◌+◌}
use Rattle.bus_judge.proofs.step.+join.Given as goal

abbrev pub decreases-join : goal.decreases-join
decreases-join l = length l.first.now + length l.second.now
