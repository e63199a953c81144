use Rattle.std.proofs.Common.{length}
use Rattle.bus_judge.proofs.point.+held_before.Given as goal

abbrev pub decreases-held_before : goal.decreases-held_before
decreases-held_before l = length l.steps.now
