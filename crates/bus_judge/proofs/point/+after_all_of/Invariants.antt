use Rattle.std.proofs.Common.{length}
use Rattle.bus_judge.proofs.point.+after_all_of.Given as goal

abbrev pub decreases-after_all_of : goal.decreases-after_all_of
decreases-after_all_of l = length l.seats.now
