use Rattle.std.proofs.Common.{length}
use Rattle.bus_judge.proofs.seat.+slowest.Given as goal

abbrev pub decreases-slowest : goal.decreases-slowest
decreases-slowest l = length l.seats.now
