use Rattle.std.proofs.Common.{length}
use Rattle.bus_judge.proofs.seat.+longest.Given as goal

abbrev pub decreases-longest : goal.decreases-longest
decreases-longest l = length l.seats.now
