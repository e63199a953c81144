use Rattle.std.proofs.Common.{length}
use Rattle.bus_judge.proofs.seat.+bus_pace.Given as goal

abbrev pub decreases-bus_pace : goal.decreases-bus_pace
decreases-bus_pace l = length l.seats.now
