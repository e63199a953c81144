use Rattle.std.proofs.Common.{length}
use Rattle.bus_judge.proofs.seat.+talker_of.Given as goal

abbrev pub decreases-talker_of : goal.decreases-talker_of
decreases-talker_of l = length l.seats.now
