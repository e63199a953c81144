use Rattle.std.proofs.Common.{length}
use Rattle.bus_judge.proofs.seat.+has_talker.Given as goal

abbrev pub decreases-has_talker : goal.decreases-has_talker
decreases-has_talker l = length l.seats.now
