use Rattle.std.proofs.Common.{length}
use Rattle.bus_judge.proofs.seat.+fastest.Given as goal

abbrev pub decreases-fastest : goal.decreases-fastest
decreases-fastest l = length l.seats.now
