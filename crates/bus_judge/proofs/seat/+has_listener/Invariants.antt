use Rattle.std.proofs.Common.{length}
use Rattle.bus_judge.proofs.seat.+has_listener.Given as goal

abbrev pub decreases-has_listener : goal.decreases-has_listener
decreases-has_listener l = length l.seats.now
