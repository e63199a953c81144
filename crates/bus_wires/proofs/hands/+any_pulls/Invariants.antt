use Rattle.std.proofs.Common.{length}
use Rattle.bus_wires.proofs.hands.+any_pulls.Given as goal

abbrev pub decreases-any_pulls : goal.decreases-any_pulls
decreases-any_pulls l = length l.seats.now
