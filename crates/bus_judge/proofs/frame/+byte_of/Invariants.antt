use Rattle.std.proofs.Common.{length}
use Rattle.bus_judge.proofs.frame.+byte_of.Given as goal

abbrev pub decreases-byte_of : goal.decreases-byte_of
decreases-byte_of l = length l.cells.now
