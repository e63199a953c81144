use Rattle.std.proofs.Common.{length}
use Rattle.bus_judge.proofs.parts.+cells_part.Given as goal

abbrev pub decreases-cells_part : goal.decreases-cells_part
decreases-cells_part l = length l.cells.now
