use Rattle.std.proofs.Common.{length}
use Rattle.bus_judge.proofs.fits.+cells_fit.Given as goal

abbrev pub decreases-cells_fit : goal.decreases-cells_fit
decreases-cells_fit l = length l.cells.now
