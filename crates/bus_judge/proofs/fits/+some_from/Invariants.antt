use Rattle.std.proofs.Common.{length}
use Rattle.bus_judge.proofs.fits.+some_from.Given as goal

abbrev pub decreases-some_from : goal.decreases-some_from
decreases-some_from l = length l.steps.now
