use Rattle.std.proofs.Common.{length}
use Rattle.cbm_direct.proofs.numbers.+without_figures.Given as goal

abbrev pub decreases-without_figures : goal.decreases-without_figures
decreases-without_figures l = length l.text.now
