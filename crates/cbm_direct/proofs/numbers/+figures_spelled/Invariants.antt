use Rattle.std.proofs.Common.{length}
use Rattle.cbm_direct.proofs.numbers.+figures_spelled.Given as goal

abbrev pub decreases-figures_spelled : goal.decreases-figures_spelled
decreases-figures_spelled l = length l.text.now
