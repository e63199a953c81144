use Rattle.std.proofs.Common.{length}
use Rattle.cbm_direct.proofs.numbers.+without_gap.Given as goal

abbrev pub decreases-without_gap : goal.decreases-without_gap
decreases-without_gap l = length l.text.now
