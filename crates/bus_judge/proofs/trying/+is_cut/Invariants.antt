use Rattle.std.proofs.Common.{length}
use Rattle.bus_judge.proofs.trying.+is_cut.Given as goal

abbrev pub decreases-is_cut : goal.decreases-is_cut
decreases-is_cut l = length l.steps.now
