use Rattle.std.proofs.Common.{length}
use Rattle.bus_judge.proofs.frame.+last_pull.Given as goal

abbrev pub decreases-last_pull : goal.decreases-last_pull
decreases-last_pull l = length l.cells.now
