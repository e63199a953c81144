use Rattle.std.proofs.Common.{length}
use Rattle.bus_judge.proofs.varied.range.+widest.Given as goal

abbrev pub decreases-widest : goal.decreases-widest
decreases-widest l = length l.ranges.now
