use Rattle.std.proofs.Common.{length}
use Rattle.bus_judge.proofs.varied.range.+range_at.Given as goal

abbrev pub decreases-range_at : goal.decreases-range_at
decreases-range_at l = length l.ranges.now
