use Rattle.std.proofs.Common.{length}
use Rattle.bus_judge.proofs.parts.+bits_part.Given as goal

abbrev pub decreases-bits_part : goal.decreases-bits_part
decreases-bits_part l = length l.told.now
