use Rattle.std.proofs.Common.{length}
use Rattle.bus_judge.proofs.parts.+join_parts.Given as goal

abbrev pub decreases-join_parts : goal.decreases-join_parts
decreases-join_parts l = length l.seats.now
