use Rattle.std.proofs.Common.{length}
use Rattle.bus_beside.proofs.drives.+all_from.Given as goal

abbrev pub decreases-all_from : goal.decreases-all_from
decreases-all_from g l = length l.seats.now
