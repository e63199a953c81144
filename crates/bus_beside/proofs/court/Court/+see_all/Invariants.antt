use Rattle.std.proofs.Common.{length}
use Rattle.bus_beside.proofs.court.Court.+see_all.Given as goal

abbrev pub decreases-see_all : goal.decreases-see_all
decreases-see_all l = length l.changes.now
