use Rattle.std.proofs.Common.{length}
use Rattle.bus_beside.proofs.drives.+go_each.Given as goal

abbrev pub decreases-go_each : goal.decreases-go_each
decreases-go_each g l = length l.seats.now
