use Rattle.std.proofs.Common.{length}
use Rattle.bus_beside.proofs.plays.Plays.+host.Given as goal

abbrev pub decreases-host : goal.decreases-host
decreases-host g l = length l.tidied.now
