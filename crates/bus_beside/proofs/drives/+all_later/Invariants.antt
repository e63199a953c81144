use Rattle.std.proofs.Common.{length}
use Rattle.bus_beside.proofs.drives.+all_later.Given as goal

abbrev pub decreases-all_later : goal.decreases-all_later
decreases-all_later g l = length l.seats.now
