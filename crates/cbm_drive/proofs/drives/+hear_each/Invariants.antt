use Rattle.std.proofs.Common.{length}
use Rattle.cbm_drive.proofs.drives.+hear_each.Given as goal

abbrev pub decreases-hear_each : goal.decreases-hear_each
decreases-hear_each g l = length l.changes.now
