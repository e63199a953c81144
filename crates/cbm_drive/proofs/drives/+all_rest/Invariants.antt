use Rattle.std.proofs.Common.{length}
use Rattle.cbm_drive.proofs.drives.+all_rest.Given as goal

abbrev pub decreases-all_rest : goal.decreases-all_rest
decreases-all_rest g l = length l.drives.now
