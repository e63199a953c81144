use Rattle.std.proofs.Common.{length}
use Rattle.cbm_drive.proofs.looking.+any_shows.Given as goal

abbrev pub decreases-any_shows : goal.decreases-any_shows
decreases-any_shows g l = length l.drives.now
