use Rattle.cbm_iec.specs.Ports.{port_due}
use Rattle.cbm_drive.proofs.Ahead.{time_left}
use Rattle.cbm_drive.proofs.looking.+shows.Given as goal

abbrev pub decreases-shows : goal.decreases-shows
decreases-shows l = time_left l.limit (port_due l.port)
