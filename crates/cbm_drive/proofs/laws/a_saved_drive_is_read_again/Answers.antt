use Rattle.cbm_drive.proofs.SavedAgain.{seat_again}
use Rattle.cbm_drive.proofs.laws.a_saved_drive_is_read_again.Goals as goal

pub returns : goal.returns
returns g c = seat_again
