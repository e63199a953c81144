use Rattle.cbm_channel.proofs.SavedAgain.{dos_again}
use Rattle.cbm_channel.proofs.laws.what_is_kept_is_read_again.Goals as goal

pub returns : goal.returns
returns g c = dos_again
