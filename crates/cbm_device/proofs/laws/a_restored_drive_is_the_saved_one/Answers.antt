use Rattle.cbm_device.proofs.Restored.{same_again}
use Rattle.cbm_device.proofs.laws.a_restored_drive_is_the_saved_one.Goals as goal

pub returns : goal.returns
returns c = same_again
