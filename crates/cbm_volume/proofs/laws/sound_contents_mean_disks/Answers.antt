use Rattle.cbm_volume.proofs.layouts.Meaning.{sound_means}
use Rattle.cbm_volume.proofs.laws.sound_contents_mean_disks.Goals as goal

pub returns : goal.returns
returns c = λ tracks content x. sound_means tracks content x.0 x.1
