use Rattle.cbm_volume.proofs.layouts.Settled.{disk_settled}
use Rattle.cbm_volume.proofs.laws.contents_mean_one_disk.Goals as goal

pub returns : goal.returns
returns c = λ tracks content d e h k. disk_settled tracks content h.layout k.layout d e h.stands k.stands
