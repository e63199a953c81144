use Rattle.cbm_volume.specs.NewDisks.{around_map}
use Rattle.cbm_volume.proofs.disk.formatting.around_map.Goals as goal

pub returns : goal.returns
unfolding around_map
returns c = c.put_label.ensures
