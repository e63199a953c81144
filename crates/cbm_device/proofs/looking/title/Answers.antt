use Rattle.std.proofs.Common.{true}
use Rattle.cbm_device.proofs.Opening.{holds_of}
use Rattle.cbm_device.proofs.looking.title.Goals as goal

pub returns-in-Ok-clause-means : goal.returns-in-Ok-clause-means
returns-in-Ok-clause-means c = λ d h. c.in-Ok.ensures.means d (holds_of c.args.image.now true c.in_ok-volume.volume d c.in_ok-volume.ensures.ok h)
