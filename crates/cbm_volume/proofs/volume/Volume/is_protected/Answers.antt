use Rattle.std.proofs.Common.{ap, ◌∙◌}
use Rattle.cbm_volume.proofs.volume.Volume.is_protected.Goals as goal

pub returns : goal.returns
returns g c = c.protected.ensures ∙ ap (λ m. (g.M.Medium.seen m).protected) c.self.view_is
