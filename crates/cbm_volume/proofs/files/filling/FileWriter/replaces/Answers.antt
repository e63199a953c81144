use Rattle.std.proofs.Common.{ap}
use Rattle.cbm_volume.specs.Writers.{Filling}
use Rattle.cbm_volume.proofs.files.filling.FileWriter.replaces.Goals as goal

pub returns : goal.returns
returns c = ap (λ (w : Filling). w.replaces) c.self.view_is
