use Rattle.std.proofs.Common.{ap}
use Rattle.cbm_volume.specs.Writers.{Filling}
use Rattle.cbm_volume.proofs.files.filling.FileWriter.slot.Goals as goal

pub returns : goal.returns
returns c = ap (λ (w : Filling). w.slot) c.self.view_is
