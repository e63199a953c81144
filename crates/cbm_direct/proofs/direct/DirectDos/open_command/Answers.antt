use Rattle.std.proofs.Common.{refl}
use Rattle.cbm_direct.proofs.Handed.{handed}
use Rattle.cbm_direct.proofs.direct.DirectDos.open_command.Goals as goal

pub returns-in-None-clause-dos : goal.returns-in-None-clause-dos
returns-in-None-clause-dos g c = λ none. handed _ _ _ _ _ c.self.view_is (record { call = c.open.ensures.goes; buffers = refl; reply = refl })
