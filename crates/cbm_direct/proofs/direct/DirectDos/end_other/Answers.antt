use Rattle.std.proofs.Common.{refl}
use Rattle.cbm_direct.proofs.Handed.{handed}
use Rattle.cbm_direct.proofs.direct.DirectDos.end_other.Goals as goal

pub returns-clause-dos : goal.returns-clause-dos
returns-clause-dos g c = handed _ _ _ _ _ c.self.view_is (record { call = c.end_put.ensures.goes; buffers = refl; reply = refl })
