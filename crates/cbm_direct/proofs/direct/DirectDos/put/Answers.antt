use Rattle.std.proofs.Common.{refl}
use Rattle.cbm_direct.proofs.Handed.{handed_beside}
use Rattle.cbm_direct.proofs.direct.DirectDos.put.Goals as goal

pub returns-else-has-clause-dos : goal.returns-else-has-clause-dos
returns-else-has-clause-dos g c = λ none. handed_beside _ _ _ _ c.self.view_is (record { call = c.put-else-has.ensures.goes; buffers = refl; reply = refl })
