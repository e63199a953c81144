use Rattle.std.proofs.Common.{refl}
use Rattle.cbm_direct.proofs.Handed.{handed_beside}
use Rattle.cbm_direct.proofs.direct.DirectDos.end_put.Goals as goal

pub returns-else-channel-eq15-clause-other : goal.returns-else-channel-eq15-clause-other
returns-else-channel-eq15-clause-other g c = λ other. handed_beside _ _ _ _ c.self.view_is (record { call = c.end_put.ensures.goes; buffers = refl; reply = refl })
