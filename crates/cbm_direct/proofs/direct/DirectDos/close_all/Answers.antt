use Rattle.std.proofs.Common.{refl}
use Rattle.cbm_direct.specs.Directs.{AreAllClosed}
use Rattle.cbm_direct.proofs.Handed.{taken_over}
use Rattle.cbm_direct.proofs.direct.DirectDos.close_all.Goals as goal

pub returns-clause-all : goal.returns-clause-all
returns-clause-all g c = taken_over (AreAllClosed g.M.Medium.seen) _ _ _ c.self.view_is (record { dos = c.close.ensures.goes; buffers = c.close_all.ensures; reply = refl })
