use Rattle.std.proofs.Common.{refl}
use Rattle.cbm_direct.specs.Directs.{HasStarted}
use Rattle.cbm_direct.proofs.Handed.{taken_over}
use Rattle.cbm_direct.proofs.direct.DirectDos.restart.Goals as goal

pub returns-clause-started : goal.returns-clause-started
returns-clause-started g c = taken_over (HasStarted g.M.Medium.seen) _ _ _ c.self.view_is (record {
  stands = c.restart.ensures.stands;
  medium = c.restart.ensures.medium;
  vouch = c.restart.ensures.keeps.vouch;
  buffers = c.free-self-inside.ensures;
  reply = refl;
})
