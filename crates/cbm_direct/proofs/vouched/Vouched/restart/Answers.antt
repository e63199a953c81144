use Rattle.std.proofs.Common.{subst}
use Rattle.cbm_direct.specs.Vouching.{Vouching, StandsAtStart}
use Rattle.cbm_direct.proofs.Sounds.{kept}
use Rattle.std.proofs.Common.{arith, ap}
use Rattle.cbm_channel.proofs.Stands.{means_of}
use Rattle.cbm_direct.proofs.vouched.Vouched.restart.Goals as goal

pub invariant_of-self : goal.invariant_of-self
invariant_of-self g c = kept g.M.Medium.seen c.self.inside.dos c.restart.new.self c.self.inside.vouch (omega (arith, ap (λ x. (g.M.Medium.seen x).failures) c.restart.ensures.medium)) (λ u m s. (_, c.restart.ensures.stands m.disk (means_of _ _ _ _ _ _ m s))) c.self.invariant

-- as the value was that was taken out
pub returns-clause-stands : goal.returns-clause-stands
returns-clause-stands g c = subst (λ (v : Vouching _). StandsAtStart g.M.Medium.seen v.dos.medium c.restart.new.self) c.self.view_is c.restart.ensures.stands
