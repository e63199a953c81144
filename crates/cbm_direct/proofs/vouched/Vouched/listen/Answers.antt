use Rattle.cbm_direct.proofs.Sounds.{kept}
use Rattle.std.proofs.Common.{arith, ap}
use Rattle.cbm_direct.proofs.vouched.Vouched.listen.Goals as goal

pub invariant_of-self : goal.invariant_of-self
invariant_of-self g c = kept g.M.Medium.seen c.self.inside.dos c.listen.new.self c.self.inside.vouch (omega (arith, ap (λ x. (g.M.Medium.seen x).failures) c.listen.ensures.medium)) (λ u m s. (_, c.listen.ensures.leads m s)) c.self.invariant
