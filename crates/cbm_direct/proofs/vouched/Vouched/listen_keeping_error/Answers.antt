use Rattle.cbm_direct.proofs.Sounds.{kept}
use Rattle.std.proofs.Common.{arith, ap}
use Rattle.cbm_direct.proofs.vouched.Vouched.listen_keeping_error.Goals as goal

pub invariant_of-self : goal.invariant_of-self
invariant_of-self g c = kept g.M.Medium.seen c.self.inside.dos c.listen_keeping_error.new.self c.self.inside.vouch (omega (arith, ap (λ x. (g.M.Medium.seen x).failures) c.listen_keeping_error.ensures.medium)) (λ u m s. (_, c.listen_keeping_error.ensures.leads m s)) c.self.invariant
