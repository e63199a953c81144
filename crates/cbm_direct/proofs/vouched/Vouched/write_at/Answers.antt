use Rattle.cbm_direct.proofs.Sounds.{kept}
use Rattle.cbm_direct.proofs.vouched.Vouched.write_at.Goals as goal

pub invariant_of-self : goal.invariant_of-self
invariant_of-self g c =
    kept g.M.Medium.seen c.self.inside.dos c.write_loose.new.self c.self.inside.vouch c.write_loose.ensures.counted (λ u m s. (m, c.write_loose.ensures.leads m s)) c.self.invariant
