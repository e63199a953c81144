use Rattle.std.proofs.Common.{subst}
use Rattle.cbm_channel.specs.Loosely.{ClaimsAt}
use Rattle.cbm_direct.specs.Vouching.{Vouching}
use Rattle.cbm_direct.proofs.Sounds.{kept, claims_stand}
use Rattle.cbm_direct.proofs.vouched.Vouched.claim_at.Goals as goal

pub invariant_of-self : goal.invariant_of-self
invariant_of-self g c =
    kept g.M.Medium.seen c.self.inside.dos c.claim_at.new.self c.self.inside.vouch c.claim_at.ensures.counted (λ u m s. claims_stand g.M.Medium.seen c.args.at c.claim_at.result c.self.inside.dos c.claim_at.new.self c.claim_at.ensures m s) c.self.invariant

-- the value before the call is what was taken out of it
pub returns-clause-claims : goal.returns-clause-claims
returns-clause-claims g c = subst (λ (v : Vouching _). ClaimsAt g.M.Medium.seen c.args.at c.claim_at.result v.dos c.claim_at.new.self) c.self.view_is c.claim_at.ensures
