use Rattle.std.proofs.Common.{subst}
use Rattle.cbm_channel.specs.Going.{Goes, closing}
use Rattle.cbm_direct.specs.Vouching.{Vouching}
use Rattle.cbm_direct.proofs.Sounds.{kept}
use Rattle.cbm_direct.proofs.vouched.Vouched.close.Goals as goal

pub invariant_of-self : goal.invariant_of-self
invariant_of-self g c = kept g.M.Medium.seen c.self.inside.dos c.close.new.self c.self.inside.vouch c.close.ensures.leaves.medium.counted (λ u m s. (let x = c.close.ensures.goes m s in (x.0, x.2))) c.self.invariant

-- the value before the call is what was taken out of it
pub returns-clause-goes : goal.returns-clause-goes
returns-clause-goes g c = subst (λ (v : Vouching _). Goes g.M.Medium.seen v.dos c.close.new.self (closing c.args.channel)) c.self.view_is c.close.ensures.goes
