use Rattle.std.proofs.Common.{subst}
use Rattle.cbm_channel.specs.Parts.{EndsGathered}
use Rattle.cbm_direct.specs.Vouching.{Vouching}
use Rattle.cbm_direct.proofs.Sounds.{kept}
use Rattle.cbm_direct.proofs.vouched.Vouched.end_put.Goals as goal

pub invariant_of-self : goal.invariant_of-self
invariant_of-self g c = kept g.M.Medium.seen c.self.inside.dos c.end_put.new.self c.self.inside.vouch c.end_put.ensures.leaves.medium.counted (λ u m s. (let x = c.end_put.ensures.goes m s in (x.0, x.2))) c.self.invariant

-- the value before the call is what was taken out of it
pub returns-clause-goes : goal.returns-clause-goes
returns-clause-goes g c = subst (λ (v : Vouching _). EndsGathered g.M.Medium.seen c.args.channel v.dos c.end_put.new.self) c.self.view_is c.end_put.ensures.goes
