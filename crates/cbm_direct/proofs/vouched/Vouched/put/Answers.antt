use Rattle.std.proofs.Common.{subst}
use Rattle.std.proofs.Common.{[], ◌∷◌}
use Rattle.cbm_machine.specs.Calls.{put}
use Rattle.cbm_channel.specs.Going.{Goes}
use Rattle.cbm_direct.specs.Vouching.{Vouching}
use Rattle.cbm_direct.proofs.Sounds.{kept}
use Rattle.cbm_direct.proofs.vouched.Vouched.put.Goals as goal

pub invariant_of-self : goal.invariant_of-self
invariant_of-self g c = kept g.M.Medium.seen c.self.inside.dos c.put.new.self c.self.inside.vouch c.put.ensures.leaves.medium.counted (λ u m s. (let x = c.put.ensures.goes m s in (x.0, x.2))) c.self.invariant

-- the value before the call is what was taken out of it
pub returns-clause-goes : goal.returns-clause-goes
returns-clause-goes g c = subst (λ (v : Vouching _). Goes g.M.Medium.seen v.dos c.put.new.self ((c.args.channel, put c.args.channel c.args.byte) ∷ [])) c.self.view_is c.put.ensures.goes
