use Rattle.std.proofs.Common.{◌∙◌, subst, sym}
use Rattle.cbm_channel.specs.Loosely.{GivesAt}
use Rattle.cbm_direct.specs.Vouching.{Vouching, access_of}
use Rattle.cbm_direct.proofs.Sounds.{kept, gives_stand, gives_other}
use Rattle.cbm_direct.proofs.vouched.Vouched.give_at.Goals as goal

pub invariant_of-self : goal.invariant_of-self
invariant_of-self g c =
    kept g.M.Medium.seen c.self.inside.dos c.give_at.new.self c.self.inside.vouch c.give_at.ensures.counted (λ u m s. gives_stand g.M.Medium.seen c.args.at c.give_at.result c.self.inside.dos c.give_at.new.self c.give_at.ensures m s) c.self.invariant

-- the value before the call is what was taken out of it, and the sector isn't spared
pub returns-clause-gives : goal.returns-clause-gives
returns-clause-gives g c =
    gives_other g.M.Medium.seen c.args.at (access_of c.args.self.now.vouch) c.give_at.result _ c.give_at.new.self (sym c.spares.ensures ∙ c.if-spares.false)
    (subst (λ (v : Vouching _). GivesAt g.M.Medium.seen c.args.at c.give_at.result v.dos c.give_at.new.self) c.self.view_is c.give_at.ensures)
