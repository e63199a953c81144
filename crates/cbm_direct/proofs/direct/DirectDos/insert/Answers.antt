use Rattle.std.proofs.Common.{subst}
use Rattle.cbm_direct.specs.Directs.{Direct}
use Rattle.cbm_direct.specs.Vouching.{StandsExchanged}
use Rattle.cbm_direct.proofs.direct.DirectDos.insert.Goals as goal

-- as the value was that is given another disk
pub returns-clause-stands : goal.returns-clause-stands
returns-clause-stands g c =
    subst (λ (d : Direct _). StandsExchanged g.M.Medium.seen c.args.medium d.vouched.dos.told c.insert.new.self.dos) c.self.view_is c.insert.ensures.stands
