use Rattle.cbm_channel.specs.Loosely.{ClaimsAt}
use Rattle.cbm_direct.proofs.Handed.{reported}
use Rattle.cbm_direct.proofs.direct.DirectDos.take.Goals as goal

pub returns-clause-done : goal.returns-clause-done
returns-clause-done g c = reported c.args.at (ClaimsAt g.M.Medium.seen c.args.at) _ _ _ c.self.view_is c.claim_at-claimed.new.self c.claim_at-claimed.result c.claim_at-claimed.ensures.claims c.claim_at-claimed.ensures.keeps.vouch c.report.ensures.done
