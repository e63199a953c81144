use Rattle.std.proofs.Common.{rules}
use Rattle.cbm_iec.proofs.mouth.Mouth.lead.Goals as goal

-- the byte that is offered is the last where its machine says so
pub returns : goal.returns
returns c = search rules
