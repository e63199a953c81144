use Rattle.std.proofs.Common.{rules}
use Rattle.cbm_iec.proofs.mouth.Mouth.act.Goals as goal

-- a byte is said once, when DATA is pulled
pub returns-in-Waiting : goal.returns-in-Waiting
returns-in-Waiting c = search rules
