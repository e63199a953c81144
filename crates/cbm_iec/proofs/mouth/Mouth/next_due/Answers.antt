use Rattle.std.proofs.Common.{rules}
use Rattle.cbm_iec.proofs.mouth.Mouth.next_due.Goals as goal

-- a bit's moment is what a byte waits for
pub returns-in-Sending : goal.returns-in-Sending
returns-in-Sending c = search rules
