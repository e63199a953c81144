use Rattle.std.proofs.Common.{rules}
use Rattle.cbm_iec.proofs.port.Port.next_due.Goals as goal

-- a mouth waits for a moment
pub returns-in-Speaking : goal.returns-in-Speaking
returns-in-Speaking c = search rules
