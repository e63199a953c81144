use Rattle.std.proofs.Common.{rules}
use Rattle.cbm_iec.proofs.mouth.Mouth.end_frame.Goals as goal

-- a byte counts with its accept alone
pub returns-then-due : goal.returns-then-due
returns-then-due c = search rules

-- as long as DATA is free the byte waits
pub returns-else-due : goal.returns-else-due
returns-else-due c = search rules
