use Rattle.std.proofs.Common.{rules}
use Rattle.cbm_iec.proofs.mouth.Mouth.taken.Goals as goal

-- after a byte the next one is led
pub returns-else-last : goal.returns-else-last
returns-else-last c = search rules

-- after the last one the talk ends
pub returns-then-last : goal.returns-then-last
returns-then-last c = search rules
