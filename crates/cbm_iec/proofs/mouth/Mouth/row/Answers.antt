use Rattle.std.proofs.Common.{rules}
use Rattle.cbm_iec.proofs.mouth.Mouth.row.Goals as goal

-- the answer asks whether there is a byte
pub returns-in-Answering : goal.returns-in-Answering
returns-in-Answering c = search rules

-- the end lets go of CLOCK
pub returns-in-Ending : goal.returns-in-Ending
returns-in-Ending c = search rules
