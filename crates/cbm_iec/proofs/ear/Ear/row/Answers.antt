use Rattle.std.proofs.Common.{rules}
use Rattle.cbm_iec.proofs.ear.Ear.row.Goals as goal

-- a start holds DATA
pub returns-in-Starting : goal.returns-in-Starting
returns-in-Starting c = search rules

-- the pulse ends with DATA free
pub returns-in-Pulsing : goal.returns-in-Pulsing
returns-in-Pulsing c = search rules
