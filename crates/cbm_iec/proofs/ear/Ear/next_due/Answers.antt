use Rattle.std.proofs.Common.{rules}
use Rattle.cbm_iec.proofs.ear.Ear.next_due.Goals as goal

-- the moment of a start is due
pub returns-in-Starting : goal.returns-in-Starting
returns-in-Starting c = search rules

-- as is that of a leave
pub returns-in-Starting-2 : goal.returns-in-Starting-2
returns-in-Starting-2 c = search rules
