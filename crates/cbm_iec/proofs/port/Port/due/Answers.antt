use Rattle.std.proofs.Common.{rules}
use Rattle.cbm_iec.proofs.port.Port.due.Goals as goal

-- and says the row's act
pub returns-clause-act : goal.returns-clause-act
returns-clause-act c = search rules
