use Rattle.std.proofs.Common.{rules}
use Rattle.cbm_iec.proofs.row.Row.stays.Goals as goal

-- all lines are held as they were
pub returns : goal.returns
returns c = search rules
