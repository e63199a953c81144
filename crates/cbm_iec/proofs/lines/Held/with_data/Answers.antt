use Rattle.std.proofs.Common.{rules}
use Rattle.cbm_iec.proofs.lines.Held.with_data.Goals as goal

-- CLOCK stays as it is held
pub returns : goal.returns
returns c = search rules
