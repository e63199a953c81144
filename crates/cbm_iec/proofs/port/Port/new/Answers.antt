use Rattle.std.proofs.Common.{rules}
use Rattle.cbm_iec.proofs.port.Port.new.Goals as goal

-- a drive that is switched on has no role
pub returns : goal.returns
returns c = search rules
