use Rattle.std.proofs.Common.{rules}
use Rattle.cbm_iec.proofs.ear.Ear.accept.Goals as goal

-- the byte is heard with its end
pub returns : goal.returns
returns c = search rules
