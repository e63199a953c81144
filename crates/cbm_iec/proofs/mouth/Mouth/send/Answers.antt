use Rattle.std.proofs.Common.{rules}
use Rattle.cbm_iec.proofs.mouth.Mouth.send.Goals as goal

-- a byte begins with its first half
pub returns : goal.returns
returns c = search rules
