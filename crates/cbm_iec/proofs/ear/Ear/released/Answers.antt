use Rattle.std.proofs.Common.{rules}
use Rattle.cbm_iec.proofs.ear.Ear.released.Goals as goal

-- a listener that holds DATA goes on
pub returns-in-Holding : goal.returns-in-Holding
returns-in-Holding c = search rules
