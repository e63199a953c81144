use Rattle.std.proofs.Common.{rules}
use Rattle.cbm_iec.proofs.ear.Ear.clock.Goals as goal

-- CLOCK frees DATA, or cancels that
pub returns-in-Holding : goal.returns-in-Holding
returns-in-Holding c = search rules

-- a byte that begins at once has no EOI
pub returns-in-Ready : goal.returns-in-Ready
returns-in-Ready c = search rules
