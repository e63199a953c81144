use Rattle.std.proofs.Common.{rules}
use Rattle.cbm_iec.proofs.ear.Ear.line.Goals as goal

-- DATA is told after CLOCK
pub returns-then-was-now : goal.returns-then-was-now
returns-then-was-now c = search rules

-- and without a change of CLOCK, too
pub returns-else-was-now : goal.returns-else-was-now
returns-else-was-now c = search rules
