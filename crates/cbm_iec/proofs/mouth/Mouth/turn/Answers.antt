use Rattle.std.proofs.Common.{rules}
use Rattle.cbm_iec.proofs.mouth.Mouth.turn.Goals as goal

-- the answer comes a reaction after CLOCK's release
pub returns-else-clock_low : goal.returns-else-clock_low
returns-else-clock_low c = search rules
