use Rattle.std.proofs.Common.{rules}
use Rattle.cbm_iec.proofs.mouth.Mouth.clock.Goals as goal

-- CLOCK decides whether a turned drive answers
pub returns-in-Turned : goal.returns-in-Turned
returns-in-Turned c = search rules
