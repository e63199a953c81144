use Rattle.std.proofs.Common.{rules}
use Rattle.cbm_iec.proofs.ear.Ear.hold.Goals as goal

-- DATA is free a reaction after CLOCK's release
pub returns-else-clock_low : goal.returns-else-clock_low
returns-else-clock_low c = search rules
