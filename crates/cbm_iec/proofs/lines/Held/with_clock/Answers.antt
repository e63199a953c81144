use Rattle.std.proofs.Common.{rules}
use Rattle.cbm_iec.proofs.lines.Held.with_clock.Goals as goal

-- DATA stays as it is held
pub returns : goal.returns
returns c = search rules
