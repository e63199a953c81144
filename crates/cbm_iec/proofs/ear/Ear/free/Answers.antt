use Rattle.std.proofs.Common.{rules}
use Rattle.cbm_iec.proofs.ear.Ear.free.Goals as goal

-- EOI is timed from the others' release of DATA, too
pub returns : goal.returns
returns c = search rules
