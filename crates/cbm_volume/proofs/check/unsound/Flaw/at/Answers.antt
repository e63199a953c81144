use Rattle.std.proofs.Common.{rules}
use Rattle.cbm_volume.proofs.check.unsound.Flaw.at.Goals as goal

pub returns : goal.returns
returns c = search rules
