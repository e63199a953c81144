use Rattle.std.proofs.Common.{rules}
use Rattle.cbm_relfile.proofs.relative.Relative.first.Goals as goal

pub returns : goal.returns
returns c = search rules
