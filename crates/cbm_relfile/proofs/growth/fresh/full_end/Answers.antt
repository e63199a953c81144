use Rattle.std.proofs.Common.{rules}
use Rattle.cbm_relfile.proofs.growth.fresh.full_end.Goals as goal

pub returns : goal.returns
returns c = search rules
