use Rattle.std.proofs.Common.{rules}
use Rattle.cbm_relfile.proofs.growth.fresh.fresh_from.Goals as goal

pub returns : goal.returns
returns c = search rules
