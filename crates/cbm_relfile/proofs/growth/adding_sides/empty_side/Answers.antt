use Rattle.std.proofs.Common.{rules}
use Rattle.cbm_relfile.proofs.growth.adding_sides.empty_side.Goals as goal

pub returns : goal.returns
returns c = search rules
