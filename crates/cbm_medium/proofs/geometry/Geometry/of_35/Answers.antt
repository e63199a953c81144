use Rattle.std.proofs.Common.{rules}
use Rattle.cbm_medium.proofs.geometry.Geometry.of_35.Goals as goal

pub returns : goal.returns
returns c = search rules
