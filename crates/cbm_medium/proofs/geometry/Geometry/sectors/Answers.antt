use Rattle.std.proofs.Common.{rules}
use Rattle.cbm_medium.proofs.geometry.Geometry.sectors.Goals as goal

pub returns-then-self-lt40 : goal.returns-then-self-lt40
returns-then-self-lt40 c = search rules

pub returns-else-self-lt40 : goal.returns-else-self-lt40
returns-else-self-lt40 c = search rules
