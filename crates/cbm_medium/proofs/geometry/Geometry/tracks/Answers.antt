use Rattle.std.proofs.Common.{rules}
use Rattle.cbm_medium.proofs.geometry.Geometry.tracks.Goals as goal

pub returns-clause-value : goal.returns-clause-value
returns-clause-value c = search rules

pub returns-clause-either : goal.returns-clause-either
returns-clause-either c = search rules
