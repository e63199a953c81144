use Rattle.std.proofs.Common.{rules}
use Rattle.cbm_volume.proofs.volume.Volume.geometry.Goals as goal

pub returns-clause-value : goal.returns-clause-value
returns-clause-value g c = search rules

pub returns-clause-room : goal.returns-clause-room
returns-clause-room g c = search rules

pub returns-clause-whole : goal.returns-clause-whole
returns-clause-whole g c = search rules
