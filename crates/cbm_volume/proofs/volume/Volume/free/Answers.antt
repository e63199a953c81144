use Rattle.std.proofs.Common.{rules}
use Rattle.cbm_volume.proofs.volume.Volume.free.Goals as goal

pub returns-clause-ok : goal.returns-clause-ok
returns-clause-ok g c = search rules

pub returns-clause-read : goal.returns-clause-read
returns-clause-read g c = search rules

pub returns-clause-err : goal.returns-clause-err
returns-clause-err g c = search rules

pub returns-clause-means : goal.returns-clause-means
returns-clause-means g c = search rules
