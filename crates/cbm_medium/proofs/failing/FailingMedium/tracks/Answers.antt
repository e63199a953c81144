use Rattle.std.proofs.Common.{rules}
use Rattle.cbm_medium.proofs.failing.FailingMedium.tracks.Goals as goal

pub returns-clause-value : goal.returns-clause-value
returns-clause-value g c = search rules

pub returns-clause-whole : goal.returns-clause-whole
returns-clause-whole g c = search rules

pub returns-clause-either : goal.returns-clause-either
returns-clause-either g c = search rules
