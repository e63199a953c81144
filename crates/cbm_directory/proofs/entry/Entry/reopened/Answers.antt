use Rattle.std.proofs.Common.{rules}
use Rattle.cbm_directory.proofs.entry.Entry.reopened.Goals as goal

pub returns-clause-value : goal.returns-clause-value
returns-clause-value c = search rules

pub returns-clause-says : goal.returns-clause-says
returns-clause-says c = search rules
