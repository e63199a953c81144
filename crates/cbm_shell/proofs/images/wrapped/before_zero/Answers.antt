use Rattle.std.proofs.Common.{rules}
use Rattle.cbm_shell.proofs.images.wrapped.before_zero.Goals as goal

pub returns-clause-short : goal.returns-clause-short
returns-clause-short c = search rules
