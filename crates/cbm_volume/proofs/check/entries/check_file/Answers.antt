use Rattle.std.proofs.Common.{rules}
use Rattle.cbm_volume.proofs.check.entries.check_file.Goals as goal

pub returns-then-not-is_closed-clause-ok : goal.returns-then-not-is_closed-clause-ok
returns-then-not-is_closed-clause-ok g c = search rules

pub returns-then-not-is_closed-clause-err : goal.returns-then-not-is_closed-clause-err
returns-then-not-is_closed-clause-err g c = search rules

pub returns-then-is_relative-clause-ok : goal.returns-then-is_relative-clause-ok
returns-then-is_relative-clause-ok g c = search rules

pub returns-then-is_relative-clause-err : goal.returns-then-is_relative-clause-err
returns-then-is_relative-clause-err g c = search rules

pub returns-clause-ok : goal.returns-clause-ok
returns-clause-ok g c = search rules

pub returns-clause-err : goal.returns-clause-err
returns-clause-err g c = search rules
