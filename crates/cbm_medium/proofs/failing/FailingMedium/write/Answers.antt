use Rattle.std.proofs.Common.{rules}
use Rattle.cbm_medium.proofs.failing.FailingMedium.write.Goals as goal

pub returns-in_err-write-clause-ok : goal.returns-in_err-write-clause-ok
returns-in_err-write-clause-ok g c = search rules

pub returns-in_err-write-clause-refused : goal.returns-in_err-write-clause-refused
returns-in_err-write-clause-refused g c = search rules

pub returns-in_err-write-clause-err : goal.returns-in_err-write-clause-err
returns-in_err-write-clause-err g c = search rules

pub returns-in_err-write-clause-countdown : goal.returns-in_err-write-clause-countdown
returns-in_err-write-clause-countdown g c = search rules

pub returns-then-not-is_due-clause-ok : goal.returns-then-not-is_due-clause-ok
returns-then-not-is_due-clause-ok g c = search rules

pub returns-then-not-is_due-clause-refused : goal.returns-then-not-is_due-clause-refused
returns-then-not-is_due-clause-refused g c = search rules

pub returns-then-not-is_due-clause-err : goal.returns-then-not-is_due-clause-err
returns-then-not-is_due-clause-err g c = search rules

pub returns-then-not-is_due-clause-countdown : goal.returns-then-not-is_due-clause-countdown
returns-then-not-is_due-clause-countdown g c = search rules

pub returns-then-protected-clause-ok : goal.returns-then-protected-clause-ok
returns-then-protected-clause-ok g c = search rules

pub returns-then-protected-clause-refused : goal.returns-then-protected-clause-refused
returns-then-protected-clause-refused g c = search rules

pub returns-then-protected-clause-err : goal.returns-then-protected-clause-err
returns-then-protected-clause-err g c = search rules

pub returns-then-protected-clause-countdown : goal.returns-then-protected-clause-countdown
returns-then-protected-clause-countdown g c = search rules

pub returns-clause-ok : goal.returns-clause-ok
returns-clause-ok g c = search rules

pub returns-clause-refused : goal.returns-clause-refused
returns-clause-refused g c = search rules

pub returns-clause-err : goal.returns-clause-err
returns-clause-err g c = search rules

pub returns-clause-countdown : goal.returns-clause-countdown
returns-clause-countdown g c = search rules

pub returns-2-clause-ok : goal.returns-2-clause-ok
returns-2-clause-ok g c = search rules

pub returns-2-clause-refused : goal.returns-2-clause-refused
returns-2-clause-refused g c = search rules

pub returns-2-clause-err : goal.returns-2-clause-err
returns-2-clause-err g c = search rules

pub returns-2-clause-countdown : goal.returns-2-clause-countdown
returns-2-clause-countdown g c = search rules
