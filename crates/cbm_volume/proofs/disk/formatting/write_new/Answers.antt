use Rattle.std.proofs.Common.{rules}
use Rattle.cbm_volume.proofs.disk.formatting.write_new.Goals as goal

pub returns-in_err-write-clause-either : goal.returns-in_err-write-clause-either
returns-in_err-write-clause-either g c = search rules

pub returns-in_err-write-clause-emptied : goal.returns-in_err-write-clause-emptied
returns-in_err-write-clause-emptied g c = search rules

pub returns-in_err-write-clause-cause : goal.returns-in_err-write-clause-cause
returns-in_err-write-clause-cause g c = search rules

pub returns-in_err-write-clause-stopped : goal.returns-in_err-write-clause-stopped
returns-in_err-write-clause-stopped g c = search rules

pub returns-in_err-write-clause-protected : goal.returns-in_err-write-clause-protected
returns-in_err-write-clause-protected g c = search rules

pub returns-in_err-write-clause-only : goal.returns-in_err-write-clause-only
returns-in_err-write-clause-only g c = search rules

pub returns-in_err-write-2-clause-either : goal.returns-in_err-write-2-clause-either
returns-in_err-write-2-clause-either g c = search rules

pub returns-in_err-write-2-clause-emptied : goal.returns-in_err-write-2-clause-emptied
returns-in_err-write-2-clause-emptied g c = search rules

pub returns-in_err-write-2-clause-cause : goal.returns-in_err-write-2-clause-cause
returns-in_err-write-2-clause-cause g c = search rules

pub returns-in_err-write-2-clause-stopped : goal.returns-in_err-write-2-clause-stopped
returns-in_err-write-2-clause-stopped g c = search rules

pub returns-in_err-write-2-clause-protected : goal.returns-in_err-write-2-clause-protected
returns-in_err-write-2-clause-protected g c = search rules

pub returns-in_err-write-2-clause-only : goal.returns-in_err-write-2-clause-only
returns-in_err-write-2-clause-only g c = search rules

pub returns-clause-either : goal.returns-clause-either
returns-clause-either g c = search rules

pub returns-clause-emptied : goal.returns-clause-emptied
returns-clause-emptied g c = search rules

pub returns-clause-cause : goal.returns-clause-cause
returns-clause-cause g c = search rules

pub returns-clause-stopped : goal.returns-clause-stopped
returns-clause-stopped g c = search rules

pub returns-clause-protected : goal.returns-clause-protected
returns-clause-protected g c = search rules

pub returns-clause-only : goal.returns-clause-only
returns-clause-only g c = search rules
