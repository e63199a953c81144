use Rattle.std.proofs.Common.{rules}
use Rattle.cbm_volume.proofs.check.headers.check_track.Goals as goal

pub returns-in_err-check_header-clause-ok : goal.returns-in_err-check_header-clause-ok
returns-in_err-check_header-clause-ok g c = search rules

pub returns-in_err-check_header-clause-err : goal.returns-in_err-check_header-clause-err
returns-in_err-check_header-clause-err g c = search rules

pub returns-clause-ok : goal.returns-clause-ok
returns-clause-ok g c = search rules

pub returns-clause-err : goal.returns-clause-err
returns-clause-err g c = search rules
