use Rattle.std.proofs.Common.{rules}
use Rattle.cbm_directory.proofs.change.clear_entry.Goals as goal

pub returns-in_err-sector-clause-cleared : goal.returns-in_err-sector-clause-cleared
returns-in_err-sector-clause-cleared g c = search rules

pub returns-in_err-sector-clause-err : goal.returns-in_err-sector-clause-err
returns-in_err-sector-clause-err g c = search rules

pub returns-in_err-sector-clause-cause : goal.returns-in_err-sector-clause-cause
returns-in_err-sector-clause-cause g c = search rules

pub returns-in_err-sector-clause-only : goal.returns-in_err-sector-clause-only
returns-in_err-sector-clause-only g c = search rules

pub returns-clause-cleared : goal.returns-clause-cleared
returns-clause-cleared g c = search rules

pub returns-clause-err : goal.returns-clause-err
returns-clause-err g c = search rules

pub returns-clause-cause : goal.returns-clause-cause
returns-clause-cause g c = search rules

pub returns-clause-only : goal.returns-clause-only
returns-clause-only g c = search rules
