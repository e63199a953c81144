use Rattle.std.proofs.Common.{rules}
use Rattle.cbm_directory.proofs.change.clear_slot.Goals as goal

pub returns-in_err-at-clause-cleared : goal.returns-in_err-at-clause-cleared
returns-in_err-at-clause-cleared g c = search rules

pub returns-in_err-at-clause-exact : goal.returns-in_err-at-clause-exact
returns-in_err-at-clause-exact g c = search rules

pub returns-in_err-at-clause-err : goal.returns-in_err-at-clause-err
returns-in_err-at-clause-err g c = search rules

pub returns-in_err-at-clause-cause : goal.returns-in_err-at-clause-cause
returns-in_err-at-clause-cause g c = search rules

pub returns-in_err-at-clause-refused : goal.returns-in_err-at-clause-refused
returns-in_err-at-clause-refused g c = search rules

pub returns-in_err-at-clause-only : goal.returns-in_err-at-clause-only
returns-in_err-at-clause-only g c = search rules

pub returns-in_default-clause-cleared : goal.returns-in_default-clause-cleared
returns-in_default-clause-cleared g c = search rules

pub returns-in_default-clause-exact : goal.returns-in_default-clause-exact
returns-in_default-clause-exact g c = search rules

pub returns-in_default-clause-err : goal.returns-in_default-clause-err
returns-in_default-clause-err g c = search rules

pub returns-in_default-clause-cause : goal.returns-in_default-clause-cause
returns-in_default-clause-cause g c = search rules

pub returns-in_default-clause-refused : goal.returns-in_default-clause-refused
returns-in_default-clause-refused g c = search rules

pub returns-in_default-clause-only : goal.returns-in_default-clause-only
returns-in_default-clause-only g c = search rules

pub returns-clause-cleared : goal.returns-clause-cleared
returns-clause-cleared g c = search rules

pub returns-clause-exact : goal.returns-clause-exact
returns-clause-exact g c = search rules

pub returns-clause-err : goal.returns-clause-err
returns-clause-err g c = search rules

pub returns-clause-cause : goal.returns-clause-cause
returns-clause-cause g c = search rules

pub returns-clause-refused : goal.returns-clause-refused
returns-clause-refused g c = search rules

pub returns-clause-only : goal.returns-clause-only
returns-clause-only g c = search rules
