use Rattle.std.proofs.Common.{rules}
use Rattle.cbm_relfile.proofs.growth.growing.list_block.Goals as goal

pub returns-in_err-head-clause-listed : goal.returns-in_err-head-clause-listed
returns-in_err-head-clause-listed g c = search rules

pub returns-in_err-head-clause-only : goal.returns-in_err-head-clause-only
returns-in_err-head-clause-only g c = search rules

pub returns-in_err-side-clause-listed : goal.returns-in_err-side-clause-listed
returns-in_err-side-clause-listed g c = search rules

pub returns-in_err-side-clause-only : goal.returns-in_err-side-clause-only
returns-in_err-side-clause-only g c = search rules

pub returns-in_default-clause-listed : goal.returns-in_default-clause-listed
returns-in_default-clause-listed g c = search rules

pub returns-in_default-clause-only : goal.returns-in_default-clause-only
returns-in_default-clause-only g c = search rules

pub returns-in_err-write-clause-listed : goal.returns-in_err-write-clause-listed
returns-in_err-write-clause-listed g c = search rules

pub returns-in_err-write-clause-only : goal.returns-in_err-write-clause-only
returns-in_err-write-clause-only g c = search rules

pub returns-clause-listed : goal.returns-clause-listed
returns-clause-listed g c = search rules

pub returns-clause-only : goal.returns-clause-only
returns-clause-only g c = search rules
