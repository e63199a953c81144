use Rattle.std.proofs.Common.{rules}
use Rattle.cbm_relfile.proofs.growth.growing.link_side.Goals as goal

pub returns-in_err-head-clause-linked : goal.returns-in_err-head-clause-linked
returns-in_err-head-clause-linked g c = search rules

pub returns-in_err-head-clause-only : goal.returns-in_err-head-clause-only
returns-in_err-head-clause-only g c = search rules

pub returns-in_err-bytes-clause-linked : goal.returns-in_err-bytes-clause-linked
returns-in_err-bytes-clause-linked g c = search rules

pub returns-in_err-bytes-clause-only : goal.returns-in_err-bytes-clause-only
returns-in_err-bytes-clause-only g c = search rules

pub returns-in_default-clause-linked : goal.returns-in_default-clause-linked
returns-in_default-clause-linked g c = search rules

pub returns-in_default-clause-only : goal.returns-in_default-clause-only
returns-in_default-clause-only g c = search rules

pub returns-in_err-write-clause-linked : goal.returns-in_err-write-clause-linked
returns-in_err-write-clause-linked g c = search rules

pub returns-in_err-write-clause-only : goal.returns-in_err-write-clause-only
returns-in_err-write-clause-only g c = search rules

pub returns-clause-linked : goal.returns-clause-linked
returns-clause-linked g c = search rules

pub returns-clause-only : goal.returns-clause-only
returns-clause-only g c = search rules
