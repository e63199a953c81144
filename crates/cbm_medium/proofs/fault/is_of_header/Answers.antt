use Rattle.std.proofs.Common.{rules}
use Rattle.cbm_medium.proofs.fault.is_of_header.Goals as goal

pub returns-in_default : goal.returns-in_default
returns-in_default c = search rules

pub returns-in_default-2 : goal.returns-in_default-2
returns-in_default-2 c = search rules

pub returns-in-20 : goal.returns-in-20
returns-in-20 c = search rules

pub returns-in-20-2 : goal.returns-in-20-2
returns-in-20-2 c = search rules
