use Rattle.std.proofs.Common.{rules}
use Rattle.cbm_medium.proofs.address.sectors_of.Goals as goal

pub returns-in-1-to-17 : goal.returns-in-1-to-17
returns-in-1-to-17 c = search rules

pub returns-in-18-to-24 : goal.returns-in-18-to-24
returns-in-18-to-24 c = search rules

pub returns-in-25-to-30 : goal.returns-in-25-to-30
returns-in-25-to-30 c = search rules

pub returns-in-31-to-40 : goal.returns-in-31-to-40
returns-in-31-to-40 c = search rules

pub returns-in_default : goal.returns-in_default
returns-in_default c = search rules

pub returns-in_default-2 : goal.returns-in_default-2
returns-in_default-2 c = search rules
