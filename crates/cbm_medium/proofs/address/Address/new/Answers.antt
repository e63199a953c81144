use Rattle.std.proofs.Common.{rules}
use Rattle.cbm_medium.proofs.address.Address.new.Goals as goal

pub returns-then-sector-sectors_of : goal.returns-then-sector-sectors_of
returns-then-sector-sectors_of c = search rules

pub returns-else-sector-sectors_of : goal.returns-else-sector-sectors_of
returns-else-sector-sectors_of c = search rules
