use Rattle.std.proofs.Common.{rules}
use Rattle.cbm_medium.proofs.address.Address.sector.Goals as goal

pub returns-clause-value : goal.returns-clause-value
returns-clause-value c = search rules

pub returns-clause-on_disk : goal.returns-clause-on_disk
returns-clause-on_disk c = search rules
