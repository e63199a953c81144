use Rattle.std.proofs.Common.{rules}
use Rattle.cbm_medium.proofs.failing.FailingMedium.protected.Goals as goal

pub returns : goal.returns
returns g c = search rules
