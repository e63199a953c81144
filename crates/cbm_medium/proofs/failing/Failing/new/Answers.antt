use Rattle.std.proofs.Common.{rules}
use Rattle.cbm_medium.proofs.failing.Failing.new.Goals as goal

pub returns : goal.returns
returns g c = search rules
