use Rattle.std.proofs.Common.{rules}
use Rattle.cbm_iec.proofs.port.Port.turned.Goals as goal

-- ATN's pull makes each drive an ear that starts
pub returns-then-others : goal.returns-then-others
returns-then-others c = search rules
