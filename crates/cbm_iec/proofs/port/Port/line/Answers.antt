use Rattle.std.proofs.Common.{rules}
use Rattle.cbm_iec.proofs.port.Port.line.Goals as goal

-- a pull of ATN is that act alone
pub returns-then-others-clause-act : goal.returns-then-others-clause-act
returns-then-others-clause-act c = search rules

-- what the others hold is kept
pub returns-in-Hearing-clause-stands : goal.returns-in-Hearing-clause-stands
returns-in-Hearing-clause-stands c = search rules
