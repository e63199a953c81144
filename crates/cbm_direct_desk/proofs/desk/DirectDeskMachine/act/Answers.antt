use Rattle.std.proofs.Common.{ℕ, ◌<◌, Bool, Option, subst}
use Rattle.std.specs.Prelude.{IfSome}
use Rattle.cbm_direct_desk.proofs.desk.DirectDeskMachine.act.Goals as goal

-- what it shows is a byte, and what was owed is there
pub returns-clause-shown : goal.returns-clause-shown
returns-clause-shown g c = (subst (λ (o : Option (ℕ × Bool)). IfSome o (λ s. s.0 < 256)) c.shown-byte.ensures.shows c.shown-byte.ensures.byte, c.obey.ensures.owed)
