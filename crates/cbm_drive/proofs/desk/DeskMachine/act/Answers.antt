use Rattle.std.proofs.Common.{ℕ, ◌<◌, Bool, Option, subst}
use Rattle.std.specs.Prelude.{IfSome}
use Rattle.cbm_drive.proofs.Desks.{stands_after}
use Rattle.cbm_drive.proofs.desk.DeskMachine.act.Goals as goal

pub returns-clause-stands : goal.returns-clause-stands
returns-clause-stands g c = λ u. stands_after g.M.Medium.seen c.args.self.now c.obey.new.self c.args.act c.shown-byte.result (c.obey.ensures.leads u) c.obey.ensures.addressed c.shown-byte.ensures.value c.shown-byte.ensures.byte

-- what it shows is a byte, and what was owed is there
pub returns-clause-shown : goal.returns-clause-shown
returns-clause-shown g c = (subst (λ (o : Option (ℕ × Bool)). IfSome o (λ s. s.0 < 256)) c.shown-byte.ensures.shows c.shown-byte.ensures.byte, c.obey.ensures.owed)
