use Rattle.std.proofs.Common.{subst}
use Rattle.std.specs.Prelude.{IfOk}
use Rattle.bus_beside.specs.Courses.{GoOnBeside, events_shown}
use Rattle.bus_beside.proofs.plays.Plays.settle.Goals as goal

pub returns-in-Ok-None : goal.returns-in-Ok-None
returns-in-Ok-None g c = λ so. subst (λ o. GoOnBeside _ g.D.Machine.State g.D.Machine.stands g.D.Machine.step g.D.Machine.says g.D.Machine.failures c.args.self.now c.next_shown.new.self (events_shown o) (events_shown o)) c.in-Ok-None.field-0-is
    (subst (λ r. IfOk r (λ o. GoOnBeside _ g.D.Machine.State g.D.Machine.stands g.D.Machine.step g.D.Machine.says g.D.Machine.failures c.args.self.now c.next_shown.new.self (events_shown o) (events_shown o))) c.in-Ok-None.is c.next_shown.ensures)
