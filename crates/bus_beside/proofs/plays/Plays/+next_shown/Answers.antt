use Rattle.bus_beside.proofs.Courses.{after_silent}
use Rattle.bus_beside.proofs.Sitting.{none_of}
use Rattle.bus_beside.proofs.plays.Plays.+next_shown.Goals as goal

pub returns : goal.returns
returns g t c = after_silent _ g.D.Machine.State g.D.Machine.stands g.D.Machine.step g.D.Machine.says g.D.Machine.failures c.args.self.now c.react.new.self c.next_shown.new.self c.in-Some-react.answer.device c.in-Some-react.answer.changes.items c.next_shown.result (none_of c.in-Some-react.answer.changes.items c.is_empty.result c.is_empty.ensures c.if-not-is_empty.false) c.in-Some-react.ensures c.next_shown.ensures
