use Rattle.bus_beside.proofs.Seen.{lies_at_rest}
use Rattle.bus_beside.proofs.beside.Beside.new.Goals as goal

pub returns : goal.returns
returns g c = λ bs ms rest. lies_at_rest _ g.D.Machine.State g.D.Machine.stands g.D.Machine.step g.D.Machine.says g.D.Machine.failures c.new.result c.args.seats bs ms c.new.ensures.seats c.new.ensures.from c.new.ensures.tidy_from rest
