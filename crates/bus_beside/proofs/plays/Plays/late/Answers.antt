use Rattle.std.proofs.Common.{◌∷◌, []}
use Rattle.cbm_session.specs.Playing.{host_event}
use Rattle.bus_beside.proofs.Courses.{then_on}
use Rattle.bus_beside.proofs.plays.Plays.late.Goals as goal

pub returns : goal.returns
returns g c = λ so. then_on _ g.D.Machine.State g.D.Machine.stands g.D.Machine.step g.D.Machine.says g.D.Machine.failures c.args.self.now c.settle.new.self c.strays.new.self [] [] (host_event c.args.change ∷ []) [] (c.settle.ensures c.if-not-settle.false) (c.strays.ensures so)
