use Rattle.cbm_session.specs.Playing.{IsMachine}
use Rattle.cbm_host.proofs.Begun.{begun}
use Rattle.cbm_host.proofs.performer.Performer.begins.Goals as goal

pub returns : goal.returns
returns g c = λ b ms start request old new bytes last drive channel short h.
    let machine : IsMachine g.D.Machine.State g.D.Machine.step g.D.Machine.says = record { more = g.met.D.Machine.more } in
    begun _ g.D.Machine.State g.D.Machine.stands g.D.Machine.step g.D.Machine.says machine b drive ms start request channel short c.args.self.now c.args.bus.now old new bytes last h
