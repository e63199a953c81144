use Rattle.std.proofs.Common.{sym, subst}
use Rattle.bus_beside.specs.declared.moves.Move.{Move}
use Rattle.bus_beside.specs.Moves.{HasMoved}
use Rattle.bus_beside.proofs.Moved.{has_gone}
use Rattle.bus_beside.proofs.seat.Seat.go.Goals as goal

pub returns-in-Both : goal.returns-in-Both
returns-in-Both g c = λ so. let went = c.both.ensures so in (
  went.0,
  λ unfailed. has_gone _ g.D.Machine.State g.D.Machine.stands g.D.Machine.step g.D.Machine.says c.args.go c.args.change c.args.self.now c.both.new.self (c.may_go.ensures c.if-not-may_go.false)
      (subst (λ (move : Move). HasMoved _ g.D.Machine.State g.D.Machine.stands g.D.Machine.step g.D.Machine.says move c.args.change c.args.self.now c.both.new.self) (sym c.in-Both.is) (went.1 unfailed)),
)

pub returns-in-Strays : goal.returns-in-Strays
returns-in-Strays g c = λ so. let went = c.strays.ensures so in (
  went.0,
  λ unfailed. has_gone _ g.D.Machine.State g.D.Machine.stands g.D.Machine.step g.D.Machine.says c.args.go c.args.change c.args.self.now c.strays.new.self (c.may_go.ensures c.if-not-may_go.false)
      (subst (λ (move : Move). HasMoved _ g.D.Machine.State g.D.Machine.stands g.D.Machine.step g.D.Machine.says move c.args.change c.args.self.now c.strays.new.self) (sym c.in-Strays.is) (went.1 unfailed)),
)

pub returns-in-Tidies : goal.returns-in-Tidies
returns-in-Tidies g c = λ so. let went = c.tidies.ensures so in (
  went.0,
  λ unfailed. has_gone _ g.D.Machine.State g.D.Machine.stands g.D.Machine.step g.D.Machine.says c.args.go c.args.change c.args.self.now c.tidies.new.self (c.may_go.ensures c.if-not-may_go.false)
      (subst (λ (move : Move). HasMoved _ g.D.Machine.State g.D.Machine.stands g.D.Machine.step g.D.Machine.says move c.args.change c.args.self.now c.tidies.new.self) (sym c.in-Tidies.is) (went.1 unfailed)),
)

pub returns-in-Hears : goal.returns-in-Hears
returns-in-Hears g c = λ so. let went = c.hears.ensures so in (
  went.0,
  λ unfailed. has_gone _ g.D.Machine.State g.D.Machine.stands g.D.Machine.step g.D.Machine.says c.args.go c.args.change c.args.self.now c.hears.new.self (c.may_go.ensures c.if-not-may_go.false)
      (subst (λ (move : Move). HasMoved _ g.D.Machine.State g.D.Machine.stands g.D.Machine.step g.D.Machine.says move c.args.change c.args.self.now c.hears.new.self) (sym c.in-Hears.is) (went.1 unfailed)),
)
