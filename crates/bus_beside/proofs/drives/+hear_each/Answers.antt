use Rattle.std.proofs.Common.{sym, subst, List, arith}
use Rattle.cbm_iec.specs.declared.lines.Change.{Change}
use Rattle.bus_beside.specs.Reactions.{HaveAllHeard}
use Rattle.bus_beside.specs.Seats.{GoesUnfailed}
use Rattle.bus_beside.proofs.Sitting.{no_items, heard_none, heard_then}
use Rattle.bus_beside.proofs.drives.+hear_each.Goals as goal

pub returns-in_default : goal.returns-in_default
returns-in_default g t c = λ so. (
  omega arith,
  λ u.
      subst (λ (cs : List Change). HaveAllHeard _ g.D.Machine.State g.D.Machine.stands g.D.Machine.step g.D.Machine.says cs c.args.seats.now c.args.seats.now) (sym (no_items c.args.changes.now c.in_default.ensures.cases))
      (heard_none _ g.D.Machine.State g.D.Machine.stands g.D.Machine.step g.D.Machine.says c.args.seats.now),
)

pub returns-then-go_each : goal.returns-then-go_each
returns-then-go_each g t c = λ so.
    subst (λ (cs : List Change). GoesUnfailed g.D.Machine.failures c.args.seats.now c.hear_each.new.seats (HaveAllHeard _ g.D.Machine.State g.D.Machine.stands g.D.Machine.step g.D.Machine.says cs c.args.seats.now c.hear_each.new.seats)) (sym c.in-Some.ensures.cases.0)
    (heard_then _ g.D.Machine.State g.D.Machine.stands g.D.Machine.step g.D.Machine.says g.D.Machine.failures c.in-Some.change.now c.in-Some.more.now c.args.seats.now c.go_each.new.seats c.hear_each.new.seats (c.go_each.ensures c.if-go_each.true) (c.hear_each.ensures so))
