use Rattle.std.proofs.Common.{sym, subst}
use Rattle.bus_beside.specs.Reactions.{HaveNothingUpto}
use Rattle.bus_beside.proofs.Sitting.{later_then}
use Rattle.bus_beside.proofs.drives.+all_later.Goals as goal

pub returns-then-is_later : goal.returns-then-is_later
returns-then-is_later g t c = λ so.
    subst (HaveNothingUpto _ g.D.Machine.State g.D.Machine.stands g.D.Machine.step g.D.Machine.says c.args.moment) (sym c.in-Some.ensures.cases.0)
    (later_then _ g.D.Machine.State g.D.Machine.stands g.D.Machine.step g.D.Machine.says c.args.moment c.in-Some.first.now c.in-Some.rest.now (c.is_later.ensures c.if-is_later.true) (c.all_later.ensures so))
