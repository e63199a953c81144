use Rattle.std.proofs.Common.{sym, subst}
use Rattle.bus_beside.specs.Reactions.{HaveNothingBefore}
use Rattle.bus_beside.proofs.Sitting.{from_then}
use Rattle.bus_beside.proofs.drives.+all_from.Goals as goal

pub returns-then-is_from : goal.returns-then-is_from
returns-then-is_from g t c = λ so.
    subst (HaveNothingBefore _ g.D.Machine.State g.D.Machine.stands g.D.Machine.step g.D.Machine.says c.args.moment) (sym c.in-Some.ensures.cases.0)
    (from_then _ g.D.Machine.State g.D.Machine.stands g.D.Machine.step g.D.Machine.says c.args.moment c.in-Some.first.now c.in-Some.rest.now (c.is_from.ensures c.if-is_from.true) (c.all_from.ensures so))
