use Rattle.std.proofs.Common.{◌≤◌, ◌+◌, ℕ, ap, subst, ◌∙◌, arith}
use Rattle.bus_beside.specs.Courses.{Course}
use Rattle.bus_beside.specs.Reactions.{HaveNothingUpto}
use Rattle.bus_beside.proofs.Courses.{ends_so}
use Rattle.bus_beside.proofs.plays.Plays.end.Goals as goal

pub returns : goal.returns
returns g c = λ so.
    ends_so _ g.D.Machine.State g.D.Machine.stands g.D.Machine.step g.D.Machine.says g.met.D.Machine.byte g.D.Machine.failures c.args.self.now c.settle.new.self c.args.moment (c.settle.ensures c.if-not-settle.false) (subst (λ (n : ℕ). n ≤ c.args.moment + 1) (ap (λ (b : Course _). b.from) c.self.view_is) (omega (arith, c.if-self-moment.false)))
    (subst (HaveNothingUpto _ g.D.Machine.State g.D.Machine.stands g.D.Machine.step g.D.Machine.says c.args.moment) (c.as_slice.ensures ∙ ap (λ (b : Course _). b.seats) c.self-2.view_is) (c.all_later.ensures so))
