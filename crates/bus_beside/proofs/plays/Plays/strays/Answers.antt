use Rattle.std.proofs.Common.{◌≤◌, ℕ, [], ◌∷◌, ap, sym, subst, ◌∙◌, arith}
use Rattle.cbm_session.specs.Playing.{host_event}
use Rattle.bus_beside.specs.Courses.{Course, GoOnBeside}
use Rattle.bus_beside.proofs.Courses.{strays_on}
use Rattle.bus_beside.proofs.plays.Plays.strays.Goals as goal

pub returns : goal.returns
returns g c = λ so.
    subst (λ (b : Course _). GoOnBeside _ g.D.Machine.State g.D.Machine.stands g.D.Machine.step g.D.Machine.says g.D.Machine.failures c.args.self.now b (host_event c.args.change ∷ []) ([]))
    (λ i. record { seats = (sym (ap (λ (b : Course _). b.seats) c.self-2.view_is)) i; from = c.args.change.moment; tidy_from = (sym (ap (λ (b : Course _). b.tidy_from) c.self-2.view_is ∙ c.come.ensures.tidy_from)) i })
    (strays_on _ g.D.Machine.State g.D.Machine.stands g.D.Machine.step g.D.Machine.says g.met.D.Machine.byte g.D.Machine.failures c.args.self.now c.come.new.self.seats c.args.change (subst (λ (n : ℕ). n ≤ c.args.change.moment) (ap (λ (b : Course _). b.from) c.self.view_is) (omega (arith, c.if-change-self.false))) (c.come.ensures.come c.if-not-come.false))
