use Rattle.std.proofs.Common.{◌≡◌, ◌+◌, List, ap, subst, refl, ◌∙◌}
use Rattle.cbm_session.specs.Playing.{Station}
use Rattle.bus_beside.specs.Courses.{Course}
use Rattle.bus_beside.specs.Reactions.{HaveReacted}
use Rattle.bus_beside.specs.Seats.{SeatedTwice, Sit, GoesUnfailed}
use Rattle.bus_beside.proofs.Courses.{reacts_on}
use Rattle.bus_beside.proofs.plays.Plays.react.Goals as goal

pub returns : goal.returns
returns g c =
    let seats : c.as_mut_slice.result.now ≡ c.args.self.now.seats = c.as_mut_slice.ensures.value ∙ ap (λ (b : Course _). b.seats) c.self.view_is in
    let a = c.in_ok-answer.answer in
    reacts_on _ g.D.Machine.State g.D.Machine.stands g.D.Machine.step g.D.Machine.says g.met.D.Machine.byte g.D.Machine.failures c.args.self.now c.react.new.seats c.args.moment a.device (c.args.moment + 1) a.changes.items refl
    (subst (λ (xs : List (SeatedTwice _)). GoesUnfailed g.D.Machine.failures xs c.react.new.seats ((ss ts : List (Station g.D.Machine.State)) → Sit _ g.D.Machine.State g.D.Machine.stands xs ss ts
    → HaveReacted _ g.D.Machine.State g.D.Machine.stands g.D.Machine.step g.D.Machine.says c.args.moment a.device a.changes.items c.react.new.seats ss ts)) seats c.in_ok-answer.ensures)
