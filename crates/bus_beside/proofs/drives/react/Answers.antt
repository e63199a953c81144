use Rattle.std.proofs.Common.{sym, subst, List, ◌≡◌, ◌∙◌, ◌++◌, ◌∷◌, ap}
use Rattle.cbm_session.specs.Playing.{Station}
use Rattle.cbm_iec.specs.declared.lines.Change.{Change}
use Rattle.bus_beside.specs.Reactions.{HaveReacted, HaveAllHeard}
use Rattle.bus_beside.specs.Seats.{SeatedTwice, Sit, GoesUnfailed}
use Rattle.bus_beside.proofs.Sitting.{goes_reacted}
use Rattle.bus_beside.proofs.drives.react.Goals as goal

pub returns-then-hear_each-2 : goal.returns-then-hear_each-2
returns-then-hear_each-2 g c =
    let front = c.split_at_mut-front.result.0.now in
    let x = c.in_ok-rest.seat.now in
    let back = c.in_ok-rest.back.now in
    let old : c.args.seats.now ≡ front ++ x ∷ back = c.split_at_mut-front.ensures.value ∙ ap (λ (ys : List (SeatedTwice _)). front ++ ys) c.in_ok-rest.ensures.cases.0 in
    let now = c.hear_each.new.seats ++ c.react.new.self ∷ c.hear_each-then-hear_each.new.seats in
    subst (λ (xs : List (SeatedTwice _)). GoesUnfailed g.D.Machine.failures xs now ((ss ts : List (Station g.D.Machine.State)) → Sit _ g.D.Machine.State g.D.Machine.stands xs ss ts
    → HaveReacted _ g.D.Machine.State g.D.Machine.stands g.D.Machine.step g.D.Machine.says c.args.moment c.in_ok-answer.answer.device c.in_ok-answer.answer.changes.items now ss ts)) (sym old)
    (goes_reacted _ g.D.Machine.State g.D.Machine.stands g.D.Machine.step g.D.Machine.says g.D.Machine.failures c.args.moment c.in_ok-answer.answer.device c.in_ok-answer.answer.changes.items front c.hear_each.new.seats x c.react.new.self back c.hear_each-then-hear_each.new.seats
    (c.all_later.ensures c.if-not-all_later.false) (c.all_from.ensures c.if-not-all_from.false)
    c.in_ok-answer.ensures (heard front c.hear_each.new.seats c.deref.result.now c.deref.ensures.0 (c.hear_each.ensures c.if-hear_each.true))
    (heard back c.hear_each-then-hear_each.new.seats c.deref-then-hear_each.result.now c.deref-then-hear_each.ensures.0 (c.hear_each-then-hear_each.ensures c.if-hear_each-2.true)))
  where
    heard : (xs ys : List (SeatedTwice _)) (cs : List Change) → cs ≡ c.in_ok-answer.answer.changes.items → GoesUnfailed g.D.Machine.failures xs ys (HaveAllHeard _ g.D.Machine.State g.D.Machine.stands g.D.Machine.step g.D.Machine.says cs xs ys)
        → GoesUnfailed g.D.Machine.failures xs ys (HaveAllHeard _ g.D.Machine.State g.D.Machine.stands g.D.Machine.step g.D.Machine.says c.in_ok-answer.answer.changes.items xs ys)
    heard xs ys cs e h = subst (λ (ds : List Change). GoesUnfailed g.D.Machine.failures xs ys (HaveAllHeard _ g.D.Machine.State g.D.Machine.stands g.D.Machine.step g.D.Machine.says ds xs ys)) e h
