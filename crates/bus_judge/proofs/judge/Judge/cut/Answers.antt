use Rattle.std.proofs.Common.{◌≡◌, List, Option, Some, true, subst, ap, take}
use Rattle.bus_judge.proofs.Standing.{stands_cut, stands_cleared}
use Rattle.bus_judge.specs.Judging.{JudgeStandsAt}
use Rattle.bus_judge.specs.Views.{point_of, steps_shown}
use Rattle.bus_judge.specs.declared.step.Step.{Step as OwnStep}
use Rattle.bus_judge.specs.declared.whole.Whole.{Whole as OwnWhole}
use Rattle.cbm_session.specs.Pieces.{before, some_from}
use Rattle.bus_judge.proofs.judge.Judge.cut.Goals as goal

-- what stands before the pull was seen, and no more of the piece
pub returns-in-Ok-clause-stands : goal.returns-in-Ok-clause-stands
returns-in-Ok-clause-stands c = λ bs done s.
    let j = c.args.self.now in
    let p = point_of j.point in
    let q = point_of c.in-Ok.point in
    let k = c.clear.new.self in
    let cut = c.args.event.change.moment in
    let busy : JudgeStandsAt bs p (Some c.args.whole.now) j.steps.items j.seen done = subst (λ (w : Option OwnWhole). JudgeStandsAt bs p w j.steps.items j.seen done) c.requires s in
    let more = subst (λ (xs : List OwnStep). some_from cut (steps_shown xs) ≡ true) c.deref-2.ensures.0 c.in_default.ensures.some in
    let front = subst (λ (xs : List OwnStep). before cut (steps_shown xs) ≡ steps_shown (take j.seen xs)) c.deref.ensures.0 (c.is_cut.ensures c.if-not-is_cut.false) in
    let afterwards = stands_cut bs p c.args.whole.now cut q j.steps.items j.seen done busy c.in_default.ensures.may more front c.in-Ok.ensures in
    c.begin.ensures.stands bs done
    (stands_cleared bs q (point_of k.point) k.whole k.steps.items k.seen done afterwards (ap point_of c.clear.ensures.point) c.clear.ensures.whole c.clear.ensures.steps c.clear.ensures.seen)
