use Rattle.std.proofs.Common.{Option, Some, subst, ap}
use Rattle.bus_judge.proofs.Standing.{stands_passed, stands_cleared}
use Rattle.bus_judge.specs.Judging.{JudgeStandsAt}
use Rattle.bus_judge.specs.Views.{point_of}
use Rattle.bus_judge.specs.declared.whole.Whole.{Whole as OwnWhole}
use Rattle.bus_judge.proofs.judge.Judge.pass.Goals as goal

-- the piece under way has come whole
pub returns-clause-stands : goal.returns-clause-stands
returns-clause-stands c = λ bs done s.
    let j = c.args.self.now in
    let p = point_of j.point in
    let q = point_of c.in_ok-self.field-0 in
    let k = c.clear.new.self in
    let busy : JudgeStandsAt bs p (Some c.args.whole.now) j.steps.items j.seen done = subst (λ (w : Option OwnWhole). JudgeStandsAt bs p w j.steps.items j.seen done) c.requires.under_way s in
    let afterwards = stands_passed bs p c.args.whole.now q j.steps.items j.seen done busy c.requires.over c.in_ok-self.ensures in
    stands_cleared bs q (point_of k.point) k.whole k.steps.items k.seen done afterwards (ap point_of c.clear.ensures.point) c.clear.ensures.whole c.clear.ensures.steps c.clear.ensures.seen
