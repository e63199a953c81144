use Rattle.std.proofs.Common.{sym, subst, ap, ◌∙◌}
use Rattle.bus_judge.specs.Judging.{JudgeStands}
use Rattle.bus_judge.specs.declared.judge.Judge.{Judge as OwnJudge}
use Rattle.bus_judge.proofs.judge.Judge.otherwise.Goals as goal

-- a guess that isn't taken changes nothing
pub returns-in-Ok-adopt-clause-stands : goal.returns-in-Ok-adopt-clause-stands
returns-in-Ok-adopt-clause-stands c = λ bs done s.
    c.in-Ok-adopt.ensures.stands bs done (subst (λ (j : OwnJudge). JudgeStands bs j done) (sym c.in-Err.ensures.unchanged) s)

pub pass-requires-clause-under_way : goal.pass-requires-clause-under_way
pass-requires-clause-under_way c = ap (λ (j : OwnJudge). j.whole) (c.in-Err-adopt.ensures.unchanged ∙ c.in-Err.ensures.unchanged) ∙ c.in-Some.is

pub returns-in-Ok-pass-clause-stands : goal.returns-in-Ok-pass-clause-stands
returns-in-Ok-pass-clause-stands c = λ bs done s.
    let still = subst (λ (j : OwnJudge). JudgeStands bs j done) (sym (c.in-Err-adopt.ensures.unchanged ∙ c.in-Err.ensures.unchanged)) s in
    c.begin-in-Ok-pass.ensures.stands bs done (c.in-Ok-pass.ensures.stands bs done still)

pub cut-requires : goal.cut-requires
cut-requires c = ap (λ (j : OwnJudge). j.whole) (c.in-Err-adopt.ensures.unchanged ∙ c.in-Err.ensures.unchanged) ∙ c.in-Some.is

pub returns-then-is_talk-clause-stands : goal.returns-then-is_talk-clause-stands
returns-then-is_talk-clause-stands c = λ bs done s.
    c.cut.ensures.stands bs done (subst (λ (j : OwnJudge). JudgeStands bs j done) (sym (c.in-Err-adopt.ensures.unchanged ∙ c.in-Err.ensures.unchanged)) s)
