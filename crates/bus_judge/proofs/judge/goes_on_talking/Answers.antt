use Rattle.std.proofs.Common.{◌≡◌, Bool, true, false, not, refl, sym, subst, ◌∙◌}
use Rattle.bus_judge.specs.Judging.{JudgeRests}
use Rattle.bus_judge.specs.Views.{whole_of, told_of}
use Rattle.bus_judge.specs.declared.whole.Whole.{Whole as OwnWhole}
use Rattle.cbm_session.specs.Frames.{is_last}
use Rattle.bus_judge.proofs.judge.goes_on_talking.Goals as goal

not-false : (b : Bool) → not b ≡ false → b ≡ true
not-false true h = refl
not-false false h = absurd cc

-- after the last byte the talk is over
pub returns-in-Talk : goal.returns-in-Talk
returns-in-Talk c = λ h.
    let t : is_last (told_of c.in-Talk.frame) ≡ true = sym c.is_last.ensures ∙ not-false c.is_last.result h in
    subst (λ (w : OwnWhole). JudgeRests (whole_of w)) (sym c.in-Talk.is) t
