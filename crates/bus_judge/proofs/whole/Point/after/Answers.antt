use Rattle.std.proofs.Common.{◌≡◌, IfOk, sym, subst}
use Rattle.bus_judge.specs.Views.{point_of, whole_of}
use Rattle.bus_judge.specs.declared.whole.Point.{Point as OwnPoint}
use Rattle.bus_judge.specs.declared.whole.Whole.{Whole as OwnWhole}
use Rattle.cbm_session.specs.Pieces as spec
use Rattle.bus_judge.proofs.whole.Point.after.Goals as goal

-- the piece is the frame that was told
pub returns-in-Talk : goal.returns-in-Talk
returns-in-Talk c =
    subst (λ (w : OwnWhole). IfOk c.after_talk.result (λ (p : OwnPoint). point_of p ≡ spec.whole_point (point_of c.args.self.now) (whole_of w)))
    (sym c.in-Talk.is) c.after_talk.ensures
