use Rattle.std.proofs.Common.{◌≡◌, ◌++◌, OnOk, sym, subst}
use Rattle.bus_judge.specs.Views.{point_of, whole_of, seat_of, steps_shown}
use Rattle.bus_judge.specs.declared.whole.Whole.{Whole as OwnWhole}
use Rattle.cbm_session.specs.Pieces as spec
use Rattle.bus_judge.proofs.parts.own_part.Goals as goal

-- the piece is the frame that was told
pub returns-in-Talk : goal.returns-in-Talk
returns-in-Talk c =
    subst (λ (w : OwnWhole). OnOk c.talked.result (steps_shown c.talked.new.list.items ≡ steps_shown c.args.list.now.items ++ spec.own_part (point_of c.args.point.now) (whole_of w) (seat_of c.args.seat.now)))
    (sym c.in-Talk.is) c.talked.ensures
