use Rattle.std.proofs.Common.{◌≡◌, ◌++◌, OnOk, sym, subst, ◌∙◌, ap, List}
use Rattle.bus_judge.specs.Views.{point_of, whole_of, seats_of, told_of, steps_shown}
use Rattle.bus_judge.specs.declared.seat.Seat.{Seat as OwnSeat}
use Rattle.bus_judge.specs.declared.whole.Whole.{Whole as OwnWhole}
use Rattle.cbm_iec.specs.declared.party.Party.{Party}
use Rattle.cbm_session.specs.Frames.{taking}
use Rattle.cbm_session.specs.Pieces as spec
use Rattle.cbm_session.specs.Seats.{talker_of}
use Rattle.bus_judge.proofs.parts.host_part.Goals as goal

-- the piece is the frame that was taken, of the drive that talks
pub returns-in-Talk : goal.returns-in-Talk
returns-in-Talk c =
    let e : c.talker_of.result ≡ talker_of (seats_of c.args.point.now.seats.items) = c.talker_of.ensures ∙ ap (λ (xs : List OwnSeat). talker_of (seats_of xs)) c.deref.ensures.0 in
    let said = subst (λ (b : Party). OnOk c.taking.result (steps_shown c.taking.new.list.items ≡ steps_shown c.args.list.now.items ++ taking b (told_of c.in-Talk.frame))) e c.taking.ensures in
    subst (λ (w : OwnWhole). OnOk c.taking.result (steps_shown c.taking.new.list.items ≡ steps_shown c.args.list.now.items ++ spec.host_part (point_of c.args.point.now) (whole_of w)))
    (sym c.in-Talk.is) said
