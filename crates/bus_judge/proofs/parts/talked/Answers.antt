use Rattle.std.proofs.Common.{◌≡◌, ◌++◌, OnOk, sym, subst, ◌∙◌, ap, List, [], Bool, true, if◌then◌else◌}
use Rattle.bus_judge.specs.Views.{seats_of, told_of, steps_shown}
use Rattle.bus_judge.specs.declared.seat.Seat.{Seat as OwnSeat}
use Rattle.cbm_iec.specs.declared.party.Party.{Party}
use Rattle.cbm_session.specs.Frames.{telling}
use Rattle.cbm_session.specs.Seats.{talker_of, is_talker, at_pace}
use Rattle.bus_judge.proofs.parts.talked.Goals as goal

-- the drive talks, at the pace of the one that does
pub returns : goal.returns
returns c =
    let e : c.talker_of.result ≡ talker_of (seats_of c.args.point.now.seats.items) = c.talker_of.ensures ∙ ap (λ (xs : List OwnSeat). talker_of (seats_of xs)) c.deref.ensures.0 in
    let t : is_talker c.args.seat.now.role ≡ true = sym c.is_talker.ensures ∙ c.if-not-is_talker.false in
    let said = subst (λ (b : Party). OnOk c.telling.result (steps_shown c.telling.new.list.items ≡ steps_shown c.args.list.now.items ++ telling (at_pace b.pace c.args.seat.now.party) c.args.at (told_of c.args.frame.now))) e c.telling.ensures in
    subst (λ (b : Bool). OnOk c.telling.result (steps_shown c.telling.new.list.items ≡ steps_shown c.args.list.now.items ++ (if b then telling (at_pace (talker_of (seats_of c.args.point.now.seats.items)).pace c.args.seat.now.party) c.args.at (told_of c.args.frame.now) else [])))
    (sym t) said
