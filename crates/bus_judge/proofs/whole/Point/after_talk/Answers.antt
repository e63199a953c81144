use Rattle.std.proofs.Common.{◌≡◌, List, Bool, false, not, map, ◌∙◌, ap}
use Rattle.bus_judge.specs.Views.{seats_of, told_of}
use Rattle.bus_judge.specs.declared.seat.Seat.{Seat as OwnSeat}
use Rattle.cbm_iec.specs.declared.lines.Held.{Held}
use Rattle.cbm_iec.specs.declared.party.Party.{Party}
use Rattle.cbm_session.specs.Frames.{is_last}
use Rattle.cbm_session.specs.Pieces.{standing, told_since}
use Rattle.cbm_session.specs.Seats.{Seat, talker_of, lines}
use Rattle.bus_judge.proofs.Points.{same_points}
use Rattle.bus_judge.proofs.whole.Point.after_talk.Goals as goal

-- part by part
pub returns : goal.returns
returns c =
    let f = told_of c.args.frame.now in
    let e : c.talker_of.result ≡ talker_of (seats_of c.args.self.now.seats.items) = c.talker_of.ensures ∙ ap (λ (xs : List OwnSeat). talker_of (seats_of xs)) c.deref.ensures.0 in
    let since : c.in_ok-since.since ≡ told_since (talker_of (seats_of c.args.self.now.seats.items)) f = c.in_ok-since.ensures ∙ ap (λ (b : Party). told_since b f) e in
    let l : c.lines.result ≡ lines (not (is_last f)) false = c.lines.ensures ∙ ap (λ (b : Bool). lines (not b) false) c.is_last.ensures in
    let seats : seats_of c.stood.result.items ≡ map (λ (s : Seat). standing (lines (not (is_last f)) false) s) (seats_of c.args.self.now.seats.items) =
    c.stood.ensures ∙ (ap (λ (h : Held). map (λ (s : Seat). standing h s) (seats_of c.deref-2.result.now)) l
    ∙ ap (λ (xs : List OwnSeat). map (λ (s : Seat). standing (lines (not (is_last f)) false) s) (seats_of xs)) c.deref-2.ensures.0) in
    same_points _ _ _ _ _ _ _ _ _ _ _ c.in_ok-place.ensures seats c.lines-2.ensures since
