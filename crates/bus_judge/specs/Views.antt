-- The judge's structs as the records of a session.
use Rattle.std.specs.Prelude.{◌≡◌, ℕ, ◌≤◌, ◌<◌, ◌^◌, ◌+◌, List, map}
use Rattle.cbm_iec.specs.Changes.{is_pull}
use Rattle.bus_judge.specs.declared.frame.Cell.{Cell as OwnCell}
use Rattle.bus_judge.specs.declared.frame.Sent.{Sent as OwnSent}
use Rattle.bus_judge.specs.declared.frame.Told.{Told as OwnTold}
use Rattle.bus_judge.specs.declared.seat.Seat.{Seat as OwnSeat}
use Rattle.bus_judge.specs.declared.step.Mark.{Mark as OwnMark}
use Rattle.bus_judge.specs.declared.step.Mark.TheVariants.{Plain as OwnPlain, ForEach as OwnForEach, For as OwnFor}
use Rattle.bus_judge.specs.declared.step.Step.{Step as OwnStep}
use Rattle.bus_judge.specs.declared.whole.Place.{Place as OwnPlace}
use Rattle.bus_judge.specs.declared.whole.Place.TheVariants.{Open as OwnOpen, Commanding as OwnCommanding, Listening as OwnListening, Leading as OwnLeading, Cutting as OwnCutting}
use Rattle.bus_judge.specs.declared.whole.Point.{Point as OwnPoint}
use Rattle.bus_judge.specs.declared.whole.Whole.{Whole as OwnWhole}
use Rattle.bus_judge.specs.declared.whole.Whole.TheVariants.{PullPiece as OwnPull, Command as OwnCommand, Byte as OwnByte, ToListener as OwnToListener, ToNobody as OwnToNobody, ToTalker as OwnToTalker, Nothing as OwnNothing, Talk as OwnTalk}
use Rattle.cbm_iec.specs.declared.lines.Change.{Change}
use Rattle.cbm_iec.specs.declared.lines.Line.TheVariants.{Atn, Clock, Data}
use Rattle.cbm_iec.specs.declared.lines.Held.{Held}
use Rattle.cbm_session.specs.Bits.{BitCell}
use Rattle.cbm_session.specs.Frames.{Sent, Told}
use Rattle.cbm_session.specs.Pieces.{BusPlace, Point, Whole, Open, Commanding, Listening, Leading, Cutting, PullPiece, Command, Byte, ToListener, ToNobody, ToTalker, Nothing, Talk}
use Rattle.cbm_session.specs.Seats.{Seat}
use Rattle.cbm_session.specs.Steps.{Mark, Step, Plain, ForEach, For}

abbrev pub bit_cell_of : OwnCell → BitCell
bit_cell_of c = record { bit = c.bit; set = c.set; free = c.free; pull = c.pull }

abbrev pub sent_of : OwnSent → Sent
sent_of f = record { ready = f.ready; start = f.start; cells = map bit_cell_of f.cells }

abbrev pub told_of : OwnTold → Told
told_of f = record { bits = f.bits; free = f.free; signal = f.signal; accept = f.accept }

abbrev pub seat_of : OwnSeat → Seat
seat_of s = record { party = s.party; role = s.role; own = s.own }

abbrev pub seats_of : List OwnSeat → List Seat
seats_of seats = map seat_of seats

abbrev pub step_mark : OwnMark → Mark
step_mark OwnPlain = Plain
step_mark (OwnForEach act) = ForEach act
step_mark (OwnFor device act) = For device act

abbrev pub step_of : OwnStep → Step
step_of s = record { event = s.event; mark = step_mark s.mark }

abbrev pub steps_shown : List OwnStep → List Step
steps_shown steps = map step_of steps

abbrev pub bus_place_of : OwnPlace → BusPlace
bus_place_of OwnOpen = Open
bus_place_of (OwnCommanding some) = Commanding some
bus_place_of OwnListening = Listening
bus_place_of (OwnLeading at) = Leading at
bus_place_of (OwnCutting at) = Cutting at

abbrev pub point_of : OwnPoint → Point
point_of p = record {
  place = bus_place_of p.place;
  seats = seats_of p.seats.items;
  host = p.host;
  pulled = p.pulled;
  released = p.released;
  accepted = p.accepted;
  since = p.since;
}

abbrev pub whole_of : OwnWhole → Whole
whole_of (OwnPull at) = PullPiece at
whole_of (OwnCommand f) = Command (sent_of f)
whole_of (OwnByte eoi f) = Byte eoi (sent_of f)
whole_of (OwnToListener at) = ToListener at
whole_of (OwnToNobody at clock) = ToNobody at clock
whole_of (OwnToTalker at clock) = ToTalker at clock
whole_of (OwnNothing at clock freed) = Nothing at clock freed
whole_of (OwnTalk at f) = Talk at (told_of f)

-- the lines that a party holds after a change of its own
abbrev pub after_change : Held → Change → Held
after_change held c = elim c.line [ Atn ↦ held | Clock ↦ record held { clock_low = is_pull c.way } | Data ↦ record held { data_low = is_pull c.way } ]

-- a sum of moments: not above it, and the sum itself where that is below the greatest number of 64 bits
abbrev pub IsSum : ℕ → ℕ → Type 0
IsSum sum n = (n ≤ sum) × (n + 1 < 2 ^ 64 → n ≡ sum)
