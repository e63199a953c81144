-- The cable: a line is pulled as long as any party pulls it.
use Rattle.std.specs.Prelude.{ℕ, ◌%◌, List, Bool, true, false, slice_set}
use Rattle.std.specs.List.{list_any}
use Rattle.cbm_iec.specs.Changes.{is_pull}
use Rattle.cbm_iec.specs.declared.event.Event.{Event}
use Rattle.cbm_iec.specs.declared.event.Who.{Who}
use Rattle.cbm_iec.specs.declared.event.Who.TheVariants.{Host, Drive}
use Rattle.cbm_iec.specs.declared.lines.Line.{Line}
use Rattle.cbm_iec.specs.declared.lines.Line.TheVariants.{Atn, Clock, Data}
use Rattle.cbm_iec.specs.declared.lines.Way.{Way}
use Rattle.cbm_iec.specs.declared.lines.Way.TheVariants.{Pull, Free}
use Rattle.bus_traces.specs.declared.cable.Cable.{Cable}

-- the seat of a party: a drive's number, at most 30, and the host's
abbrev pub seat_number : Who → ℕ
seat_number Host = 31
seat_number (Drive device) = device % 31

-- who pulls a line, seat by seat
abbrev pub pulling : Line → Cable → List Bool
pulling Atn cable = cable.atn_seats
pulling Clock cable = cable.clock_seats
pulling Data cable = cable.data_seats

-- A LINE IS PULLED AS LONG AS ANY PARTY PULLS IT.
abbrev pub is_low : Line → Cable → Bool
is_low line cable = list_any (λ pulls. pulls) (pulling line cable)

-- the cable with these seats for a line
abbrev pub with_seats : Line → List Bool → Cable → Cable
with_seats Atn seats cable = record { atn_seats = seats; clock_seats = cable.clock_seats; data_seats = cable.data_seats }
with_seats Clock seats cable = record { atn_seats = cable.atn_seats; clock_seats = seats; data_seats = cable.data_seats }
with_seats Data seats cable = record { atn_seats = cable.atn_seats; clock_seats = cable.clock_seats; data_seats = seats }

-- the cable after an event: that party's seat changes, in that line
abbrev pub after : Event → Cable → Cable
after e cable = with_seats e.change.line (slice_set (pulling e.change.line cable) (seat_number e.who) (is_pull e.change.way)) cable
