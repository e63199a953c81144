-- An event as a line: `MOMENT WHO LINE WAY`.
use Rattle.std.specs.Prelude.{◌≤◌, ℕ, List, ◌++◌, codes, decimal, flat_map, if◌then◌else◌, Option, Some, None, option_map, option_and_then}
use Rattle.std.specs.Str.{bytes_eq}
use Rattle.cbm_iec.specs.declared.event.Event.{Event}
use Rattle.cbm_iec.specs.declared.event.Who.{Who}
use Rattle.cbm_iec.specs.declared.event.Who.TheVariants.{Host, Drive}
use Rattle.cbm_iec.specs.declared.lines.Line.{Line}
use Rattle.cbm_iec.specs.declared.lines.Line.TheVariants.{Atn, Clock, Data}
use Rattle.cbm_iec.specs.declared.lines.Way.{Way}
use Rattle.cbm_iec.specs.declared.lines.Way.TheVariants.{Pull, Free}
use Rattle.bus_traces.specs.Words.{first_word, after_word, number_upto}

-- ---- writing

-- a party: the host by its name, a drive by its number
abbrev pub who_text : Who → List ℕ
who_text Host = codes "host"
who_text (Drive device) = decimal device

-- the word of a line in a trace
abbrev pub line_text : Line → List ℕ
line_text Atn = codes "atn"
line_text Clock = codes "clock"
line_text Data = codes "data"

-- the word of a change in a trace
abbrev pub way_text : Way → List ℕ
way_text Pull = codes "pull"
way_text Free = codes "free"

-- an event's words, one space between two
abbrev pub event_words : Event → List ℕ
event_words e = decimal e.change.moment ++ codes " " ++ who_text e.who ++ codes " " ++ line_text e.change.line ++ codes " " ++ way_text e.change.way

-- an event as a line with its end
abbrev pub event_text : Event → List ℕ
event_text e = event_words e ++ codes "\n"

-- a trace as lines
abbrev pub trace_text : List Event → List ℕ
trace_text trace = flat_map event_text trace

-- ---- reading

abbrev pub who_called : List ℕ → Option Who
who_called word = if bytes_eq word (codes "host") then Some Host else option_map Drive (number_upto 30 word)

-- the line of a word, none where it is no line's
abbrev pub line_called : List ℕ → Option Line
line_called word =
    if bytes_eq word (codes "atn") then Some Atn
    else if bytes_eq word (codes "clock") then Some Clock
    else if bytes_eq word (codes "data") then Some Data
    else None

-- the change of a word, none where it is no change's
abbrev pub way_called : List ℕ → Option Way
way_called word =
    if bytes_eq word (codes "pull") then Some Pull
    else if bytes_eq word (codes "free") then Some Free
    else None

-- an event, where each of its words says something
abbrev pub event_with : Option ℕ → Option Who → Option Line → Option Way → Option Event
event_with (Some moment) (Some who) (Some line) (Some way) = Some (record { who = who; change = record { moment = moment; line = line; way = way } })
event_with moment who line way = None

-- `LINE WAY` after a moment and a party
abbrev pub event_of_change : Option ℕ → Option Who → Option (List ℕ) → Option Event
event_of_change moment who None = None
event_of_change moment who (Some words) = event_with moment who (line_called (first_word words)) (option_and_then way_called (after_word words))

-- `WHO LINE WAY` after a moment
abbrev pub event_of_party : Option ℕ → Option (List ℕ) → Option Event
event_of_party moment None = None
event_of_party moment (Some words) = event_of_change moment (who_called (first_word words)) (after_word words)

-- THE EVENT OF A LINE, without its end; None where it is none. Its moment is at most 10 ^ 15.
abbrev pub event_read : List ℕ → Option Event
event_read bytes = event_of_party (number_upto 1000000000000000 (first_word bytes)) (after_word bytes)

-- THE HOST'S EVENT OF A LINE `MOMENT LINE WAY`, without its end; None where it is none
abbrev pub host_event_of : List ℕ → Option Event
host_event_of bytes = event_of_change (number_upto 1000000000000000 (first_word bytes)) (Some Host) (after_word bytes)

-- ---- the law

-- an event of a trace: its moment is at most 10 ^ 15, and a drive's number at most 30
abbrev pub IsParty : Who → Type 0
IsParty Host = Unit {0}
IsParty (Drive device) = device ≤ 30

pub record IsOfTrace (e : Event) : Type 0 where
  pub moment : e.change.moment ≤ 1000000000000000
  pub party : IsParty e.who
