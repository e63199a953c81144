-- What the lines of a trace say.
use Rattle.std.specs.Prelude.{◌≡◌, ◌≤◌, ℕ, List, [], ◌∷◌, ◌==◌, nat_lt, if◌then◌else◌, ⊤, Option, Some, None, option_map}
use Rattle.cbm_iec.specs.declared.event.Event.{Event}
use Rattle.bus_traces.specs.Events.{event_read, IsOfTrace}
use Rattle.bus_traces.specs.Lines.{lines_of}

-- an event that doesn't come before a moment; None where there is none, or it comes before
abbrev pub after_moment : ℕ → Option Event → Option (Option Event)
after_moment from None = None
after_moment from (Some e) = if nat_lt e.change.moment from then None else Some (Some e)

-- what a line says after a moment: nothing where it is empty or begins with `;`, else an event; None where it is refused
abbrev pub line_says : ℕ → List ℕ → Option (Option Event)
line_says from [] = Some None
line_says from (b ∷ bytes) = if b == 59 then Some None else after_moment from (event_read (b ∷ bytes))

-- what a line says, and then what the others say
abbrev pub with_event : Option (Option Event) → Option (List Event) → Option (List Event)
with_event None rest = None
with_event (Some None) rest = rest
with_event (Some (Some e)) rest = option_map (λ es. e ∷ es) rest

-- the moment that a line leaves
abbrev pub moment_after : ℕ → Option (Option Event) → ℕ
moment_after from None = from
moment_after from (Some None) = from
moment_after from (Some (Some e)) = e.change.moment

-- THE EVENTS OF A TRACE'S LINES after a moment; None where a line is refused
abbrev pub events_from : ℕ → List (List ℕ) → Option (List Event)
events_from from [] = Some []
events_from from (line ∷ lines) = with_event (line_says from line) (events_from (moment_after from (line_says from line)) lines)

-- the events of a trace's bytes
abbrev pub trace_of : List ℕ → Option (List Event)
trace_of bytes = events_from 0 (lines_of bytes)

-- An event was read: the bytes that were left say it, and after it what is left then says; or they say none.
abbrev pub EventRead : Option (List ℕ) → Option (List ℕ) → ℕ → Option Event → Type 0
EventRead None new from read = ⊤
EventRead (Some xs) new from None = events_from from (lines_of xs) ≡ Some []
EventRead (Some xs) None from (Some e) = ⊥
EventRead (Some xs) (Some ys) from (Some e) = events_from from (lines_of xs) ≡ option_map (λ es. e ∷ es) (events_from e.change.moment (lines_of ys))

-- the moment of an event that was read, else the one before
abbrev pub moment_of_read : ℕ → Option Event → ℕ
moment_of_read from None = from
moment_of_read from (Some e) = e.change.moment

-- the events of a trace: none comes before the one before it
abbrev pub AreOfTrace : ℕ → List Event → Type 0
AreOfTrace from [] = Unit {0}
AreOfTrace from (e ∷ es) = (from ≤ e.change.moment) × IsOfTrace e × AreOfTrace e.change.moment es
