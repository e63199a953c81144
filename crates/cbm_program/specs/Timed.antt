-- What a line of a script of line changes asks for: `MOMENT LINE WAY`, or `end MOMENT`.
use Rattle.std.specs.Prelude.{ℕ, ◌≤◌, List, [], ◌∷◌, codes, Bool, true, false, ◌==◌, nat_lt, Option, Some, None, option_map, if◌then◌else◌}
use Rattle.std.specs.Str.{bytes_eq}
use Rattle.cbm_iec.specs.declared.event.Event.{Event}
use Rattle.bus_traces.specs.Events.{host_event_of}
use Rattle.bus_traces.specs.Words.{first_word, after_word}
use Rattle.cbm_program.specs.Words.{moment_number}
use Rattle.cbm_program.specs.declared.wires.timed.Timed.{Timed}
use Rattle.cbm_program.specs.declared.wires.timed.Timed.TheVariants.{Skipped, Changes, Ends}

-- a change of the host
abbrev pub timed_change : Option Event → Option Timed
timed_change event = option_map (λ e. Changes e.change) event

-- a moment after `end`
abbrev pub timed_end : Option (List ℕ) → Option Timed
timed_end None = None
timed_end (Some word) = option_map Ends (moment_number word)

-- what a line asks for: the end, or a change
abbrev pub timed_asked : List ℕ → Option Timed
timed_asked bytes = if bytes_eq (first_word bytes) (codes "end") then timed_end (after_word bytes) else timed_change (host_event_of bytes)

-- what a line is, None where it is refused
abbrev pub timed_of : List ℕ → Option Timed
timed_of [] = Some Skipped
timed_of (b ∷ bytes) = if b == 59 then Some Skipped else timed_asked (b ∷ bytes)

-- Nothing comes before what came before it.
abbrev pub timed_after : ℕ → Option Timed → Option Timed
timed_after from None = None
timed_after from (Some Skipped) = Some Skipped
timed_after from (Some (Changes change)) = if nat_lt change.moment from then None else Some (Changes change)
timed_after from (Some (Ends end)) = if nat_lt end from then None else Some (Ends end)

-- a line that is skipped, as one must be after the end
abbrev pub is_skipped : Option Timed → Bool
is_skipped None = false
is_skipped (Some Skipped) = true
is_skipped (Some (Changes change)) = false
is_skipped (Some (Ends end)) = false

-- a moment of a script
abbrev pub IsTimed : Timed → Type 0
IsTimed Skipped = Unit {0}
IsTimed (Changes change) = change.moment ≤ 1000000000000000
IsTimed (Ends end) = end ≤ 1000000000000000

-- the moment that holds after a line
abbrev pub latest_timed : ℕ → Timed → ℕ
latest_timed from Skipped = from
latest_timed from (Changes change) = change.moment
latest_timed from (Ends end) = end
