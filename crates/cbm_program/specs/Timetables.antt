-- A script of line changes: what its lines ask for, one after the other.
use Rattle.std.specs.Prelude.{ℕ, ◌+◌, List, [], ◌∷◌, codes, drop, Bool, true, false, if◌then◌else◌, Option, Some, None}
use Rattle.std.specs.Str.{bytes_eq}
use Rattle.cbm_iec.specs.declared.lines.Change.{Change}
use Rattle.bus_traces.specs.Lines.{lines_of}
use Rattle.cbm_program.specs.Running.{may_stand}
use Rattle.cbm_program.specs.Timed.{timed_of, timed_after, is_skipped, latest_timed}
use Rattle.cbm_program.specs.declared.wires.timed.Timed.{Timed}
use Rattle.cbm_program.specs.declared.wires.timed.Timed.TheVariants.{Skipped, Changes, Ends}

-- A script of line changes has `lines` on its first line, any other asks a drive for files.
abbrev pub begins_timed : List (List ℕ) → Bool
begins_timed [] = false
begins_timed (line ∷ lines) = bytes_eq line (codes "lines")

-- whether a script is one of line changes
abbrev pub is_timed : List ℕ → Bool
is_timed bytes = begins_timed (lines_of bytes)

-- the bytes of a script, where it is of the kind that is asked for
abbrev pub script_if : Bool → Bool → List ℕ → Option (List ℕ)
script_if true true bytes = Some bytes
script_if false false bytes = Some bytes
script_if true false bytes = None
script_if false true bytes = None

-- the bytes of a script of requests, where they are known
abbrev pub of_requests : Option (List ℕ) → Option (List ℕ)
of_requests None = None
of_requests (Some bytes) = script_if false (is_timed bytes) bytes

-- the bytes of a script of line changes, where they are known
abbrev pub of_changes : Option (List ℕ) → Option (List ℕ)
of_changes None = None
of_changes (Some bytes) = script_if true (is_timed bytes) bytes

-- ---- its lines

-- what a line is after a moment, where it may stand there
abbrev pub timed_if : Bool → ℕ → List ℕ → Option Timed
timed_if true from line = timed_after from (timed_of line)
timed_if false from line = None

-- what line n is after a moment, None where it is refused
abbrev pub timed_meaning : ℕ → ℕ → List ℕ → Option Timed
timed_meaning n from line = timed_if (may_stand n line) from line

-- the first line after the end that may not stand there, from line n on
unfoldable pub bad_after : ℕ → List (List ℕ) → Option ℕ
bad_after n [] = None
bad_after n (line ∷ lines) = if is_skipped (timed_meaning n 0 line) then bad_after (n + 1) lines else Some n

-- the changes up to the end or the first bad line; the end, if no line is bad; and the number of the bad line
pub record Timetable : Type 0 where
  pub changes : List Change
  pub end : Option ℕ
  pub bad : Option ℕ

-- nothing more
abbrev pub stopped_at : ℕ → Timetable
stopped_at n = record { changes = []; end = None; bad = Some n }

-- the end; but where a line after it is bad, it isn't played up to there
abbrev pub ended_at : ℕ → Option ℕ → Timetable
ended_at end None = record { changes = []; end = Some end; bad = None }
ended_at end (Some bad) = stopped_at bad

-- a change, and what follows it
abbrev pub with_change : Change → Timetable → Timetable
with_change change rest = record { changes = change ∷ rest.changes; end = rest.end; bad = rest.bad }

-- one line, and what follows it
abbrev pub with_timed : Option Timed → ℕ → Option ℕ → Timetable → Timetable
with_timed None n bad rest = stopped_at n
with_timed (Some Skipped) n bad rest = rest
with_timed (Some (Changes change)) n bad rest = with_change change rest
with_timed (Some (Ends end)) n bad rest = ended_at end bad

-- the moment after which the next line stands
abbrev pub latest_if : ℕ → Option Timed → ℕ
latest_if from None = from
latest_if from (Some timed) = latest_timed from timed

-- The lines from line n on, after a moment. Where no line is the end, the line that is missing is refused.
unfoldable pub timetable_from : ℕ → ℕ → List (List ℕ) → Timetable
timetable_from n from [] = stopped_at n
timetable_from n from (line ∷ lines) = with_timed (timed_meaning n from line) n (bad_after (n + 1) lines) (timetable_from (n + 1) (latest_if from (timed_meaning n from line)) lines)

-- what follows the first line, `lines`
abbrev pub timetable_of : List ℕ → Timetable
timetable_of bytes = timetable_from 2 0 (drop 1 (lines_of bytes))
