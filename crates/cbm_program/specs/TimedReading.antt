-- What the reading of a line of a script of line changes says.
use Rattle.std.specs.Prelude.{◌≡◌, ◌<◌, ◌≤◌, ◌⊎◌, ℕ, List, [], ◌∷◌, Option, Some, None, Result, Ok, Err}
use Rattle.bus_traces.specs.Lines.{lines_of}
use Rattle.cbm_program.specs.Timed.{IsTimed, latest_timed}
use Rattle.cbm_program.specs.Timetables.{timed_meaning, bad_after}
use Rattle.cbm_program.specs.declared.fault.RunFault.{RunFault}
use Rattle.cbm_program.specs.declared.fault.RunFault.TheVariants.{Script, Image, Memory, Reading, Writing}
use Rattle.cbm_program.specs.declared.wires.timed.Timed.{Timed}

-- line n was read, and is this
abbrev pub ReadsTimed : Option (List ℕ) → Option (List ℕ) → ℕ → ℕ → Timed → Type 0
ReadsTimed None new n from timed = Unit {0}
ReadsTimed (Some xs) None n from timed = ⊥
ReadsTimed (Some xs) (Some ys) n from timed = (bytes : List ℕ) × (lines_of xs ≡ bytes ∷ lines_of ys) × (timed_meaning n from bytes ≡ Some timed)

-- line n is refused, or isn't there
abbrev pub LacksTimed : Option (List ℕ) → ℕ → ℕ → Type 0
LacksTimed None n from = Unit {0}
LacksTimed (Some xs) n from = (xs ≡ []) ⊎ ((bytes : List ℕ) × (lines : List (List ℕ)) × (lines_of xs ≡ bytes ∷ lines) × (timed_meaning n from bytes ≡ None))

-- after the reading of line n, which follows a moment
abbrev pub TimedRead : Option (List ℕ) → Option (List ℕ) → ℕ → ℕ → Result Timed RunFault → Type 0
TimedRead old new n from (Ok timed) = ReadsTimed old new n from timed × (n < 1000001) × IsTimed timed × (from ≤ latest_timed from timed)
TimedRead old new n from (Err (Script bad)) = (bad ≡ n) × LacksTimed old n from
TimedRead old new n from (Err (Image number)) = ⊥
TimedRead old new n from (Err Memory) = ⊥
TimedRead old new n from (Err Reading) = Unit {0}
TimedRead old new n from (Err Writing) = ⊥

-- the first line after the end that may not stand there, from line n on
abbrev pub IsBadAfter : Option (List ℕ) → ℕ → Option ℕ → Type 0
IsBadAfter None n bad = Unit {0}
IsBadAfter (Some xs) n bad = bad_after n (lines_of xs) ≡ bad

-- what the lines after the end came to: all are skipped, or one may not stand there, or they can't be read
abbrev pub AfterEndRead : Option (List ℕ) → ℕ → Result (Unit {0}) RunFault → Type 0
AfterEndRead old n (Ok _) = IsBadAfter old n None
AfterEndRead old n (Err (Script bad)) = IsBadAfter old n (Some bad)
AfterEndRead old n (Err (Image number)) = ⊥
AfterEndRead old n (Err Memory) = ⊥
AfterEndRead old n (Err Reading) = Unit {0}
AfterEndRead old n (Err Writing) = ⊥
