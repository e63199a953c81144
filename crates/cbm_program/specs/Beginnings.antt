-- What the reading of a line says, and of the first line of a script.
use Rattle.std.specs.Prelude.{◌≡◌, ◌<◌, ℕ, List, ◌∷◌, codes, Bool, true, false, Option, Some, None, Result, Ok, Err, IfSome}
use Rattle.std.specs.Io.KnownBytes.{IsAtEnd}
use Rattle.bus_traces.specs.Lines.{lines_of, TakesLine}
use Rattle.cbm_program.specs.Running.{may_stand, LineRead, LineIsInRange}
use Rattle.cbm_program.specs.Timetables.{is_timed}
use Rattle.cbm_program.specs.declared.fault.RunFault.{RunFault}
use Rattle.cbm_program.specs.declared.fault.RunFault.TheVariants.{Script, Image, Memory, Reading, Writing}
use Rattle.cbm_program.specs.declared.numbered.Beginning.{Beginning}
use Rattle.cbm_program.specs.declared.numbered.Beginning.TheVariants.{Changes, Requests}

-- line n is there, and may not stand there
abbrev pub MayNotStand : Option (List ℕ) → ℕ → Type 0
MayNotStand None n = Unit {0}
MayNotStand (Some xs) n = (bytes : List ℕ) × (lines : List (List ℕ)) × (lines_of xs ≡ bytes ∷ lines) × (may_stand n bytes ≡ false)

-- after the reading of line n: these are its bytes, or there is none, or why it can't be had
abbrev pub BytesRead : Option (List ℕ) → Option (List ℕ) → ℕ → List ℕ → Result Bool RunFault → Type 0
BytesRead old new n bytes (Ok true) = TakesLine old new bytes × (n < 1000001)
BytesRead old new n bytes (Ok false) = IsAtEnd old
BytesRead old new n bytes (Err (Script bad)) = (bad ≡ n) × MayNotStand old n
BytesRead old new n bytes (Err (Image number)) = ⊥
BytesRead old new n bytes (Err Memory) = ⊥
BytesRead old new n bytes (Err Reading) = Unit {0}
BytesRead old new n bytes (Err Writing) = ⊥

-- a script isn't one of line changes
abbrev pub NotTimed : Option (List ℕ) → Type 0
NotTimed None = Unit {0}
NotTimed (Some xs) = is_timed xs ≡ false

-- the channel of a first request is 0 to 15
abbrev pub BeginsInRange : Beginning → Type 0
BeginsInRange Changes = Unit {0}
BeginsInRange (Requests line) = IfSome line LineIsInRange

-- after the reading of the first line: changes follow it, or requests, of which it is the first; or why it can't be had
abbrev pub FirstRead : Option (List ℕ) → Option (List ℕ) → Result Beginning RunFault → Type 0
FirstRead old new (Ok Changes) = TakesLine old new (codes "lines")
FirstRead old new (Ok (Requests line)) = LineRead old new 1 (Ok line) × NotTimed old
FirstRead old new (Err (Script bad)) = LineRead old new 1 (Err (Script bad)) × NotTimed old
FirstRead old new (Err (Image number)) = ⊥
FirstRead old new (Err Memory) = ⊥
FirstRead old new (Err Reading) = Unit {0}
FirstRead old new (Err Writing) = ⊥
