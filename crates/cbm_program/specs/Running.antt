-- A script as a list of requests, and what a run of it says.
use Rattle.std.specs.Prelude.{ℕ, ◌+◌, ◌≡◌, ◌<◌, ◌≤◌, List, [], ◌∷◌, length, Bool, true, false, nat_lt, if◌then◌else◌, Option, Some, None, Result, Ok, Err}
use Rattle.std.specs.Io.KnownBytes.{IsAtEnd}
use Rattle.cbm_program.specs.declared.request.ScriptRequest.{ScriptRequest}
use Rattle.cbm_program.specs.declared.request.ScriptRequest.TheVariants.{Open, Put, Fill, Get, Close, Status}
use Rattle.cbm_program.specs.declared.line.ScriptLine.{ScriptLine}
use Rattle.cbm_program.specs.declared.line.ScriptLine.TheVariants.{Skipped, Asks}
use Rattle.cbm_program.specs.declared.fault.RunFault.{RunFault}
use Rattle.cbm_program.specs.declared.fault.RunFault.TheVariants.{Script, Image, Memory, Reading, Writing}
use Rattle.bus_traces.specs.Lines.{lines_of}
use Rattle.cbm_program.specs.Requests.{line_of}

-- ---- the numbers of requests

-- the channel of a request is 0 to 15, and its count 1 to 200,000
abbrev pub IsInRange : ScriptRequest → Type 0
IsInRange (Open ch text) = ch ≤ 15
IsInRange (Put ch text) = ch ≤ 15
IsInRange (Fill ch n b) = (ch ≤ 15) × (n ≤ 200000)
IsInRange (Get ch most) = (ch ≤ 15) × (1 ≤ most) × (most ≤ 200000)
IsInRange (Close ch) = ch ≤ 15
IsInRange Status = Unit {0}

-- the same of a line
abbrev pub LineIsInRange : ScriptLine → Type 0
LineIsInRange Skipped = Unit {0}
LineIsInRange (Asks request) = IsInRange request

-- ---- the lines as requests

-- a line's requests: one or none
abbrev pub requests_in : ScriptLine → List ScriptRequest
requests_in Skipped = []
requests_in (Asks request) = request ∷ []

-- line n may stand there: a script has at most 1,000,000 lines, each of at most 1,000 bytes
abbrev pub may_stand : ℕ → List ℕ → Bool
may_stand n line = if nat_lt 1000000 n then false else if nat_lt 1000 (length line) then false else true

-- what a line is, where it may stand there
abbrev pub meaning_if : Bool → List ℕ → Option ScriptLine
meaning_if true line = line_of line
meaning_if false line = None

-- what line n is, None where it is refused
abbrev pub meaning : ℕ → List ℕ → Option ScriptLine
meaning n line = meaning_if (may_stand n line) line

-- the requests up to the first bad line, and that line's number
pub record Asked : Type 0 where
  pub requests : List ScriptRequest
  pub bad : Option ℕ

-- no request, and this bad line
abbrev pub refused_at : Option ℕ → Asked
refused_at bad = record { requests = []; bad = bad }

-- one line, and what follows it
abbrev pub with_script_line : Option ScriptLine → ℕ → Asked → Asked
with_script_line None n rest = refused_at (Some n)
with_script_line (Some Skipped) n rest = rest
with_script_line (Some (Asks request)) n rest = record { requests = request ∷ rest.requests; bad = rest.bad }

-- the lines of a script from line n on
unfoldable pub asked_from : ℕ → List (List ℕ) → Asked
asked_from n [] = refused_at None
asked_from n (line ∷ lines) = with_script_line (meaning n line) n (asked_from (n + 1) lines)

-- a script's requests up to its first bad line, if it has one
abbrev pub script_of : List ℕ → Asked
script_of bytes = asked_from 1 (lines_of bytes)

-- ---- what the reading of a line says

-- line n was read, and is this
abbrev pub ReadsLine : Option (List ℕ) → Option (List ℕ) → ℕ → ScriptLine → Type 0
ReadsLine None new n line = Unit {0}
ReadsLine (Some xs) None n line = ⊥
ReadsLine (Some xs) (Some ys) n line = (bytes : List ℕ) × (lines_of xs ≡ bytes ∷ lines_of ys) × (meaning n bytes ≡ Some line)

-- line n is there, and is refused
abbrev pub ComesBad : Option (List ℕ) → ℕ → Type 0
ComesBad None n = Unit {0}
ComesBad (Some xs) n = (bytes : List ℕ) × (lines : List (List ℕ)) × (lines_of xs ≡ bytes ∷ lines) × (meaning n bytes ≡ None)

-- what comes of the reading of line n: the line, the end, or why there is neither
abbrev pub LineRead : Option (List ℕ) → Option (List ℕ) → ℕ → Result (Option ScriptLine) RunFault → Type 0
LineRead old new n (Ok (Some line)) = ReadsLine old new n line × (n < 1000001) × LineIsInRange line
LineRead old new n (Ok None) = IsAtEnd old
LineRead old new n (Err (Script bad)) = (bad ≡ n) × ComesBad old n
LineRead old new n (Err (Image number)) = ⊥
LineRead old new n (Err Memory) = ⊥
LineRead old new n (Err Reading) = Unit {0}
LineRead old new n (Err Writing) = ⊥

-- ---- how a run ends

-- a fault of writing
abbrev pub IsOfWriting : RunFault → Type 0
IsOfWriting f = f ≡ Writing

-- a fault that is neither of the image nor of memory: a line that is refused, or reading or writing
abbrev pub IsOfScript : RunFault → Type 0
IsOfScript (Script line) = Unit {0}
IsOfScript (Image number) = ⊥
IsOfScript Memory = ⊥
IsOfScript Reading = Unit {0}
IsOfScript Writing = Unit {0}

-- P of the number of a bad line; any other fault says nothing
abbrev pub EndsBy : RunFault → (Option ℕ → Type 0) → Type 0
EndsBy (Script line) P = P (Some line)
EndsBy (Image number) P = Unit {0}
EndsBy Memory P = Unit {0}
EndsBy Reading P = Unit {0}
EndsBy Writing P = Unit {0}

-- P of the first bad line's number, if the run ended at the script's end or there
abbrev pub EndsAs : {A : Type 0} → Result A RunFault → (Option ℕ → Type 0) → Type 0
EndsAs (Ok _) P = P None
EndsAs (Err fault) P = EndsBy fault P
