-- A script of requests on a machine, and what it prints.
use Rattle.cbm_talk.specs.Talks.{TalkSaid, status_said}
use Rattle.cbm_host.specs.Served.{talked_at, heard_at}
use Rattle.std.specs.Prelude.{ℕ, ◌+◌, ◌/◌, ◌%◌, nat_lt, Bool, List, [], ◌∷◌, ◌++◌, flat_map, replicate, codes, decimal, if◌then◌else◌}
use Rattle.cbm_machine.specs.Machines.{Machine}
use Rattle.cbm_machine.specs.Closing.{close}
use Rattle.cbm_machine.specs.Calls.{after_open, without_return}
use Rattle.cbm_iec.specs.declared.pace.Pace.{Pace}
use Rattle.cbm_program.specs.declared.request.ScriptRequest.{ScriptRequest}
use Rattle.cbm_program.specs.declared.request.ScriptRequest.TheVariants.{Open, Put, Fill, Get, Close, Status}

-- ---- what is printed

-- what requests printed, and the machine after them
pub record Printed : Type 0 where
  pub text : List ℕ
  pub machine : Machine

-- nothing is printed
abbrev pub silent : Machine → Printed
silent m = record { text = []; machine = m }

-- a hexadecimal digit, in lower case
abbrev pub hex_digit : ℕ → ℕ
hex_digit n = if nat_lt n 10 then n + 48 else n + 87

-- a byte as two of them
abbrev pub hex : ℕ → List ℕ
hex b = hex_digit (b / 16) ∷ hex_digit (b % 16) ∷ []

-- ` eoi` where the last byte was marked
abbrev pub eoi_mark : Bool → List ℕ
eoi_mark marked = if marked then codes " eoi" else []

-- the bytes of a get, or `none`
abbrev pub bytes_text : List ℕ → Bool → List ℕ
bytes_text [] marked = codes "none"
bytes_text (b ∷ bytes) marked = flat_map hex (b ∷ bytes) ++ eoi_mark marked

-- the line of a get
abbrev pub get_line : ℕ → TalkSaid → List ℕ
get_line ch said = codes "get " ++ decimal ch ++ codes " " ++ bytes_text said.bytes said.marked ++ codes "\n"

-- the line of a status, without its return
abbrev pub status_text : TalkSaid → List ℕ
status_text said = codes "status " ++ without_return said.bytes ++ codes "\n"

-- what a request prints, at the drive's pace, and the machine after it
abbrev pub printed_by : Pace → ScriptRequest → Machine → Printed
printed_by pace (Open ch text) m = silent (after_open ch text.items m)
printed_by pace (Put ch text) m = silent (heard_at pace ch text.items m)
printed_by pace (Fill ch n b) m = silent (heard_at pace ch (replicate n b) m)
printed_by pace (Get ch most) m = record { text = get_line ch (talked_at pace ch most m); machine = (talked_at pace ch most m).machine }
printed_by pace (Close ch) m = silent (close ch m)
printed_by pace Status m = record { text = status_text (status_said m); machine = (status_said m).machine }

-- one request, and those that follow it
abbrev pub then_printed : Printed → (Machine → Printed) → Printed
then_printed first rest = record { text = first.text ++ (rest first.machine).text; machine = (rest first.machine).machine }

-- what a script prints, request by request
abbrev pub printed : Pace → List ScriptRequest → Machine → Printed
printed pace [] m = silent m
printed pace (request ∷ script) m = then_printed (printed_by pace request m) (λ after. printed pace script after)
