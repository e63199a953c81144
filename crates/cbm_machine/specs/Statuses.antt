-- The status and its line.
use Rattle.std.specs.Prelude.{ℕ, ◌≡◌, ◌==◌, ◌+◌, ◌/◌, ◌%◌, min, List, [], ◌∷◌, ◌++◌, if◌then◌else◌}
use Rattle.cbm_medium.specs.declared.fault.Trouble.{Trouble}
use Rattle.cbm_machine.specs.declared.code.Code.{Code}
use Rattle.cbm_machine.specs.declared.code.Code.TheVariants.{WriteProtected}
use Rattle.cbm_machine.specs.declared.status.Status.{Status}
use Rattle.cbm_machine.specs.Codes.{code_number, code_text, code_of_fault}

-- a status whose two numbers are 0
abbrev pub plain : Code → Status
plain code = record { code = code; first = 0; second = 0 }

-- a number as two digits; more than 99 is shown as 99
abbrev pub two_digits : ℕ → List ℕ
two_digits n = (48 + min n 99 / 10) ∷ (48 + min n 99 % 10) ∷ []

-- what stands between the parts of a line
abbrev pub status_comma : ℕ
status_comma = 44

-- what ends a line
abbrev pub return : ℕ
return = 13

-- what channel 15 reports: the code, the text, two numbers and a return
abbrev pub status_line : Status → List ℕ
status_line s =
    two_digits (code_number s.code) ++ status_comma ∷ code_text s.code
    ++ status_comma ∷ two_digits s.first ++ status_comma ∷ two_digits s.second ++ return ∷ []

-- What a disk answers in place of bytes: the fault, its track and its sector. A protected disk is reported with 0 and 0.
abbrev pub trouble_status : Trouble → Status
trouble_status t =
    if t.code == 26 then plain WriteProtected else record { code = code_of_fault t.code; first = t.track; second = t.sector }

-- the status that represents a trouble
abbrev pub trouble_gives : Trouble → Status → Type 0
trouble_gives t s = s ≡ trouble_status t
