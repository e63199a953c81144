-- What channel 15 reports of the status.
use Rattle.std.specs.Prelude.{ℕ, ◌+◌, ◌==◌, ◌&&◌, nat_le, nat_lt, Bool, length, drop, if◌then◌else◌, Option}
use Rattle.cbm_machine.specs.declared.code.Code.TheVariants.{Fine}
use Rattle.cbm_machine.specs.declared.status.Status.{Status}
use Rattle.cbm_machine.specs.Statuses.{plain, status_line}
use Rattle.cbm_machine.specs.Codes.{code_number}
use Rattle.cbm_machine.specs.Machines.{Machine}
use Rattle.cbm_file.specs.Waiting.{next_shown}

-- a status, and how many bytes of its line were taken
pub record ToldStatus : Type 0 where
  pub status : Status
  pub told : ℕ

-- the next byte of the line, and whether it is the last
abbrev pub next_told : ToldStatus → Option (ℕ × Bool)
next_told t = next_shown (drop t.told (status_line t.status))

-- A byte was taken; after the last one the status is 00, reported from its beginning.
abbrev pub after_the_next : ToldStatus → ToldStatus
after_the_next t =
    if nat_lt (t.told + 1) (length (status_line t.status)) then record t { told = t.told + 1 }
    else record { status = plain Fine; told = 0 }

-- an error (20 or above) of which no byte was taken yet
abbrev pub is_unread_error : ToldStatus → Bool
is_unread_error t = (t.told == 0) && nat_le 20 (code_number t.status.code)

-- what a machine reports on channel 15
abbrev pub told_by : Machine → ToldStatus
told_by m = record { status = m.status; told = m.told }
