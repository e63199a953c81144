-- What a channel has to say, and the calls before bytes.
use Rattle.std.specs.Prelude.{ℕ, ◌+◌, ◌-◌, ◌==◌, nat_lt, Bool, true, List, length, drop, slice_index_or, if◌then◌else◌, Option, Some, None, is_some}
use Rattle.std.specs.List.{list_all}
use Rattle.cbm_file.specs.Files.{Disk}
use Rattle.cbm_file.specs.Waiting.{next_shown}
use Rattle.cbm_machine.specs.declared.code.Code.{Code}
use Rattle.cbm_machine.specs.declared.code.Code.TheVariants.{Fine, NoRecord, FileNotOpen}
use Rattle.cbm_machine.specs.Told.{is_unread_error, told_by}
use Rattle.cbm_machine.specs.Statuses.{return, status_line}
use Rattle.cbm_machine.specs.Machines.{Channel, Closed, Reading, Writing, Stopped, Relative, Machine, say, channel, with_channel}
use Rattle.cbm_machine.specs.Finding.{body_at}
use Rattle.cbm_file.specs.Records.{record_at}

-- of a record the next byte, which is the last where only zeros follow; of no record a return
abbrev pub next_of_record : Option (List ℕ) → ℕ → Option (ℕ × Bool)
next_of_record None p = Some (return, true)
next_of_record (Some bytes) p = Some (slice_index_or bytes (p - 1) 0, list_all (λ c. c == 0) (drop p bytes))

-- the next byte of a channel from 0 to 14
abbrev pub peek_on : Disk → Channel → Option (ℕ × Bool)
peek_on d Closed = None
peek_on d (Writing s bytes blocks full replaces) = None
peek_on d (Stopped s) = None
peek_on d (Reading s left) = next_shown left
peek_on d (Relative s k p) = next_of_record (record_at (body_at d s) k) p

-- the next byte that a channel has to say, and whether it is the last
abbrev pub peek : ℕ → Machine → Option (ℕ × Bool)
peek ch m = if ch == 15 then next_shown (drop m.told (status_line m.status)) else peek_on m.disk (channel m ch)

-- the place after the byte at a place was taken; a record that isn't there leaves it
abbrev pub taken_on : Disk → Channel → Channel
taken_on d (Reading s left) = Reading s (drop 1 left)
taken_on d (Relative s k p) = elim (record_at (body_at d s) k) [
  | None ↦ Relative s k p
  | Some bytes ↦ if list_all (λ c. c == 0) (drop p bytes) then Relative s (k + 1) 1 else Relative s k (p + 1)
]
taken_on d Closed = Closed
taken_on d (Writing s bytes blocks full replaces) = Writing s bytes blocks full replaces
taken_on d (Stopped s) = Stopped s

-- The byte that `peek` shows was taken. After the last one of a status the status is 00.
abbrev pub taken : ℕ → Machine → Machine
taken ch m =
    if ch == 15
    then (if nat_lt (m.told + 1) (length (status_line m.status)) then record m { told = m.told + 1 } else say Fine m)
    else with_channel ch (taken_on m.disk (channel m ch)) m

-- a refusal is reported, if there is one
abbrev pub only_refused : Option Code → Machine → Machine
only_refused None m = m
only_refused (Some code) m = say code m

-- what a channel that is asked to talk refuses
abbrev pub talk_refusal : Disk → Channel → Option Code
talk_refusal d Closed = Some FileNotOpen
talk_refusal d (Writing s bytes blocks full replaces) = Some FileNotOpen
talk_refusal d (Stopped s) = Some FileNotOpen
talk_refusal d (Reading s left) = None
talk_refusal d (Relative s k p) = if is_some (record_at (body_at d s) k) then None else Some NoRecord

-- a channel is asked to talk
abbrev pub after_talk : ℕ → Machine → Machine
after_talk ch m = if ch == 15 then m else only_refused (talk_refusal m.disk (channel m ch)) m

-- The same of a computer that asks for a file's bytes though its OPEN was refused: an error that nobody has begun to read stays.
abbrev pub talk_keeping_error : ℕ → Machine → Machine
talk_keeping_error ch m = if is_unread_error (told_by m) then m else after_talk ch m

-- what a channel that is asked to listen refuses
abbrev pub listen_refusal : Channel → Option Code
listen_refusal Closed = Some FileNotOpen
listen_refusal (Reading s left) = Some FileNotOpen
listen_refusal (Writing s bytes blocks full replaces) = None
listen_refusal (Stopped s) = None
listen_refusal (Relative s k p) = None

-- a channel is asked to listen
abbrev pub after_listen : ℕ → Machine → Machine
after_listen ch m = if ch == 15 then m else only_refused (listen_refusal (channel m ch)) m

-- The same of a computer that sends a file's bytes though its OPEN was refused: an error that nobody has begun to read stays.
abbrev pub listen_keeping_error : ℕ → Machine → Machine
listen_keeping_error ch m = if is_unread_error (told_by m) then m else after_listen ch m
