-- P on a channel from 0 to 14: where its place is then, and what is reported.
use Rattle.std.specs.Prelude.{ℕ, nat_lt, if◌then◌else◌, is_some}
use Rattle.cbm_file.specs.Files.{Disk, record_length_in}
use Rattle.cbm_machine.specs.declared.code.Code.{Code}
use Rattle.cbm_machine.specs.declared.code.Code.TheVariants.{Fine, NoRecord, RecordOverflow, WrongType, NoChannel}
use Rattle.cbm_machine.specs.Machines.{Channel, Closed, Reading, Writing, Stopped, Relative}
use Rattle.cbm_machine.specs.Finding.{body_at}
use Rattle.cbm_file.specs.Records.{record_at}

-- what is reported
abbrev pub code_placed : ℕ → ℕ → Disk → Channel → Code
code_placed k p d Closed = NoChannel
code_placed k p d (Reading s left) = WrongType
code_placed k p d (Writing s bytes blocks full replaces) = WrongType
code_placed k p d (Stopped s) = WrongType
code_placed k p d (Relative s number position) =
    if nat_lt (record_length_in (body_at d s)) p then RecordOverflow else if is_some (record_at (body_at d s) k) then Fine else NoRecord

-- the channel
abbrev pub placed_on : ℕ → ℕ → Disk → Channel → Channel
placed_on k p d Closed = Closed
placed_on k p d (Reading s left) = Reading s left
placed_on k p d (Writing s bytes blocks full replaces) = Writing s bytes blocks full replaces
placed_on k p d (Stopped s) = Stopped s
placed_on k p d (Relative s number position) = if nat_lt (record_length_in (body_at d s)) p then Relative s number position else Relative s k p
