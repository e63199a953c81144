-- The records of a relative file: what one holds, how a file grows, and what a write of one does.
use Rattle.std.specs.Prelude.{ℕ, ◌+◌, ◌-◌, nat_lt, ◌||◌, List, [], ◌∷◌, ◌++◌, length, replicate, slice_index_or, slice_set, if◌then◌else◌, is_some, Ok, Result}
use Rattle.cbm_file.specs.Files.{Bytes, Records}
use Rattle.cbm_command.specs.Refusals.{◌>>=◌, unless}
use Rattle.cbm_machine.specs.declared.code.Code.{Code}
use Rattle.cbm_machine.specs.declared.code.Code.TheVariants.{WriteProtected, RecordOverflow, FileTooLarge}
use Rattle.cbm_machine.specs.Machines.{Channel, Relative, Machine, with_disk, with_channel, say, answered}
use Rattle.cbm_file.specs.Records.{fresh_record, record_count, record_at, with_bytes, blocks_for, sides_for, with_body, with_sized_body}
use Rattle.cbm_machine.specs.Finding.{body_at}

-- The record is there: the bytes are written, and the place is the next record's first byte. Bytes that did not fit are reported.
abbrev pub with_written_record : ℕ → ℕ → ℕ → ℕ → List ℕ → Machine → Machine
with_written_record ch s k p bytes m = elim (body_at m.disk s) [
  | Bytes _ ↦ m
  | Records l rs b sides ↦
      (let next = with_channel ch (Relative s (k + 1) 1) (with_disk (with_body m.disk s
      (Records l (slice_set rs (k - 1) (with_bytes l (slice_index_or rs (k - 1) []) p bytes)) b sides)) m) in
      if nat_lt (l + 1 - p) (length bytes) then say RecordOverflow next else next)
]

-- the file with record k and all whole records of its last block
abbrev pub grown_to : ℕ → ℕ → Machine → Result Machine Code
grown_to s k m = elim (body_at m.disk s) [
  | Bytes _ ↦ Ok m
  | Records l rs b sides ↦
      (let blocks = blocks_for l b k in
      let sectors = sides_for sides blocks in
      let more = (blocks - b) + (sectors - sides) in
      unless ((nat_lt m.disk.free more || nat_lt 720 blocks || nat_lt 65535 k, FileTooLarge) ∷ (m.protected, WriteProtected) ∷ [])
      (Ok (with_disk (record (with_sized_body m.disk s (blocks + sectors)
      (Records l (rs ++ replicate (record_count l blocks - length rs) (fresh_record l)) blocks sectors)) { free = m.disk.free - more }) m)))
]

-- A text for a relative channel is one write. A record that isn't there is made first; a refusal leaves the place too.
abbrev pub write_record : ℕ → Channel → List ℕ → Machine → Machine
write_record ch (Relative s k p) bytes m = answered m (
    (if is_some (record_at (body_at m.disk s) k) then unless ((m.protected, WriteProtected) ∷ []) (Ok m) else grown_to s k m)
    >>= λ n. Ok (with_written_record ch s k p bytes n))
write_record ch c bytes m = m
