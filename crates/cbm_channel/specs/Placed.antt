-- A relative file that is open: where it stands, and what waits there.
use Rattle.std.specs.Prelude.{ℕ, ◌+◌, ◌≡◌, ◌==◌, MatchBool, Bool, true, false, List, drop, Option, Some, None, Result, Ok, Err}
use Rattle.std.specs.List.{list_all}
use Rattle.cbm_medium.specs.declared.fault.Trouble.{Trouble}
use Rattle.cbm_file.specs.Files.{File, Disk, Records, file_at}
use Rattle.cbm_file.specs.Records.{record_at}
use Rattle.cbm_machine.specs.Talking.{next_of_record}
use Rattle.cbm_channel.specs.declared.on_record.Waiting.{Waiting}
use Rattle.cbm_channel.specs.declared.on_record.Waiting.TheVariants as waits

-- The slot of the file, the length of its records, the place, which is a record and a byte of it, both counted from 1, and what was
-- read there.
pub record Placed : Type 0 where
  pub slot : ℕ
  pub width : ℕ
  pub number : ℕ
  pub position : ℕ
  pub waiting : Waiting

-- the record that waits, if it is there
abbrev pub record_of : Waiting → Option (List ℕ)
record_of (waits.Record r) = Some r.items
record_of waits.Absent = None
record_of waits.Broken = None

-- it could not be read
abbrev pub is_broken : Waiting → Bool
is_broken (waits.Record r) = false
is_broken waits.Absent = false
is_broken waits.Broken = true

-- it isn't there
abbrev pub is_absent : Waiting → Bool
is_absent (waits.Record r) = false
is_absent waits.Absent = true
is_absent waits.Broken = false

-- the byte that waits at a position, and whether it is the last; nothing where the record could not be read
abbrev pub shown_at : Waiting → ℕ → Option (ℕ × Bool)
shown_at (waits.Record r) position = next_of_record (Some r.items) position
shown_at waits.Absent position = next_of_record None position
shown_at waits.Broken position = None

-- only zeros stand after the position
abbrev pub is_last_filled : List ℕ → ℕ → Bool
is_last_filled bytes position = list_all (λ c. c == 0) (drop position bytes)

-- this record waits, or none where there is none, as it was read
pub record Waits (there : Option (List ℕ)) (waiting : Waiting) : Type 0 where
  pub same : record_of waiting ≡ there
  pub whole : is_broken waiting ≡ false

-- The slot has a closed file of records of this length, and what waits is the record of the place.
pub record IsOnRecord (d : Disk) (r : Placed) : Type 0 where
  pub file : File
  pub in_slot : file_at d r.slot ≡ Some file
  pub closed : file.closed ≡ true
  pub records : List (List ℕ)
  pub blocks : ℕ
  pub sides : ℕ
  pub body : file.body ≡ Records r.width records blocks sides
  pub waits : Waits (record_at (Records r.width records blocks sides) r.number) r.waiting

-- the same file at another place
pub record IsPlacedAt (old new : Placed) (number position : ℕ) : Type 0 where
  pub same_slot : new.slot ≡ old.slot
  pub same_width : new.width ≡ old.width
  pub at_number : new.number ≡ number
  pub at_position : new.position ≡ position

-- A byte was taken of what waits: nothing happens where no record does; the position goes up within the record, and after its last
-- byte the next record's first byte is the place, which may not be read.
abbrev pub IsMoved : Waiting → Placed → Placed → Result (Unit {0}) Trouble → Type 0
IsMoved (waits.Record r) old new (Ok _) =
    MatchBool (is_last_filled r.items old.position) (IsPlacedAt old new (old.number + 1) 1 × (is_broken new.waiting ≡ false)) (new ≡ record old { position = old.position + 1 })
IsMoved (waits.Record r) old new (Err t) = (is_last_filled r.items old.position ≡ true) × IsPlacedAt old new (old.number + 1) 1 × (new.waiting ≡ waits.Broken)
IsMoved waits.Absent old new (Ok _) = new ≡ old
IsMoved waits.Absent old new (Err t) = ⊥
IsMoved waits.Broken old new (Ok _) = new ≡ old
IsMoved waits.Broken old new (Err t) = ⊥
