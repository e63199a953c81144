-- A text for a channel that has records open: what becomes of the record of its place.
use Rattle.std.specs.Prelude.{ℕ, ◌+◌, ◌≤◌, ◌≡◌, ◌⊎◌, Bool, true, List, Option, Some, None}
use Rattle.cbm_medium.specs.Seen.{Seen}
use Rattle.cbm_medium.specs.declared.fault.Trouble.{Trouble}
use Rattle.cbm_file.specs.Files.{File, Disk, Records, file_at}
use Rattle.cbm_file.specs.Records.{blocks_for, sides_for, record_at}
use Rattle.cbm_medium.specs.Content.{Content}
use Rattle.cbm_volume.specs.Growth.{filled_up, with_growth, IsTooLarge, IsGrowthCut}
use Rattle.cbm_volume.specs.Holding.{HoldsDisk}
use Rattle.cbm_volume.specs.RecordWrites.{HasRecordsOpen, IsRecordPut, IsRecordCut}
use Rattle.cbm_volume.specs.Writers.{Use}
use Rattle.cbm_channel.specs.Placed.{Placed, IsOnRecord, IsPlacedAt}

-- A channel has these records open, and its place is a byte of one of them, or of one that could follow.
pub record CanPut (medium : ℕ) (c : Content) (d : Disk) (uses : ℕ → Use) (r : Placed) (b s : ℕ) (rs : List (List ℕ)) : Type 0 where
  pub has : HasRecordsOpen medium c d uses r.slot r.width b s rs
  pub closed : has.file.closed ≡ true
  pub number : 1 ≤ r.number
  pub first : 1 ≤ r.position
  pub inside : r.position ≤ r.width

-- the record of the place isn't there, but can be
pub record CanGrow (d : Disk) (r : Placed) (b s : ℕ) (rs : List (List ℕ)) : Type 0 where
  pub missing : record_at (Records r.width rs b s) r.number ≡ None
  pub room : IsTooLarge d r.width b s r.number → ⊥

-- the disk after the growth, and the blocks, side sectors and records of the file then
abbrev pub disk_grown : Disk → Placed → ℕ → ℕ → List (List ℕ) → Disk
disk_grown d r b s rs = with_growth d r.slot r.width b s rs r.number

abbrev pub blocks_grown : Placed → ℕ → ℕ
blocks_grown r b = blocks_for r.width b r.number

abbrev pub sides_grown : Placed → ℕ → ℕ → ℕ
sides_grown r b s = sides_for s (blocks_grown r b)

abbrev pub records_grown : Placed → ℕ → List (List ℕ) → List (List ℕ)
records_grown r b rs = filled_up r.width (blocks_grown r b) rs

-- THE TEXT WAS STORED in the record of the place, which was there or was made; `cut` says that some bytes didn't fit. Or the record
-- isn't there and can't be: nothing has changed.
abbrev pub IsTextStored : ℕ → Content → Content → Disk → (ℕ → Use) → Placed → ℕ → ℕ → List (List ℕ) → List ℕ → Option Bool → Type 0
IsTextStored medium c c' d uses r b s rs bytes None = (record_at (Records r.width rs b s) r.number ≡ None) × IsTooLarge d r.width b s r.number × (c' ≡ c)
IsTextStored medium c c' d uses r b s rs bytes (Some cut) =
    IsRecordPut medium c c' d uses r.slot r.width b s rs r.number r.position bytes (Some cut)
    ⊎ (CanGrow d r b s rs × IsRecordPut medium c c' (disk_grown d r b s rs) uses r.slot r.width (blocks_grown r b) (sides_grown r b s) (records_grown r b rs) r.number r.position bytes (Some cut))

-- IT WAS REFUSED: the record has a beginning of its new bytes, or none; or the growth before it was refused.
abbrev pub IsTextCut : Seen → Seen → Disk → (ℕ → Use) → Placed → ℕ → ℕ → List (List ℕ) → List ℕ → Trouble → Type 0
IsTextCut old new d uses r b s rs bytes t =
    IsRecordCut old new d uses r.slot r.width b s rs r.number r.position bytes t
    ⊎ (CanGrow d r b s rs × (IsGrowthCut old new d uses r.slot r.width rs t
    ⊎ IsRecordCut old new (disk_grown d r b s rs) uses r.slot r.width (blocks_grown r b) (sides_grown r b s) (records_grown r b rs) r.number r.position bytes t))

-- this holds of each disk that the medium holds, where the slot has a closed file of records of this length
abbrev pub OfClosedRecords : Seen → ℕ → ℕ → (Disk → Type 0) → Type 0
OfClosedRecords now slot width P = (d : Disk) (f : File) (b s : ℕ) (rs : List (List ℕ)) → HoldsDisk now.tracks now.content d → file_at d slot ≡ Some f → f.closed ≡ true → f.body ≡ Records width rs b s → P d

-- what waits at the place is what its file has there, on each disk that the medium holds
abbrev pub IsReadAnew : Seen → Placed → Type 0
IsReadAnew now q = OfClosedRecords now q.slot q.width (λ d. IsOnRecord d q)

-- what became of a text: after one that was stored the place is the next record's first byte
abbrev pub IsTextEnded : Seen → Seen → Disk → (ℕ → Use) → Placed → Placed → ℕ → ℕ → List (List ℕ) → List ℕ → Option Bool → Type 0
IsTextEnded old new d uses r q b s rs bytes None = IsTextStored old.tracks old.content new.content d uses r b s rs bytes None × (q ≡ r)
IsTextEnded old new d uses r q b s rs bytes (Some cut) =
    IsTextStored old.tracks old.content new.content d uses r b s rs bytes (Some cut) × (IsPlacedAt r q (r.number + 1) 1 × IsReadAnew new q)

-- after one that was refused the place stays
abbrev pub IsTextStopped : Seen → Seen → Disk → (ℕ → Use) → Placed → Placed → ℕ → ℕ → List (List ℕ) → List ℕ → Trouble → Type 0
IsTextStopped old new d uses r q b s rs bytes t = IsTextCut old new d uses r b s rs bytes t × (IsPlacedAt r q r.number r.position × IsReadAnew new q)
