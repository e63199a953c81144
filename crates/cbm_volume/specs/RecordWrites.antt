-- A record of a relative file is written.
use Rattle.std.specs.Prelude.{ℕ, ◌+◌, ◌-◌, ◌≡◌, ◌≤◌, nat_lt, Bool, true, List, [], ◌++◌, length, take, drop, slice_index_or, slice_set, slice_get, Option, Some, None, is_some, option_map, Result, MatchResult, IfOk, IfSome, IsOkAnd}
use Rattle.cbm_medium.specs.Content.{Content}
use Rattle.cbm_medium.specs.Seen.{Seen}
use Rattle.cbm_medium.specs.declared.fault.Trouble.{Trouble}
use Rattle.cbm_file.specs.Files.{Disk, File, Records, file_at}
use Rattle.cbm_file.specs.Records.{with_bytes, with_body, record_at}
use Rattle.cbm_relfile.specs.declared.changing.WrittenRecord.{WrittenRecord}
use Rattle.cbm_volume.specs.Calls.{LeavesOthers}
use Rattle.cbm_volume.specs.Writers.{Use, Relates, HoldsNow}
use Rattle.cbm_volume.specs.Holding.{HoldsDisk}
use Rattle.cbm_volume.specs.Opens.{IsHindered}

-- A CHANNEL HAS THE RECORDS OF A SLOT OPEN: the medium holds the disk, and the slot's file has these records of this length, in this many
-- blocks with this many side sectors.
pub record HasRecordsOpen (medium : ℕ) (c : Content) (d : Disk) (uses : ℕ → Use) (n w b s : ℕ) (rs : List (List ℕ)) : Type 0 where
  pub holds : HoldsNow medium c d uses
  pub channel : ℕ
  pub relates : uses channel ≡ Relates n
  pub file : File
  pub in_slot : file_at d n ≡ Some file
  pub body : file.body ≡ Records w rs b s

-- THIS HOLDS of the records in a slot, on each disk that the medium holds.
abbrev pub OfRecords : Seen → ℕ → (List (List ℕ) → Type 0) → Type 0
OfRecords now n P =
    (d : Disk) (f : File) (w b s : ℕ) (rs : List (List ℕ)) → HoldsDisk now.tracks now.content d → file_at d n ≡ Some f → f.body ≡ Records w rs b s → P rs

-- record k, which counts from 1, with these bytes from position p on
abbrev pub new_record : ℕ → List (List ℕ) → ℕ → ℕ → List ℕ → List ℕ
new_record w rs k p bytes = with_bytes w (slice_index_or rs (k - 1) []) p bytes

-- the disk whose slot has these bytes as its record k
abbrev pub with_record : Disk → ℕ → ℕ → List (List ℕ) → ℕ → ℕ → ℕ → List ℕ → Disk
with_record d n w rs b s k bytes = with_body d n (Records w (slice_set rs (k - 1) bytes) b s)

-- THE RECORD IS WRITTEN where it is there, and `cut` says that some bytes didn't fit; else nothing has changed.
abbrev pub IsRecordPut : ℕ → Content → Content → Disk → (ℕ → Use) → ℕ → ℕ → ℕ → ℕ → List (List ℕ) → ℕ → ℕ → List ℕ → Option Bool → Type 0
IsRecordPut medium c c' d uses n w b s rs k p bytes None = (record_at (Records w rs b s) k ≡ None) × (c' ≡ c)
IsRecordPut medium c c' d uses n w b s rs k p bytes (Some cut) =
    (is_some (record_at (Records w rs b s) k) ≡ true) × (cut ≡ nat_lt (w + 1 - p) (length bytes))
    × HoldsNow medium c' (with_record d n w rs b s k (new_record w rs k p bytes)) uses

-- A WRITE OF A RECORD WAS REFUSED: it has a beginning of its new bytes, or none; all else is as it was.
pub record IsRecordCut (old new : Seen) (d : Disk) (uses : ℕ → Use) (n w b s : ℕ) (rs : List (List ℕ)) (k p : ℕ) (bytes : List ℕ) (t : Trouble) : Type 0 where
  pub there : is_some (record_at (Records w rs b s) k) ≡ true
  pub so_far : ℕ
  pub holds : HoldsNow old.tracks new.content (with_record d n w rs b s k (take so_far (new_record w rs k p bytes) ++ drop so_far (slice_index_or rs (k - 1) []))) uses
  pub cause : IsHindered old new t

-- THIS HOLDS of each disk that the medium holds, where a channel has the records of this slot open.
abbrev pub OfOpen : (now : Seen) (n : ℕ) → ((d : Disk) (uses : ℕ → Use) (w b s : ℕ) (rs : List (List ℕ)) → HasRecordsOpen now.tracks now.content d uses n w b s rs → Type 0) → Type 0
OfOpen now n P = (d : Disk) (uses : ℕ → Use) (w b s : ℕ) (rs : List (List ℕ)) (o : HasRecordsOpen now.tracks now.content d uses n w b s rs) → P d uses w b s rs o

-- WHAT THE WRITE OF A RECORD LEAVES of the disk where a channel has the slot's records open: the record is written, not there, or cut
-- off; the next record is what reading it would answer now; and each other closed file stays in place, its sectors as they were.
pub record IsRecordCall (result : Result (Option WrittenRecord) Trouble) (old new : Seen) (d : Disk) (uses : ℕ → Use) (n w b s : ℕ) (rs : List (List ℕ)) (k p : ℕ) (bytes : List ℕ) : Type 0 where
  pub put : MatchResult result (λ o. IsRecordPut old.tracks old.content new.content d uses n w b s rs k p bytes (option_map (λ r. r.cut) o)) (IsRecordCut old new d uses n w b s rs k p bytes)
  pub next : IfOk result (λ o. IfSome o (λ r. OfRecords new n (λ found. IsOkAnd r.next (λ x. option_map (λ y. y.items) x ≡ slice_get found k))))
  pub untouched : LeavesOthers old new n

-- so of each disk, from each position in the record
abbrev pub PutsRecord : Result (Option WrittenRecord) Trouble → Seen → Seen → ℕ → ℕ → ℕ → List ℕ → Type 0
PutsRecord result old new n k p bytes = OfOpen old n (λ d uses w b s rs o. p ≤ w → IsRecordCall result old new d uses n w b s rs k p bytes)
