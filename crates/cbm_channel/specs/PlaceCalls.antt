-- What the calls at a place of a relative file leave.
use Rattle.std.specs.Prelude.{ℕ, ◌≡◌, ◌==◌, Bool, false, List, Option, Some, None, Result, option_map, slice_get, IfOk, IfSome, IsOk, IsOkAnd, MatchBool, MatchResult}
use Rattle.arrayvec.specs.ArrayVec.{ArrayVec}
use Rattle.cbm_medium.specs.Seen.{Seen}
use Rattle.cbm_medium.specs.declared.fault.Trouble.{Trouble}
use Rattle.cbm_file.specs.Files.{Disk, File, Records, file_at}
use Rattle.cbm_volume.specs.Calls.{KeepsProtected, IsSameOn}
use Rattle.cbm_volume.specs.Growth.{IsTooLarge, IsGrowthCut}
use Rattle.cbm_volume.specs.Holding.{HoldsDisk}
use Rattle.cbm_volume.specs.RecordWrites.{OfRecords}
use Rattle.cbm_volume.specs.Writers.{HoldsNow}
use Rattle.cbm_machine.specs.Machines.{Relative}
use Rattle.cbm_file.specs.Records.{record_at}
use Rattle.cbm_machine.specs.Talking.{taken_on}
use Rattle.cbm_channel.specs.declared.channel.Channel.{Channel}
use Rattle.cbm_channel.specs.declared.channel.Channel.TheVariants as code
use Rattle.cbm_channel.specs.declared.on_record.Waiting.{Waiting}
use Rattle.cbm_channel.specs.ChannelCalls.{KeepsElse, KeepsRest, OfPlaced}
use Rattle.cbm_channel.specs.Placed.{Placed, Waits, IsOnRecord}
use Rattle.cbm_channel.specs.Recorded.{CanGrow, disk_grown, IsTextStored, IsTextCut, IsTextEnded, IsTextStopped, OfClosedRecords}

-- ---- reading

-- A RECORD IS READ: on each disk that the medium holds it is the one that the slot's file has under this number, or none where there is none.
abbrev pub ReadsRecord : Seen → ℕ → ℕ → Result Waiting Trouble → Type 0
ReadsRecord now slot number result =
    (d : Disk) (f : File) (w b s : ℕ) (rs : List (List ℕ)) → HoldsDisk now.tracks now.content d → file_at d slot ≡ Some f → f.body ≡ Records w rs b s → IsOkAnd result (Waits (record_at (Records w rs b s) number))

-- THE RECORD OF A NEW PLACE IS READ: on each disk that the medium holds, where the slot has its file, it waits.
abbrev pub ReachesRecord : Seen → Placed → Placed → Result (Unit {0}) Trouble → Type 0
ReachesRecord now old new result = OfClosedRecords now old.slot old.width (λ d. IsOk result × IsOnRecord d new)

-- the record of this number, which counts from 1, was read: the file has this one there, or none
abbrev pub WasRead : Seen → ℕ → ℕ → Result (Option (ArrayVec ℕ)) Trouble → Type 0
WasRead now slot number next = OfRecords now slot (λ found. IsOkAnd next (λ x. option_map (λ y. y.items) x ≡ slice_get found number))

-- A BYTE IS TAKEN of the record that waits: on each disk that the medium holds the place goes on as the machine's does, and its record waits.
abbrev pub TakesRecordByte : Seen → Placed → Placed → Result (Unit {0}) Trouble → Type 0
TakesRecordByte now old new result = (d : Disk) → HoldsDisk now.tracks now.content d →
    IsOnRecord d old → IsOk result × (IsOnRecord d new × (Relative new.slot new.number new.position ≡ taken_on d (Relative old.slot old.number old.position)))

-- ---- writing

-- the file grows until the record of the place is there, or it would be too large; or the growth was refused
abbrev pub GrowsToPlace : Seen → Seen → Placed → Result Bool Trouble → Type 0
GrowsToPlace old new r result = OfPlaced old r (λ d uses b s rs. record_at (Records r.width rs b s) r.number ≡ None
    → MatchResult result (λ done. MatchBool done (HoldsNow old.tracks new.content (disk_grown d r b s rs) uses × CanGrow d r b s rs) (IsTooLarge d r.width b s r.number × (new.content ≡ old.content)))
    (λ t. IsGrowthCut old new d uses r.slot r.width rs t × CanGrow d r b s rs))

-- a text is stored in the record of the place, which is made where it isn't there, and the answer tells whether some bytes didn't fit; or
-- that was refused
abbrev pub StoresText : {A : Type 0} → Result (Option A) Trouble → (A → Bool) → Seen → Seen → Placed → List ℕ → Type 0
StoresText result cut old new r bytes = OfPlaced old r (λ d uses b s rs. MatchResult result
    (λ o. IsTextStored old.tracks old.content new.content d uses r b s rs bytes (option_map cut o))
    (IsTextCut old new d uses r b s rs bytes))

-- where it was stored, the next record was read with it
abbrev pub ReadsAfter : {A : Type 0} → Result (Option A) Trouble → (A → Result (Option (ArrayVec ℕ)) Trouble) → Seen → Seen → Placed → Type 0
ReadsAfter result next old new r = OfPlaced old r (λ d uses b s rs. IfOk result (λ o. IfSome o (λ x. WasRead new r.slot r.number (next x))))

-- a text is stored, and the place goes to the next record; or it was refused, and the place stays
abbrev pub EndsText : Result (Option Bool) Trouble → Seen → Seen → Placed → Placed → List ℕ → Type 0
EndsText result old new r q bytes = OfPlaced old r (λ d uses b s rs. MatchResult result (IsTextEnded old new d uses r q b s rs bytes) (IsTextStopped old new d uses r q b s rs bytes))

-- where a text can be put to the place, the rest of the disk stays but for the slot of its file
abbrev pub KeepsRestPlaced : Seen → Seen → Placed → Type 0
KeepsRestPlaced old new r = OfPlaced old r (λ d uses b s rs. KeepsRest old new (λ n. r.slot == n))

-- where bytes were stored, some that didn't fit or all, the disk isn't protected
abbrev pub StoresUnprotected : Result (Option Bool) Trouble → Seen → Type 0
StoresUnprotected result old = IfOk result (λ o. IfSome o (λ cut. old.protected ≡ false))

-- WHAT A CALL THAT WRITES RECORDS LEAVES on any content: this answer says that nothing has changed, a protected medium stays as it is, and
-- it keeps what each call of several on the medium keeps.
pub record IsRecordsCall {A : Type 0} (result : Result A Trouble) (answer : A) (old new : Seen) : Type 0 where
  pub kept : IsSameOn result answer old new
  pub guarded : KeepsProtected old new
  pub medium : KeepsElse result old new

-- ---- by the channel

-- a text is put to the records that a channel has open
abbrev pub PutsText : Seen → Seen → Channel → Channel → List ℕ → Result (Option Bool) Trouble → Type 0
PutsText old new x x' bytes result = (r : Placed) → x ≡ code.Records r → OfPlaced old r (λ d uses b s rs.
    (q : Placed) × (x' ≡ code.Records q) × MatchResult result (IsTextEnded old new d uses r q b s rs bytes) (IsTextStopped old new d uses r q b s rs bytes))

-- where a text can be put to them, the rest of the disk stays but for the slot of their file
abbrev pub KeepsRestRecords : Seen → Seen → Channel → Type 0
KeepsRestRecords old new x = (r : Placed) → x ≡ code.Records r → KeepsRestPlaced old new r
