-- A relative file grows until a record is there: blocks of fresh records, and side sectors that list them.
use Rattle.std.specs.Prelude.{ℕ, ◌+◌, ◌-◌, ◌≡◌, nat_lt, ◌||◌, Bool, true, false, List, ◌++◌, length, replicate, Some, Result, IfOk, IfErr, IsOkAnd, MatchBool}
use Rattle.cbm_medium.specs.Seen.{Seen}
use Rattle.cbm_medium.specs.declared.fault.Trouble.{Trouble}
use Rattle.cbm_file.specs.Files.{Disk, File, Records, file_at, with_slot}
use Rattle.cbm_file.specs.Records.{fresh_record, record_count, blocks_for, sides_for, with_sized_body}
use Rattle.cbm_volume.specs.Calls.{LeavesOthers}
use Rattle.cbm_volume.specs.Writers.{Use, HoldsNow}
use Rattle.cbm_volume.specs.Opens.{IsHindered}

-- these records, and fresh ones up to the end of this many data blocks
abbrev pub filled_up : ℕ → ℕ → List (List ℕ) → List (List ℕ)
filled_up w b rs = rs ++ replicate (record_count w b - length rs) (fresh_record w)

-- the blocks that a file of b data blocks and s side sectors takes more, so that record k is there
abbrev pub more_blocks : ℕ → ℕ → ℕ → ℕ → ℕ
more_blocks w b s k =
    let blocks = blocks_for w b k in
    (blocks - b) + (sides_for s blocks - s)

-- THE DISK AFTER A GROWTH: the slot's file has record k and all whole records of its last block, and its entry says how many blocks it
-- has.
abbrev pub with_growth : Disk → ℕ → ℕ → ℕ → ℕ → List (List ℕ) → ℕ → Disk
with_growth d n w b s rs k =
    let blocks = blocks_for w b k in
    let sectors = sides_for s blocks in
    record (with_sized_body d n (blocks + sectors) (Records w (filled_up w blocks rs) blocks sectors)) { free = d.free - more_blocks w b s k }

-- too few blocks are free, six side sectors can't list as many, or a place can't have that number
abbrev pub IsTooLarge : Disk → ℕ → ℕ → ℕ → ℕ → Type 0
IsTooLarge d w b s k = (nat_lt d.free (more_blocks w b s k) || nat_lt 720 (blocks_for w b k) || nat_lt 65535 k) ≡ true

-- A GROWTH WAS REFUSED: the slot's file has its records and perhaps fresh ones after them; its entry may still have the old number of
-- blocks, and blocks that were claimed last may be nobody's. All else is as it was.
pub record IsGrowthCut (old new : Seen) (d : Disk) (uses : ℕ → Use) (n w : ℕ) (rs : List (List ℕ)) (t : Trouble) : Type 0 where
  pub file : File
  pub in_slot : file_at d n ≡ Some file
  pub so_far : ℕ
  pub blocks : ℕ
  pub sides : ℕ
  pub shown : ℕ
  pub free : ℕ
  pub holds : HoldsNow old.tracks new.content (record (with_slot d n (Some (record file {
    shown = shown;
    held = blocks + sides;
    body = Records w (rs ++ replicate so_far (fresh_record w)) blocks sides;
  }))) { free = free }) uses
  pub cause : IsHindered old new t

-- WHAT A GROWTH TO RECORD k LEAVES of the disk where a channel has the slot's records open: the record is there, or would make the file
-- too large, and nothing has changed, which is reported first, also on a protected medium; or it was refused. Each other closed file
-- stays in place, its sectors as they were.
pub record IsGrowth (result : Result Bool Trouble) (old new : Seen) (d : Disk) (uses : ℕ → Use) (n w b s : ℕ) (rs : List (List ℕ)) (k : ℕ) : Type 0 where
  pub grown : IfOk result (λ done. MatchBool done (HoldsNow old.tracks new.content (with_growth d n w b s rs k) uses) (IsTooLarge d w b s k × (new.content ≡ old.content)))
  pub full : IsTooLarge d w b s k → IsOkAnd result (λ done. done ≡ false)
  pub stopped : IfErr result (IsGrowthCut old new d uses n w rs)
  pub untouched : LeavesOthers old new n
