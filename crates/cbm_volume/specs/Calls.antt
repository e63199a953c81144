-- What the volume's calls that write leave of a sound disk.
use Rattle.std.specs.Prelude.{ℕ, max, ◌≡◌, ◌==◌, Bool, true, false, List, Option, Some, Result, IsOk, IfOk, IfErr, OnErr, MatchOption}
use Rattle.cbm_medium.specs.Content.{Content}
use Rattle.cbm_medium.specs.Seen.{Seen, OnlyContent}
use Rattle.cbm_medium.specs.declared.fault.Trouble.{Trouble}
use Rattle.cbm_file.specs.Padding.{before_filler}
use Rattle.cbm_file.specs.Files.{Disk, File, file_at, with_slot}
use Rattle.cbm_bam.specs.Map.{geometry_of}
use Rattle.cbm_volume.specs.Staying.{LeavesClosed}
use Rattle.cbm_volume.specs.Opens.{IsHindered, IsUnwritten}
use Rattle.cbm_volume.specs.Writers.{Filling, Use, Idle, Writes, HoldsNow, Stopped}

-- this holds of each disk that the medium holds, however the channels use it
abbrev pub OfDisk : Seen → (Disk → (ℕ → Use) → Type 0) → Type 0
OfDisk now P = (d : Disk) (uses : ℕ → Use) → HoldsNow now.tracks now.content d uses → P d uses

-- this holds of each such disk of which no channel uses anything
abbrev pub OfUnusedDisk : Seen → (Disk → (ℕ → Use) → Type 0) → Type 0
OfUnusedDisk now P = (d : Disk) (uses : ℕ → Use) → HoldsNow now.tracks now.content d uses → ((ch : ℕ) → uses ch ≡ Idle) → P d uses

-- this holds of each such disk and of each channel that uses nothing of it
abbrev pub OfIdle : Seen → (Disk → (ℕ → Use) → ℕ → Type 0) → Type 0
OfIdle now P = (d : Disk) (uses : ℕ → Use) (ch : ℕ) → HoldsNow now.tracks now.content d uses → uses ch ≡ Idle → P d uses ch

-- this holds of each such disk and of the channel that writes a file so: these bytes, in this many blocks so far
abbrev pub OfWriter : Seen → Filling → (Disk → (ℕ → Use) → ℕ → List ℕ → ℕ → Type 0) → Type 0
OfWriter now w P = (d : Disk) (uses : ℕ → Use) (ch : ℕ) (bytes : List ℕ) (blocks : ℕ) → HoldsNow now.tracks now.content d uses → uses ch ≡ Writes w bytes blocks → P d uses ch bytes blocks

-- the sectors of each closed file are as they were, and each stays in place but for those in slots that pass the test
abbrev pub LeavesFiles : Seen → Seen → (ℕ → Bool) → Type 0
LeavesFiles old new but = LeavesClosed (geometry_of old.tracks old.content) old.content new.content (λ m. false) but

-- each closed file but that of this slot stays in place, and its sectors are as they were
abbrev pub LeavesOthers : Seen → Seen → ℕ → Type 0
LeavesOthers old new n = LeavesClosed (geometry_of old.tracks old.content) old.content new.content (λ m. m == n) (λ m. m == n)

-- WHAT A CALL THAT WRITES LEAVES of a sound disk: what holds where it is done, and where it was stopped; a stop has its cause, the
-- closed files' sectors are as they were, and each of these files stays in place but for those in slots that pass the test.
pub record IsCall {A : Type 0} (result : Result A Trouble) (old new : Seen) (Done : A → Type 0) (Stop : Type 0) (but : ℕ → Bool) : Type 0 where
  pub done : IfOk result Done
  pub stopped : OnErr result Stop
  pub cause : IfErr result (IsHindered old new)
  pub untouched : LeavesFiles old new but

-- A CALL THAT MAKES ONE DISK OF ANOTHER: done, the medium holds the other; stopped, each slot is as before or as after.
abbrev pub IsChange : {A : Type 0} → Result A Trouble → Seen → Seen → Disk → Disk → (ℕ → Use) → (ℕ → Bool) → Type 0
IsChange result old new before after uses but = IsCall result old new (λ x. HoldsNow old.tracks new.content after uses) (Stopped old.tracks new.content before after uses) but

-- WHAT A CALL OF ONE WRITE LEAVES of a sound disk: what holds where it is done, why it is refused, and the closed files, which stay in
-- place. That nothing has changed where it is refused is said of any content apart.
pub record IsOneWrite {A : Type 0} (result : Result A Trouble) (old new : Seen) (Done : A → Type 0) : Type 0 where
  pub done : IfOk result Done
  pub cause : IfErr result (IsHindered old new)
  pub untouched : LeavesFiles old new (λ m. false)

-- WHAT RENAME MAKES of a file that no channel writes: it has another name, and all else of it stays.
abbrev pub IsRenamed : ℕ → Content → Disk → (ℕ → Use) → ℕ → List ℕ → Type 0
IsRenamed medium new d uses slot name = (f : File) → file_at d slot ≡ Some f → IsUnwritten uses slot
    → HoldsNow medium new (with_slot d slot (Some (record f { name = before_filler name }))) uses

-- it changed at most what the sectors of the disk hold, which has 35 or 40 tracks as its map says, though the medium may have more
abbrev pub OnlyOnDisk : {A : Type 0} → Result A Trouble → Seen → Seen → Type 0
OnlyOnDisk result old new = OnlyContent (geometry_of old.tracks old.content) result old new

-- the same of a call with a writer, which was begun on a disk of as many tracks, if that was sound
abbrev pub OnlyOfWriter : {A : Type 0} → Filling → Result A Trouble → Seen → Seen → Type 0
OnlyOfWriter w result old new = OnlyContent (max w.chain.tracks (geometry_of old.tracks old.content)) result old new

-- a protected medium stays as it is
abbrev pub KeepsProtected : Seen → Seen → Type 0
KeepsProtected old new = old.protected ≡ true → new.content ≡ old.content

-- it is done, and nothing has changed
abbrev pub IsLeftAlone : {A : Type 0} → Result A Trouble → Seen → Seen → Type 0
IsLeftAlone result old new = IsOk result × (new.content ≡ old.content)

-- the answer None says that nothing has changed
abbrev pub IsNoneSame : {A : Type 0} → Result (Option A) Trouble → Seen → Seen → Type 0
IsNoneSame result old new = IfOk result (λ o. MatchOption o (new.content ≡ old.content) (λ x. Unit {0}))

-- an answer of this says that nothing has changed
abbrev pub IsSameOn : {A : Type 0} → Result A Trouble → A → Seen → Seen → Type 0
IsSameOn result answer old new = IfOk result (λ x. x ≡ answer → new.content ≡ old.content)
