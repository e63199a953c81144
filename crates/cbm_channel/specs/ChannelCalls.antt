-- What a call leaves that writes for one channel.
use Rattle.std.specs.Prelude.{ℕ, ◌≡◌, ◌+◌, ◌≤◌, true, false, not, Bool, Some, List, Result, Ok, IfOk, IfErr, IsOk, IsOkAnd, OnOk, OnErr}
use Rattle.cbm_medium.specs.Seen.{Seen, HasFailed, IsGrounded, KeepsBeyond, KeepsReadable}
use Rattle.cbm_medium.specs.declared.fault.Trouble.{Trouble}
use Rattle.cbm_file.specs.Files.{Disk}
use Rattle.cbm_bam.specs.Map.{geometry_of}
use Rattle.cbm_volume.specs.Opens.{IsHindered}
use Rattle.cbm_volume.specs.Staying.{StaysInPlace}
use Rattle.cbm_volume.specs.Writers.{Use, Idle, HoldsNow, Stopped, with_use}
use Rattle.cbm_machine.specs.declared.code.Code.{Code}
use Rattle.cbm_machine.specs.Machines as machine
use Rattle.cbm_machine.specs.Machines.{Machine}
use Rattle.cbm_machine.specs.Talking.{taken_on}
use Rattle.cbm_channel.specs.declared.channel.Channel.{Channel}
use Rattle.cbm_channel.specs.Placed.{Placed}
use Rattle.cbm_channel.specs.Recorded.{CanPut}
use Rattle.cbm_channel.specs.Shown.{finishes_on}
use Rattle.cbm_channel.specs.Moved.{code_placed, placed_on}
use Rattle.cbm_channel.specs.Standing.{ChannelStands, FitsTracks, IsSameFile, Kept, Stands, WaitsFor, use_of}
use Rattle.cbm_channel.specs.Written.{is_lost, channel_put, disk_put, disk_closed, IsCutOff}

-- WHAT CALLS ON THE MEDIUM KEEP, whatever sectors they changed: tracks, protection, id and the bytes outside the sectors stay, and no
-- sector becomes unreadable.
-- No write comes after one that the medium refused by itself: failures go up by one at most, only where the answer is Err, and then that is
-- what the medium refused last. The code 26 is answered only where the medium is protected, and each trouble has its ground.
pub record KeepsElse {A : Type 0} (result : Result A Trouble) (old new : Seen) : Type 0 where
  pub tracks : new.tracks ≡ old.tracks
  pub protected : new.protected ≡ old.protected
  pub id : new.id ≡ old.id
  pub outside : new.outside ≡ old.outside
  pub counted : old.failures ≤ new.failures
  pub once : new.failures ≤ old.failures + 1
  pub uncounted : OnOk result (new.failures ≡ old.failures)
  pub own : IfErr result (λ t. HasFailed old new → new.refused ≡ Some t)
  pub guarded : IfErr result (λ t. t.code ≡ 26 → old.protected ≡ true)
  pub shown : IfErr result (IsGrounded old new)
  pub readable : KeepsReadable old.content new.content

-- WHAT IS OUTSIDE THE DISK STAYS: it uses as many tracks of its medium as before; each sector of a track beyond those, which a medium of
-- 40 tracks has where the disk has 35, holds what it held; and the bytes of the image outside its sectors are as they were.
pub record KeepsOutside (old new : Seen) : Type 0 where
  pub size : geometry_of new.tracks new.content ≡ geometry_of old.tracks old.content
  pub beyond : KeepsBeyond (geometry_of old.tracks old.content) old.content new.content
  pub bytes : new.outside ≡ old.outside

-- THE REST OF THE DISK STAYS: what is outside the disk; and each closed file stays in place, in the same sectors with the same bytes,
-- but for those in slots that pass the test.
pub record KeepsRest (old new : Seen) (but : ℕ → Bool) : Type 0 where
  pub outside : KeepsOutside old new
  pub in_place : StaysInPlace (geometry_of old.tracks old.content) old.content new.content but

-- so it does wherever the drive represents a machine, by which the slots may go that pass the test
abbrev pub LeavesRest : {M : Type 0} → (M → Seen) → (Machine → ℕ → Bool) → Kept M → Kept M → Type 0
LeavesRest seen but old new = (m : Machine) → Stands seen old m → KeepsRest (seen old.medium) (seen new.medium) (but m)

-- each slot is spared
abbrev pub no_slot : ℕ → Bool
no_slot n = false

-- this holds of each disk that the medium holds, and of each channel of it for which the code's channel stands
abbrev pub OfChannel : Seen → Channel → (Disk → (ℕ → Use) → ℕ → machine.Channel → Type 0) → Type 0
OfChannel now k P = (d : Disk) (uses : ℕ → Use) (ch : ℕ) (x : machine.Channel) → HoldsNow now.tracks now.content d uses → uses ch ≡ use_of k x → ChannelStands k x → P d uses ch x

-- WHAT A CALL FOR A CHANNEL LEAVES of a sound disk: what holds where it is done, and where it was stopped; a stop has its cause, and the
-- rest of the disk stays but for the slots that pass the test.
pub record IsChannelCall {A : Type 0} (result : Result A Trouble) (old new : Seen) (Done : A → Type 0) (Stop : Type 0) (but : ℕ → Bool) : Type 0 where
  pub done : IfOk result Done
  pub stopped : OnErr result Stop
  pub cause : IfErr result (IsHindered old new)
  pub rest : KeepsRest old new but

-- this holds of each disk that the medium holds, where a text can be put to the records of a place
abbrev pub OfPlaced : Seen → Placed → (Disk → (ℕ → Use) → ℕ → ℕ → List (List ℕ) → Type 0) → Type 0
OfPlaced now r P = (d : Disk) (uses : ℕ → Use) (b s : ℕ) (rs : List (List ℕ)) → CanPut now.tracks now.content d uses r b s rs → P d uses b s rs

-- ---- what each call does

-- A BYTE IS TAKEN: where what waits is there, the channel goes on as the machine's does
abbrev pub TakesOnChannel : Seen → Channel → Channel → Result (Unit {0}) Trouble → Type 0
TakesOnChannel now old new result = OfChannel now old (λ d uses ch x. WaitsFor d old → IsOk result × ChannelStands new (taken_on d x) × WaitsFor d new
    × HoldsNow now.tracks now.content d (with_use uses ch (use_of new (taken_on d x))))

-- A CHANNEL GOES TO A PLACE: where what waits is there, it answers what the machine reports, and goes where the machine's goes
abbrev pub PlacesOn : ℕ → ℕ → Seen → Channel → Channel → Result Code Trouble → Type 0
PlacesOn k p now old new result =
    OfChannel now old (λ d uses ch x. WaitsFor d old → IsOkAnd result (λ code. code ≡ code_placed k p d x) × ChannelStands new (placed_on k p d x) × WaitsFor d new
    × HoldsNow now.tracks now.content d (with_use uses ch (use_of new (placed_on k p d x))))

-- A BYTE IS PUT: it is stored or the first that is lost, as the machine has it; or the channel takes no more bytes. All closed files stay
-- in place, also one that is being replaced.
abbrev pub PutsByte : ℕ → Seen → Seen → Channel → Channel → Result Bool Trouble → Type 0
PutsByte byte old new k k' result = OfChannel old k (λ d uses ch x. IsChannelCall result old new
    (λ done. (done ≡ not (is_lost d x)) × ChannelStands k' (channel_put byte d x) × HoldsNow old.tracks new.content (disk_put d x) (with_use uses ch (use_of k' (channel_put byte d x))))
    (IsCutOff k' x × Stopped old.tracks new.content d d (with_use uses ch Idle)) no_slot)

-- THE FILE THAT IS WRITTEN IS FINISHED, and the channel uses nothing of the disk; or each slot is as before or as after. The other closed
-- files stay in place.
abbrev pub FinishesFile : Seen → Seen → Channel → Result (Unit {0}) Trouble → Type 0
FinishesFile old new k result = OfChannel old k (λ d uses ch x. IsChannelCall result old new
    (λ done. HoldsNow old.tracks new.content (disk_closed d x) (with_use uses ch Idle))
    (Stopped old.tracks new.content d (disk_closed d x) (with_use uses ch Idle)) (λ n. finishes_on n k))

-- nothing is done: the answer is this one, and the channel and the volume stay
abbrev pub DoesNothing : {A V : Type 0} → Result A Trouble → A → Channel → Channel → V → V → Type 0
DoesNothing result answer k k' v v' = (result ≡ Ok answer) × (k' ≡ k) × (v' ≡ v)

-- a channel writes the file of no other slot than before
abbrev pub KeepsSlot : Channel → Channel → Type 0
KeepsSlot old new = (n : ℕ) → finishes_on n old ≡ false → finishes_on n new ≡ false

-- A CHANNEL KEEPS ITS FILE, though the place in its records may be another; and it fits the medium's tracks.
pub record KeepsFile (tracks : ℕ) (old new : Channel) : Type 0 where
  pub fits : FitsTracks tracks new
  pub same : IsSameFile old new
