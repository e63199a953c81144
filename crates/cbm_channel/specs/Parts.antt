-- What a part of a call leaves, whatever it does, and of which machines it says what.
use Rattle.std.specs.Prelude.{ℕ, ◌≡◌, ◌≢◌, ◌⊎◌, ◌<◌, ◌==◌, if◌then◌else◌, Bool, false, true, List, [], length, take, slice_index_or, Option, MatchOption, Result, OnOk, OnErr}
use Rattle.std.specs.List.{list_any}
use Rattle.cbm_medium.specs.declared.fault.Trouble.{Trouble}
use Rattle.cbm_volume.specs.Writers.{HoldsNow, Stopped}
use Rattle.cbm_medium.specs.Seen.{Seen, HasFailed}
use Rattle.cbm_machine.specs.declared.code.Code.TheVariants.{Fine}
use Rattle.cbm_machine.specs.Codes.{code_number}
use Rattle.cbm_machine.specs.Machines.{Machine}
use Rattle.cbm_channel.specs.declared.channel.Channel.{Channel}
use Rattle.cbm_channel.specs.declared.channel.Channel.TheVariants.{Closed}
use Rattle.cbm_channel.specs.ChannelCalls.{KeepsRest, LeavesRest}
use Rattle.cbm_channel.specs.BytesMeant.{ClosingWasDone, AllClosingsDone}
use Rattle.cbm_channel.specs.Commanded.{AreSameBut, CanAllGo, is_slot_among, end_clears, all_scratched, ends_command}
use Rattle.cbm_channel.specs.Going.{KeepsMedium, IsFailureCounted, AreCounted, WentFrom, RecordsFrom, EndsFrom}
use Rattle.cbm_channel.specs.Grounds.{HasTold, IsToldFor, KeepsGrounded, KeepsIfRefused, OrdersDisk, TellsGrounded, is_fault_number}
use Rattle.cbm_channel.specs.Shown.{is_writing_on, has_records_on, finishes_on, finished_by, with_records_by, KeepsMediumAndStatus}
use Rattle.cbm_channel.specs.Standing.{Kept, SameBut, HaveSameFiles, Stands, HasNoText, HasText, uses_of}

-- ---- the machines

-- this holds of each machine that the drive represents
abbrev pub OfMachine : {M : Type 0} → (M → Seen) → Kept M → (Machine → Type 0) → Type 0
OfMachine seen k P = (m : Machine) → Stands seen k m → P m

-- a part of a call for channel 15 is done from each machine that the drive stood for and of which this is so, for whichever texts
abbrev pub WentWhere : {M A : Type 0} → (M → Seen) → Kept M → Kept M → (Machine → A → Type 0) → (A → Machine → Machine) → Type 0
WentWhere seen old new P part = (m : Machine) (a : _) → P m a → Stands seen old m → WentFrom seen old new 15 (part a) m

-- the rest of the disk stays but for the slots that pass the test, where the drive stood for such a machine
abbrev pub KeepsRestWhere : {M A : Type 0} → (M → Seen) → (ℕ → Bool) → Kept M → Kept M → (Machine → A → Type 0) → Type 0
KeepsRestWhere seen but old new P = (m : Machine) (a : _) → P m a → Stands seen old m → KeepsRest (seen old.medium) (seen new.medium) but

-- ---- the medium

-- WHAT A PART OF A CALL THAT REPORTS LEAVES on any disk: tracks and protection of the medium stay; the medium refused one write at most,
-- which is then what is reported; and the status has its ground.
pub record LeavesMedium {M : Type 0} (seen : M → Seen) (old new : Kept M) : Type 0 where
  pub medium : KeepsMedium false (seen old.medium) (seen new.medium)
  pub counted : IsFailureCounted seen old new
  pub grounded : TellsGrounded seen old new

-- WHAT A PART LEAVES THAT MAKES NO NEW DISK: the same, where the status may stay, too; and the rest of the disk as it is, but for the slots
-- that pass the test.
pub record LeavesDisk {M : Type 0} (seen : M → Seen) (but : ℕ → Bool) (old new : Kept M) : Type 0 where
  pub medium : KeepsMedium false (seen old.medium) (seen new.medium)
  pub rest : LeavesRest seen (λ m. but) old new
  pub counted : IsFailureCounted seen old new
  pub grounded : KeepsGrounded seen old new

-- WHAT A COMMAND AT THE DISK LEAVES on any disk, by whether it is NEW: the channels stay, what is refused has changed nothing, the status has its ground, and of
-- the medium what each part leaves.
pub record LeavesChannels {M : Type 0} (seen : M → Seen) (formats : Bool) (old new : Kept M) : Type 0 where
  pub channels : new.channels ≡ old.channels
  pub spared : KeepsIfRefused seen old new
  pub medium : KeepsMedium formats (seen old.medium) (seen new.medium)
  pub counted : IsFailureCounted seen old new
  pub grounded : TellsGrounded seen old new

-- WHAT A COMMAND LEAVES on any disk, by the channel whose place it sets, whether it is VALIDATE, whether it is NEW, and the slots that it
-- clears: each channel keeps its file, and its place but for that channel; V leaves closed files as they are; the rest of the disk stays
-- but for those slots, if it isn't NEW; a status that is reported has its ground; and of the medium what each part leaves.
pub record LeavesByCommand {M : Type 0} (seen : M → Seen) (moved : Option ℕ) (validates formats : Bool) (but : Machine → ℕ → Bool) (old new : Kept M) : Type 0 where
  pub channels : HaveSameFiles old.channels new.channels
  pub others : AreSameBut moved old.channels new.channels
  pub ordered : validates ≡ true → OrdersDisk seen old new
  pub medium : KeepsMedium formats (seen old.medium) (seen new.medium)
  pub rest : formats ≡ false → LeavesRest seen but old new
  pub counted : IsFailureCounted seen old new
  pub grounded : KeepsGrounded seen old new

-- nothing but the medium changes, and there are fifteen channels
pub record OnlyMedium {M : Type 0} (old new : Kept M) : Type 0 where
  pub rest : new ≡ record old { medium = new.medium }
  pub count : length new.channels ≡ 15

-- nothing but the gathered text changes
pub record OnlyText {M : Type 0} (old new : Kept M) : Type 0 where
  pub channels : new.channels ≡ old.channels
  pub told : new.told ≡ old.told
  pub medium : new.medium ≡ old.medium

-- the channels are as they were, and fifteen
pub record SameChannels (old new : List Channel) : Type 0 where
  pub channels : new ≡ old
  pub count : length new ≡ 15

-- ---- what is told

-- the medium is as it was, and a status with its ground is reported
abbrev pub OnlyTells : {M : Type 0} → (M → Seen) → Kept M → Kept M → Type 0
OnlyTells seen old new = HasTold seen old new × (new.medium ≡ old.medium)

-- the medium is as it was, and what is reported is what was, or has its ground
abbrev pub OnlyTellsFor : {M : Type 0} → (M → Seen) → Kept M → Kept M → Type 0
OnlyTellsFor seen old new = IsToldFor seen old new × (new.medium ≡ old.medium)

-- it went well, or each sector holds what it held
abbrev pub IsFineOrSame : {M : Type 0} → (M → Seen) → Kept M → Kept M → Type 0
IsFineOrSame seen old new = (new.told.status.code ≡ Fine) ⊎ ((seen new.medium).content ≡ (seen old.medium).content)

-- so it is where no fault is reported
abbrev pub IsFineOrSameUnlessFault : {M : Type 0} → (M → Seen) → Kept M → Kept M → Type 0
IsFineOrSameUnlessFault seen old new = is_fault_number (code_number new.told.status.code) ≡ false → IsFineOrSame seen old new

-- where the medium failed by itself, no file is written on the channel from then on
abbrev pub CutsOff : {M : Type 0} → (M → Seen) → ℕ → Kept M → Kept M → Type 0
CutsOff seen ch old new = HasFailed (seen old.medium) (seen new.medium) → is_writing_on ch new ≡ false

-- the channel writes the file of no other slot than before
abbrev pub KeepsSlotOn : {M : Type 0} → ℕ → Kept M → Kept M → Type 0
KeepsSlotOn ch old new = (n : ℕ) → finished_by ch old n ≡ false → finished_by ch new n ≡ false

-- ---- a channel is closed

-- nothing is open on the channel
abbrev pub IsClosedOn : {M : Type 0} → ℕ → Kept M → Type 0
IsClosedOn ch k = slice_index_or k.channels ch Closed ≡ Closed

-- CLOSE OF A CHANNEL FROM 0 TO 14: it is closed, and the others of the fifteen are as they were.
pub record ClosesOne (ch : ℕ) (old new : List Channel) : Type 0 where
  pub others : SameBut ch old new
  pub closed : slice_index_or new ch Closed ≡ Closed
  pub count : length new ≡ 15

-- CLOSE: the channel is closed, and the others are as they were; on 15 all are closed.
pub record ClosesChannels (ch : ℕ) (old new : List Channel) : Type 0 where
  pub others : ch < 15 → SameBut ch old new
  pub closed : (k : ℕ) → (k ≡ ch) ⊎ (ch ≡ 15) → slice_index_or new k Closed ≡ Closed

-- Where no file is written that CLOSE finishes, nothing is reported and the medium stays as it is.
pub record ClosesQuietly {M : Type 0} (ch : ℕ) (old new : Kept M) : Type 0 where
  pub one : ch < 15 → is_writing_on ch old ≡ false → KeepsMediumAndStatus old new
  pub all : ((k : ℕ) → is_writing_on k old ≡ false) → KeepsMediumAndStatus old new

-- the slots that CLOSE may change: the one whose file is being written on the channel; on 15 those of all channels
abbrev pub closed_by : {M : Type 0} → ℕ → Kept M → ℕ → Bool
closed_by ch k n = if ch == 15 then list_any (finishes_on n) k.channels else finished_by ch k n

-- WHAT CLOSE LEAVES on any disk: tracks and protection of the medium stay, and the rest of the disk but for the files that it may finish;
-- for each channel that is closed the medium refused one write at most, and its file was finished, or a fault is the status; and a status that
-- is reported has its ground.
pub record LeavesByClose {M : Type 0} (seen : M → Seen) (ch : ℕ) (old new : Kept M) : Type 0 where
  pub medium : KeepsMedium false (seen old.medium) (seen new.medium)
  pub rest : LeavesRest seen (λ m. closed_by ch old) old new
  pub counted : ch < 15 → IsFailureCounted seen old new
  pub done : ch < 15 → ClosingWasDone seen ch old new
  pub grounded : KeepsGrounded seen old new
  pub all_counted : ch ≡ 15 → AreCounted seen 15 old new
  pub all_done : ch ≡ 15 → AllClosingsDone seen old new

-- ---- the text that is gathered

-- the text that is taken for a channel is what the machine has for it
abbrev pub TakesText : {M : Type 0} → (M → Seen) → ℕ → Kept M → Option (ℕ × List ℕ) → Type 0
TakesText seen ch k result = OfMachine seen k (λ m. MatchOption result (HasNoText ch m) (HasText ch m))

-- a text, of which the first 256 bytes were kept, is one write of a record, done or stopped
abbrev pub WritesText : {M : Type 0} → (M → Seen) → ℕ → List ℕ → Kept M → Kept M → Type 0
WritesText seen ch bytes old new = (m : Machine) (text : List ℕ) → Stands seen old m → bytes ≡ take 256 text → RecordsFrom seen old new ch text m

-- each channel keeps its file, and the others are as they were
pub record MovesOne (ch : ℕ) (old new : List Channel) : Type 0 where
  pub channels : HaveSameFiles old new
  pub others : SameBut ch old new

-- the slots that the end of what is put may change: those that the command clears; on another channel that of its records
abbrev pub changed_by_end : {M : Type 0} → ℕ → Kept M → Machine → ℕ → Bool
changed_by_end ch k m n = if ch == 15 then end_clears k.text m n else with_records_by ch k n

-- from each machine that the drive stood for the gathered text is carried out, or that was stopped
abbrev pub EndsGathered : {M : Type 0} → (M → Seen) → ℕ → Kept M → Kept M → Type 0
EndsGathered seen ch old new = OfMachine seen old (λ m. EndsFrom seen old new ch m)

-- what is no command that changes the disk, nor for records, leaves the medium as it is
abbrev pub EndsQuietly : {M : Type 0} → (M → Seen) → ℕ → Kept M → Kept M → Type 0
EndsQuietly seen ch old new = ends_command ch old.text ≡ false → has_records_on ch old ≡ false → OnlyTellsFor seen old new

-- What is refused has changed nothing of the disk: without records, and where a record was written unless what is reported stays.
pub record SparesDisk {M : Type 0} (seen : M → Seen) (ch : ℕ) (old new : Kept M) : Type 0 where
  pub spared : has_records_on ch old ≡ false → KeepsIfRefused seen old new
  pub spared_records : (new.told ≡ old.told) ⊎ KeepsIfRefused seen old new

-- ---- slots are cleared

-- this holds of each machine that the drive represents, where each of the slots can go when its turn has come
abbrev pub OfGoing : {M : Type 0} → (M → Seen) → List ℕ → Kept M → (Machine → Type 0) → Type 0
OfGoing seen slots k P = (m : Machine) → Stands seen k m → CanAllGo m.disk (uses_of k.channels m.channels) slots → P m

-- they are all scratched
abbrev pub ClearsSlots : {M : Type 0} → (M → Seen) → List ℕ → Kept M → Kept M → Result (Unit {0}) Trouble → Type 0
ClearsSlots seen slots old new result =
    OfGoing seen slots old (λ m. OnOk result (HoldsNow (seen old.medium).tracks (seen new.medium).content (all_scratched m.disk slots) (uses_of old.channels m.channels)))

-- or, on a disk that isn't protected, the medium failed by itself, and each slot is as before or as after
abbrev pub StopsClearing : {M : Type 0} → (M → Seen) → List ℕ → Kept M → Kept M → Result (Unit {0}) Trouble → Type 0
StopsClearing seen slots old new result = OfGoing seen slots old (λ m. (slots ≢ [] → m.protected ≡ false) → OnErr result
    (Stopped (seen old.medium).tracks (seen new.medium).content m.disk (all_scratched m.disk slots) (uses_of old.channels m.channels) × HasFailed (seen old.medium) (seen new.medium)))

-- the rest of the disk stays but for these slots
abbrev pub KeepsRestGoing : {M : Type 0} → (M → Seen) → List ℕ → Kept M → Kept M → Type 0
KeepsRestGoing seen slots old new = OfGoing seen slots old (λ m. KeepsRest (seen old.medium) (seen new.medium) (is_slot_among slots))
