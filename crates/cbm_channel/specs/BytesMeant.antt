-- What a byte that is put on a channel, and CLOSE, do on any disk.
use Rattle.std.specs.Prelude.{ℕ, zero, suc, ◌≡◌, ◌⊎◌, not, Bool, true, false, slice_index_or, MatchBool}
use Rattle.cbm_medium.specs.declared.fault.Trouble.{Trouble}
use Rattle.cbm_medium.specs.Seen.{Seen, IsGrounded}
use Rattle.cbm_chain.specs.Writing.{State, IsForFiles, Puts, IsFullFor, has_no_byte}
use Rattle.cbm_chain.specs.GivenUp.{GivesUpLed}
use Rattle.cbm_volume.specs.Led.{FinishesLed, ReplacesLed}
use Rattle.cbm_machine.specs.declared.code.Code.TheVariants.{DiskFull}
use Rattle.cbm_machine.specs.Statuses.{plain, trouble_status}
use Rattle.cbm_channel.specs.declared.channel.Channel.{Channel}
use Rattle.cbm_channel.specs.declared.channel.Channel.TheVariants.{Closed, Listing, File, Writing, Stopped, Records}
use Rattle.cbm_channel.specs.Standing.{Kept}

-- ---- a byte

-- a byte is dropped, and nothing changes
abbrev pub DropsByte : Seen → Seen → Channel → Channel → Bool → Type 0
DropsByte before after old new stored = (stored ≡ true) × (new ≡ old) × (after.content ≡ before.content)

-- A BYTE IS PUT ON A CHANNEL, on any disk: it is the last one of the file that is written there, if the block that this fills is one of files;
-- or no block is free for it. After that, and where no file is written, it is dropped.
abbrev pub PutMeant : Seen → Seen → ℕ → Channel → Channel → Bool → Type 0
PutMeant before after byte Closed new stored = DropsByte before after Closed new stored
PutMeant before after byte (Listing l) new stored = DropsByte before after (Listing l) new stored
PutMeant before after byte (File slot r) new stored = DropsByte before after (File slot r) new stored
PutMeant before after byte (Writing w true) new stored = DropsByte before after (Writing w true) new stored
PutMeant before after byte (Writing w false) new stored =
    (s : State) × (new ≡ Writing (record w { chain = s }) (not stored))
    × (IsForFiles w.chain.tracks w.chain.current → MatchBool stored (Puts before.content after.content w.chain byte s) (IsFullFor before.content after.content w.chain s))
PutMeant before after byte (Stopped slot) new stored = DropsByte before after (Stopped slot) new stored
PutMeant before after byte (Records r) new stored = DropsByte before after (Records r) new stored

-- a fault of the disk is reported, to be read from its first byte, and has its ground
abbrev pub ReportsFault : {M : Type 0} → (M → Seen) → Kept M → Kept M → Type 0
ReportsFault seen old new = (t : Trouble) × (new.told ≡ record { status = trouble_status t; told = 0 }) × IsGrounded (seen old.medium) (seen new.medium) t

-- A BYTE WAS PUT, on any disk, and the status stays; or 72 is reported, and this is the first byte for which no block is free; or a fault is.
abbrev pub ByteWasPut : {M : Type 0} → (M → Seen) → ℕ → ℕ → Kept M → Kept M → Type 0
ByteWasPut seen ch byte old new =
    let put = PutMeant (seen old.medium) (seen new.medium) byte (slice_index_or old.channels ch Closed) (slice_index_or new.channels ch Closed) in
    ((new.told ≡ old.told) × put true) ⊎ (((new.told ≡ record { status = plain DiskFull; told = 0 }) × put false) ⊎ ReportsFault seen old new)

-- ---- CLOSE

-- the file that is written on a channel has no byte yet
abbrev pub is_file_empty : Channel → Bool
is_file_empty Closed = false
is_file_empty (Listing l) = false
is_file_empty (File slot r) = false
is_file_empty (Writing w full) = has_no_byte w.chain
is_file_empty (Stopped slot) = false
is_file_empty (Records r) = false

-- THE FILE OF A CHANNEL IS FINISHED, on any disk: its slot's entry is closed over its blocks, and of a replacement the old file's blocks are
-- given back then; or, if the disk was full for it, its own are given back and the old file stays. Where no file is written nothing is done.
abbrev pub FinishMeant : Seen → Seen → Channel → Type 0
FinishMeant before after Closed = after.content ≡ before.content
FinishMeant before after (Listing l) = after.content ≡ before.content
FinishMeant before after (File slot r) = after.content ≡ before.content
FinishMeant before after (Writing w full) =
    MatchBool w.replaces (MatchBool full (GivesUpLed before.content after.content w.chain) (ReplacesLed before after w)) (FinishesLed before after w)
FinishMeant before after (Stopped slot) = after.content ≡ before.content
FinishMeant before after (Records r) = after.content ≡ before.content

-- a return is put on a channel whose file has no byte yet
abbrev pub ReturnWasPut : {M : Type 0} → (M → Seen) → ℕ → Kept M → Kept M → Type 0
ReturnWasPut seen ch old new = MatchBool (is_file_empty (slice_index_or old.channels ch Closed)) (ByteWasPut seen ch 13 old new) (new ≡ old)

-- the channel's file was finished, and the status stays; or a fault is reported
abbrev pub FileWasFinished : {M : Type 0} → (M → Seen) → ℕ → Kept M → Kept M → Type 0
FileWasFinished seen ch old new =
    ((new.told ≡ old.told) × FinishMeant (seen old.medium) (seen new.medium) (slice_index_or old.channels ch Closed)) ⊎ ReportsFault seen old new

-- A CLOSE OF A CHANNEL FROM 0 TO 14 THAT REPORTS NO FAULT IS DONE, on any disk: a file without a byte gets a return, and then the file is
-- finished.
abbrev pub ClosingWasDone : {M : Type 0} → (M → Seen) → ℕ → Kept M → Kept M → Type 0
ClosingWasDone {M} seen ch old new = (filled : Kept M) × ReturnWasPut seen ch old filled × FileWasFinished seen ch filled new

-- the same of the channels below this one, one after another
abbrev pub ClosingsWereDone : {M : Type 0} → (M → Seen) → ℕ → Kept M → Kept M → Type 0
ClosingsWereDone seen zero old new = new ≡ old
ClosingsWereDone {M} seen (suc n) old new = (mid : Kept M) × ClosingsWereDone seen n old mid × ClosingWasDone seen n mid new

-- the same of all fifteen, and then at most the text changes
abbrev pub AllClosingsDone : {M : Type 0} → (M → Seen) → Kept M → Kept M → Type 0
AllClosingsDone {M} seen old new = (closed : Kept M) × ClosingsWereDone seen 15 old closed × (new.told ≡ closed.told) × (new.medium ≡ closed.medium)
