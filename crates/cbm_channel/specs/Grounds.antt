-- Where a status comes from, on any disk.
use Rattle.std.specs.Prelude.{ℕ, ◌≡◌, ◌≢◌, ◌⊎◌, ◌&&◌, ◌||◌, ◌==◌, nat_lt, Bool, true, false, List, Some, Err}
use Rattle.std.specs.List.{Contains}
use Rattle.cbm_medium.specs.Place.{sector_count}
use Rattle.cbm_medium.specs.Links.{follow}
use Rattle.cbm_medium.specs.declared.fault.Trouble.{Trouble}
use Rattle.cbm_medium.specs.Seen.{Seen, HasFailed, ShowsGround}
use Rattle.cbm_medium.specs.Content.{Content}
use Rattle.cbm_volume.specs.RecordFaults.{IsMislisted, IsMetInSlot, HidesSlot}
use Rattle.cbm_volume.specs.Sweeps.{IsPutInOrder, IsPartlyInOrder}
use Rattle.cbm_bam.specs.Map.{geometry_of}
use Rattle.cbm_directory.specs.Entries.{first_block}
use Rattle.cbm_directory.specs.Slots.{directory_of}
use Rattle.cbm_machine.specs.declared.code.Code.{Code}
use Rattle.cbm_machine.specs.declared.code.Code.TheVariants.{Fine, FilesScratched, NoHeader, NoSync, NoData, DataChecksum, DataCode, WriteFailed, WriteProtected, HeaderChecksum, LongData, WrongId, Syntax, UnknownCommand, LongText, WildName, NoName, NoRecord, RecordOverflow, FileTooLarge, WriteFileOpen, FileNotOpen, FileNotFound, FileExists, WrongType, NoBlock, WrongLink, NoChannel, EndlessChain, DiskFull, PowerUp, DriveNotReady}
use Rattle.cbm_machine.specs.declared.status.Status.{Status}
use Rattle.cbm_machine.specs.Codes.{code_number}
use Rattle.cbm_machine.specs.Statuses.{plain, trouble_status}
use Rattle.cbm_channel.specs.Standing.{Kept}
use Rattle.cbm_channel.specs.declared.plan.Plan.{Plan}
use Rattle.cbm_channel.specs.declared.plan.Plan.TheVariants as planned

-- the number is one that a disk's faults have: 20 to 29, 66 or 71
abbrev pub is_fault_number : ℕ → Bool
is_fault_number n = (nat_lt 19 n && nat_lt n 30) || ((n == 66) || (n == 71))

-- A sector doesn't read and this is its fault; or the directory breaks off so; or the chain of one of its entries does; or the side
-- sectors of one of its entries aren't right; or the file of one of its slots meets the fault.
abbrev pub ShowsTrouble : ℕ → Content → Trouble → Type 0
ShowsTrouble tracks c t =
    (c (record { track = t.track; sector = t.sector }) ≡ Err t.code)
    ⊎ (((directory_of tracks c).trouble ≡ Some t)
    ⊎ (((entry : List ℕ) × Contains (directory_of tracks c).entries entry × ((follow tracks c (sector_count tracks) (first_block entry)).trouble ≡ Some t))
    ⊎ (((entry : List ℕ) × Contains (directory_of tracks c).entries entry × IsMislisted tracks c entry t)
    ⊎ ((slot : ℕ) × IsMetInSlot tracks c slot t))))

-- A record can't be read for this trouble: it hides the file of a slot.
abbrev pub HidesRecords : Seen → Trouble → Type 0
HidesRecords now t = (slot : ℕ) × HidesSlot now slot t

-- a status isn't 00, OK
abbrev pub IsNotOk : Status → Type 0
IsNotOk status = status.code ≢ Fine

-- A STATUS HAS ITS GROUND: it is no fault of a disk; or the disk is protected; or the content shows the fault.
abbrev pub HasGround : {M : Type 0} → (M → Seen) → M → Status → Type 0
HasGround seen medium status =
    (is_fault_number (code_number status.code) ≡ false)
    ⊎ (((status ≡ plain WriteProtected) × ((seen medium).protected ≡ true))
    ⊎ ((t : Trouble) × (status ≡ trouble_status t) × ShowsTrouble (geometry_of (seen medium).tracks (seen medium).content) (seen medium).content t))

-- a status with its ground is reported
abbrev pub HasTold : {M : Type 0} → (M → Seen) → Kept M → Kept M → Type 0
HasTold seen old new = HasGround seen old.medium new.told.status

-- What is reported stays; or a status with its ground is reported anew; or the medium failed in this call, and its fault is reported.
abbrev pub IsToldFor : {M : Type 0} → (M → Seen) → Kept M → Kept M → Type 0
IsToldFor seen old new =
    (new.told ≡ old.told)
    ⊎ (HasTold seen old new
    ⊎ ((t : Trouble) × (new.told.status ≡ trouble_status t) × HasFailed (seen old.medium) (seen new.medium)))

-- A STATUS HAS ITS GROUND where a call may have written: it is no fault of a disk; or it is a trouble that the medium showed before the call;
-- or the medium failed by itself in it.
abbrev pub TellsGrounded : {M : Type 0} → (M → Seen) → Kept M → Kept M → Type 0
TellsGrounded seen old new =
    (is_fault_number (code_number new.told.status.code) ≡ false)
    ⊎ ((t : Trouble) × (new.told.status ≡ trouble_status t) × (ShowsGround (seen old.medium) t ⊎ HasFailed (seen old.medium) (seen new.medium)))

-- What is reported stays, or a status with its ground is reported.
abbrev pub KeepsGrounded : {M : Type 0} → (M → Seen) → Kept M → Kept M → Type 0
KeepsGrounded seen old new = (new.told ≡ old.told) ⊎ TellsGrounded seen old new

-- the entry is one of the directory's
abbrev pub IsInDirectory : {M : Type 0} → (M → Seen) → M → List ℕ → Type 0
IsInDirectory seen medium entry = Contains (directory_of (geometry_of (seen medium).tracks (seen medium).content) (seen medium).content).entries entry

-- the file that a plan reads, appends to or opens was found in the directory
abbrev pub IsFromDirectory : {M : Type 0} → (M → Seen) → M → Plan → Type 0
IsFromDirectory seen medium (planned.ReadListing pattern) = Unit {0}
IsFromDirectory seen medium (planned.ReadFile found) = IsInDirectory seen medium found.entry
IsFromDirectory seen medium (planned.WriteFile kind name) = Unit {0}
IsFromDirectory seen medium (planned.AppendFile found) = IsInDirectory seen medium found.entry
IsFromDirectory seen medium (planned.ReplaceFile slot) = Unit {0}
IsFromDirectory seen medium (planned.OpenRecords found) = IsInDirectory seen medium found.entry
IsFromDirectory seen medium (planned.MakeRecords name length) = Unit {0}

-- A request is refused with this code: for protection (26), its text (30 to 34), a record (50, 52), the files, the blocks and the channels (60 to 65, 70),
-- for want of room (72) or of a disk (74). Where 51 is reported of a text for records, the bytes that fit were written.
abbrev pub is_refusal : Code → Bool
is_refusal Fine = false
is_refusal FilesScratched = false
is_refusal NoHeader = false
is_refusal NoSync = false
is_refusal NoData = false
is_refusal DataChecksum = false
is_refusal DataCode = false
is_refusal WriteFailed = false
is_refusal WriteProtected = true
is_refusal HeaderChecksum = false
is_refusal LongData = false
is_refusal WrongId = false
is_refusal Syntax = true
is_refusal UnknownCommand = true
is_refusal LongText = true
is_refusal WildName = true
is_refusal NoName = true
is_refusal NoRecord = true
is_refusal RecordOverflow = false
is_refusal FileTooLarge = true
is_refusal WriteFileOpen = true
is_refusal FileNotOpen = true
is_refusal FileNotFound = true
is_refusal FileExists = true
is_refusal WrongType = true
is_refusal NoBlock = true
is_refusal WrongLink = false
is_refusal NoChannel = true
is_refusal EndlessChain = false
is_refusal DiskFull = true
is_refusal PowerUp = false
is_refusal DriveNotReady = true

-- WHAT IS REFUSED LEAVES THE DISK: where such a code is reported, each sector holds what it held.
abbrev pub KeepsIfRefused : {M : Type 0} → (M → Seen) → Kept M → Kept M → Type 0
KeepsIfRefused seen old new = is_refusal new.told.status.code ≡ true → (seen new.medium).content ≡ (seen old.medium).content

-- WHAT V CHANGES, on any disk: where it says 00, what puts the disk in order; else nothing, or slots that weren't closed.
abbrev pub OrdersDisk : {M : Type 0} → (M → Seen) → Kept M → Kept M → Type 0
OrdersDisk seen old new =
    ((new.told.status.code ≡ Fine) × IsPutInOrder (geometry_of (seen old.medium).tracks (seen old.medium).content) (seen old.medium).content (seen new.medium).content)
    ⊎ (IsNotOk new.told.status × IsPartlyInOrder (geometry_of (seen old.medium).tracks (seen old.medium).content) (seen old.medium).content (seen new.medium).content)
