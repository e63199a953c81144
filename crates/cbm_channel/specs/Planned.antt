-- What the code found and plans, beside what the machine does.
use Rattle.std.specs.Prelude.{ℕ, ◌-◌, ◌≤◌, ◌≡◌, ◌==◌, ◌||◌, not, nat_lt, Bool, true, false, List, [], if◌then◌else◌, Option, Some, None, Result, Ok, Err}
use Rattle.cbm_file.specs.declared.file_type.FileType.{FileType}
use Rattle.cbm_file.specs.declared.file_type.FileType.TheVariants.{Del, Rel}
use Rattle.cbm_file.specs.Types.{is_same_type}
use Rattle.cbm_file.specs.Padding.{before_filler}
use Rattle.cbm_file.specs.Files.{Disk, File, file_at, bytes_in, record_length_in, with_slot}
use Rattle.cbm_file.specs.Changes.{has_slot, new_slot, with_file, unclosed, reopened}
use Rattle.cbm_file.specs.Records.{with_new_records}
use Rattle.cbm_medium.specs.Content.{Content}
use Rattle.cbm_volume.specs.Holding.{EntryStandsAt, HasBytes, EntrySays}
use Rattle.cbm_volume.specs.Writers.{Use, HoldsNow, with_use}
use Rattle.cbm_channel.specs.declared.channel.Channel as kept
use Rattle.cbm_channel.specs.Standing.{ChannelStands, WaitsFor, use_of}
use Rattle.cbm_directory.specs.Entries.{width_of}
use Rattle.cbm_channel.specs.Commanded.{commands_change}
use Rattle.cbm_machine.specs.declared.code.Code.{Code}
use Rattle.cbm_machine.specs.declared.status.Status.{Status}
use Rattle.cbm_channel.specs.declared.finding.Found.{Found}
use Rattle.cbm_channel.specs.declared.plan.Plan as code
use Rattle.cbm_channel.specs.declared.plan.Plan.TheVariants as planned
use Rattle.cbm_machine.specs.Statuses.{plain}
use Rattle.cbm_machine.specs.declared.code.Code.TheVariants.{Fine}
use Rattle.cbm_command.specs.declared.opening.Opening.{Opening}
use Rattle.cbm_command.specs.declared.opening.Opening.TheVariants as opening
use Rattle.cbm_command.specs.declared.opening.Mode.TheVariants.{Read}
use Rattle.cbm_command.specs.Openings.{wants_relative, opening_of}
use Rattle.cbm_command.specs.Refusals.{◌>>=◌}
use Rattle.cbm_machine.specs.Listings.{listing}
use Rattle.cbm_machine.specs.Machines.{Channel, Closed, Reading, Writing, Relative, Machine, answered, say, in_writing, in_use}
use Rattle.cbm_machine.specs.Finding.{body_at}
use Rattle.cbm_machine.specs.Plans.{Plan, ReadListing, ReadFile, WriteFile, AppendFile, ReplaceFile, OpenRecords, MakeRecords, plan, act}

-- the entry stands in the directory at the slot's number, and says what is known of the file in the slot
pub record IsFound (tracks : ℕ) (c : Content) (d : Disk) (s : ℕ) (f : File) (found : Found) : Type 0 where
  pub number : s ≡ found.slot
  pub in_slot : file_at d s ≡ Some f
  pub says : EntrySays f found.entry
  pub stands : EntryStandsAt tracks c s found.entry

-- the code found the same file, or refuses by the same code
abbrev pub FoundAs : ℕ → Content → Disk → Result (ℕ × File) Code → Result Found Status → Type 0
FoundAs tracks c d (Ok p) (Ok found) = IsFound tracks c d p.0 p.1 found
FoundAs tracks c d (Ok p) (Err status) = ⊥
FoundAs tracks c d (Err code) (Ok found) = ⊥
FoundAs tracks c d (Err code) (Err status) = status ≡ plain code

-- the entry of a closed file with bytes that no channel writes, which stands in the directory at the slot's number
pub record IsReadable (tracks : ℕ) (c : Content) (m : Machine) (s : ℕ) (found : Found) : Type 0 where
  pub number : s ≡ found.slot
  pub stands : EntryStandsAt tracks c s found.entry
  pub has : HasBytes m.disk s (bytes_in (body_at m.disk s))
  pub unwritten : in_writing m s ≡ false

-- A new file can be written: its type and name are those that a text gives, and the disk has a block and a place for it.
pub record IsWritable (m : Machine) (kind : FileType) (name : List ℕ) : Type 0 where
  pub kept : is_same_type Del kind ≡ false
  pub plain : is_same_type Rel kind ≡ false
  pub cut : before_filler name ≡ name
  pub block : (m.disk.free == 0) ≡ false
  pub place : has_slot m.disk ≡ true
  pub unprotected : m.protected ≡ false

-- Bytes can be put after those of a file: it is closed, has bytes, and is open on no channel; and its entry stands in the
-- directory at the slot's number.
pub record IsAppendable (tracks : ℕ) (c : Content) (m : Machine) (s : ℕ) (found : Found) : Type 0 where
  pub number : s ≡ found.slot
  pub stands : EntryStandsAt tracks c s found.entry
  pub file : File
  pub in_slot : file_at m.disk s ≡ Some file
  pub closed : file.closed ≡ true
  pub kept : is_same_type Del file.kind ≡ false
  pub plain : is_same_type Rel file.kind ≡ false
  pub unused : in_use m s ≡ false
  pub unprotected : m.protected ≡ false

-- A file can be replaced: it is closed, has bytes, and is open on no channel; and a block is free.
pub record IsReplaceable (m : Machine) (s slot : ℕ) : Type 0 where
  pub number : s ≡ slot
  pub file : File
  pub in_slot : file_at m.disk s ≡ Some file
  pub closed : file.closed ≡ true
  pub plain : is_same_type Rel file.kind ≡ false
  pub unused : in_use m s ≡ false
  pub block : (m.disk.free == 0) ≡ false
  pub unprotected : m.protected ≡ false

-- The records of a file can be opened: it is closed and relative, no channel writes it, and its entry stands in the directory at
-- the slot's number.
pub record IsRelatable (tracks : ℕ) (c : Content) (m : Machine) (s : ℕ) (found : Found) : Type 0 where
  pub number : s ≡ found.slot
  pub stands : EntryStandsAt tracks c s found.entry
  pub file : File
  pub in_slot : file_at m.disk s ≡ Some file
  pub closed : file.closed ≡ true
  pub relative : is_same_type Rel file.kind ≡ true
  pub width : record_length_in file.body ≡ width_of found.entry
  pub unwritten : in_writing m s ≡ false

-- A new relative file can be made: its name is one that a text gives, its records have a byte, and the disk has two blocks and a place for
-- it.
pub record IsMakeable (m : Machine) (name : List ℕ) (length : ℕ) : Type 0 where
  pub cut : before_filler name ≡ name
  pub some : 1 ≤ length
  pub room : (nat_lt m.disk.free 2 || not (has_slot m.disk)) ≡ false
  pub unprotected : m.protected ≡ false

-- the code's plan is the machine's, and can be done
abbrev pub IsPlannedBy : ℕ → Content → Machine → Plan → code.Plan → Type 0
IsPlannedBy tracks c m (ReadListing p) (planned.ReadListing q) = p ≡ q
IsPlannedBy tracks c m (ReadFile s) (planned.ReadFile found) = IsReadable tracks c m s found
IsPlannedBy tracks c m (WriteFile kind name) (planned.WriteFile k n) = (kind ≡ k) × (name ≡ n) × IsWritable m kind name
IsPlannedBy tracks c m (AppendFile s) (planned.AppendFile found) = IsAppendable tracks c m s found
IsPlannedBy tracks c m (ReplaceFile s) (planned.ReplaceFile slot) = IsReplaceable m s slot
IsPlannedBy tracks c m (OpenRecords s) (planned.OpenRecords found) = IsRelatable tracks c m s found
IsPlannedBy tracks c m (MakeRecords name length) (planned.MakeRecords n l) = (name ≡ n) × (length ≡ l) × IsMakeable m name length
IsPlannedBy tracks c m p x = ⊥

-- the code plans what the machine plans, or refuses by the same code
abbrev pub PlannedAs : ℕ → Content → Machine → Result Plan Code → Result code.Plan Status → Type 0
PlannedAs tracks c m (Ok p) (Ok x) = IsPlannedBy tracks c m p x
PlannedAs tracks c m (Ok p) (Err status) = ⊥
PlannedAs tracks c m (Err code) (Ok x) = ⊥
PlannedAs tracks c m (Err code) (Err status) = status ≡ plain code

-- the slot's file, whose bytes and blocks go to the channel
abbrev pub appended_to : Option File → ℕ → Channel
appended_to None s = Closed
appended_to (Some f) s = Writing s (bytes_in f.body) f.held false false

abbrev pub reopened_at : Option File → Disk → ℕ → Disk
reopened_at None d s = d
reopened_at (Some f) d s = with_slot d s (Some (reopened f))

-- The channel that a plan opens, and the disk then.
abbrev pub opened_by : Disk → Plan → Channel
opened_by d (ReadListing p) = Reading None (listing d p)
opened_by d (ReadFile s) = Reading (Some s) (bytes_in (body_at d s))
opened_by d (WriteFile kind name) = Writing (new_slot d) [] 1 false false
opened_by d (AppendFile s) = appended_to (file_at d s) s
opened_by d (ReplaceFile s) = Writing s [] 1 false true
opened_by d (OpenRecords s) = Relative s 1 1
opened_by d (MakeRecords name len) = Relative (new_slot d) 1 1

abbrev pub disk_opened : Disk → Plan → Disk
disk_opened d (ReadListing p) = d
disk_opened d (ReadFile s) = d
disk_opened d (WriteFile kind name) = with_file d (unclosed kind name) 1
disk_opened d (AppendFile s) = reopened_at (file_at d s) d s
disk_opened d (ReplaceFile s) = record d { free = d.free - 1 }
disk_opened d (OpenRecords s) = d
disk_opened d (MakeRecords name len) = with_new_records d name len

-- The channel was opened by the plan: it represents the machine's, what waits on it is there, and the medium holds the disk that the plan leaves. A disk
-- without a place is none that was planned for.
abbrev pub IsOpened : ℕ → Content → Machine → ℕ → Plan → (ℕ → Use) → Option kept.Channel → Type 0
IsOpened tracks c m ch p uses None = ⊥
IsOpened tracks c m ch p uses (Some x) =
    ChannelStands x (opened_by m.disk p) × (WaitsFor (disk_opened m.disk p) x) × HoldsNow tracks c (disk_opened m.disk p) (with_use uses ch (use_of x (opened_by m.disk p)))

-- what an OPEN asks for came from a text
abbrev pub IsOfText : Opening → Type 0
IsOfText o = (ch : ℕ) × (text : List ℕ) × (opening_of ch text ≡ Ok o)

-- it asks for a file to be written, or for a relative one, which may be made
abbrev pub is_for_writing : Opening → Bool
is_for_writing (opening.Listing pattern) = false
is_for_writing (opening.File w) = if wants_relative w then true else elim w.mode [ Read ↦ false | _ ↦ true ]

-- the text of an OPEN does; on 15 it is a command, which may change the disk
abbrev pub text_writes : ℕ → List ℕ → Bool
text_writes ch text = if ch == 15 then commands_change text else elim (opening_of ch text) [ Ok o ↦ is_for_writing o | Err e ↦ false ]

-- a file is written by what was planned
abbrev pub plan_writes : code.Plan → Bool
plan_writes (planned.ReadListing q) = false
plan_writes (planned.ReadFile found) = false
plan_writes (planned.WriteFile kind name) = true
plan_writes (planned.AppendFile found) = true
plan_writes (planned.ReplaceFile slot) = true
plan_writes (planned.OpenRecords found) = false
plan_writes (planned.MakeRecords name length) = true

-- the records of a new relative file have 1 to 254 bytes
abbrev pub IsSized : code.Plan → Type 0
IsSized (planned.ReadListing q) = Unit {0}
IsSized (planned.ReadFile found) = Unit {0}
IsSized (planned.WriteFile kind name) = Unit {0}
IsSized (planned.AppendFile found) = Unit {0}
IsSized (planned.ReplaceFile slot) = Unit {0}
IsSized (planned.OpenRecords found) = Unit {0}
IsSized (planned.MakeRecords name length) = (1 ≤ length) × (length ≤ 254)

-- an OPEN that was read is planned and done
abbrev pub begun_by : ℕ → Opening → Machine → Machine
begun_by ch o m = answered m (plan ch o m >>= λ p. Ok (say Fine (act ch p m)))
