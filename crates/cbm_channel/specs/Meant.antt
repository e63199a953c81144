-- Which files a name means, as the directory leads, and what a command does with them, on any disk.
use Rattle.std.specs.Prelude.{ℕ, ◌≡◌, false, List, [], ◌∷◌, length, slice_index_or, Option, Some, None, Result, Ok, Err}
use Rattle.cbm_file.specs.declared.file_type.FileType.{FileType}
use Rattle.cbm_medium.specs.Content.{Content}
use Rattle.cbm_medium.specs.Seen.{Seen}
use Rattle.cbm_chain.specs.Reading.{Reading, rest_of}
use Rattle.cbm_directory.specs.Entries.{first_block, width_of}
use Rattle.cbm_directory.specs.Slots.{Finds}
use Rattle.cbm_volume.specs.SeenDisks.{seen_directory, seen_chain}
use Rattle.cbm_volume.specs.Writers.{Filling}
use Rattle.cbm_volume.specs.Beginning.{NewFileLed, ReplacementLed}
use Rattle.cbm_volume.specs.NewDisks.{EmptiesDisk}
use Rattle.cbm_volume.specs.NewRecords.{NewRecordsLed}
use Rattle.cbm_volume.specs.Led.{RenamesLed, ScratchesLed, ReopensLed, AppendsTo}
use Rattle.cbm_volume.specs.Copying.{CopyLed}
use Rattle.cbm_command.specs.declared.command.Command.{Command}
use Rattle.cbm_command.specs.declared.command.Command.TheVariants.{New, Scratch, Rename, Copy, Validate, Initialize, Position}
use Rattle.cbm_command.specs.declared.opening.Opening.{Opening}
use Rattle.cbm_command.specs.declared.opening.Opening.TheVariants as opening
use Rattle.cbm_command.specs.declared.opening.Wanted.{Wanted}
use Rattle.cbm_command.specs.declared.refusal.Refusal.{Refusal}
use Rattle.cbm_command.specs.Commands.{command_of}
use Rattle.cbm_machine.specs.declared.status.Status.{Status}
use Rattle.cbm_machine.specs.declared.code.Code.TheVariants.{Fine, FilesScratched}
use Rattle.cbm_machine.specs.Calls.{without_return}
use Rattle.cbm_channel.specs.declared.channel.Channel.{Channel}
use Rattle.cbm_channel.specs.declared.channel.Channel.TheVariants.{Closed, File, Writing, Records}
use Rattle.cbm_channel.specs.declared.plan.Plan.{Plan}
use Rattle.cbm_channel.specs.declared.plan.Plan.TheVariants.{ReadListing, ReadFile, WriteFile, AppendFile, ReplaceFile, OpenRecords, MakeRecords}
use Rattle.cbm_channel.specs.Placed.{Placed}
use Rattle.cbm_channel.specs.Standing.{Kept}
use Rattle.cbm_channel.specs.Grounds.{IsNotOk}
use Rattle.cbm_channel.specs.Commanded.{entries_going}
use Rattle.cbm_channel.specs.Sought.{is_sought}

-- the first entry whose name matches, of the type that is asked for, if one is
abbrev pub IsFirstOf : Seen → List ℕ → Option FileType → ℕ → List ℕ → Type 0
IsFirstOf now pattern kind slot entry = Finds (is_sought pattern kind) (seen_directory now) (Ok (Some (slot, entry)))

-- no entry up to the directory's end has the name
abbrev pub IsNewName : Seen → List ℕ → Type 0
IsNewName now name = Finds (is_sought name None) (seen_directory now) (Ok None)

-- the first file of the old name is in this slot, and none has the new one
abbrev pub IsRenameMeant : Seen → List ℕ → List ℕ → ℕ → Type 0
IsRenameMeant now new old slot = ((entry : List ℕ) × IsFirstOf now old None slot entry) × IsNewName now new

-- R OF ANY DISK: the first file of the old name got the new one, which none had.
abbrev pub RenamesMeant : Seen → Seen → List ℕ → List ℕ → Type 0
RenamesMeant before after new old = (slot : ℕ) × IsRenameMeant before new old slot × RenamesLed before after slot new

-- C OF ANY DISK: a copy was made under the new name, which no file had.
abbrev pub CopiesMeant : Seen → Seen → List ℕ → Type 0
CopiesMeant before after new = IsNewName before new × (kind : FileType) × CopyLed before after kind new

-- each of these slots was scratched, one after another
abbrev pub ScratchesEach : Seen → Seen → List ℕ → Type 0
ScratchesEach before after [] = after.content ≡ before.content
ScratchesEach before after (slot ∷ rest) =
    (mid : Content) × ScratchesLed before (record before { content = mid }) slot × ScratchesEach (record before { content = mid }) after rest

-- S OF ANY DISK: the entries that may go were scratched, as the directory led to them before, and this is their number.
abbrev pub ScratchesMeant : List Channel → Seen → Seen → List (List ℕ) → ℕ → Type 0
ScratchesMeant channels before after patterns number =
    let slots = entries_going channels patterns 0 (seen_directory before).entries in ScratchesEach before after slots × (number ≡ length slots)

-- ---- what is reported

-- WHAT IS REPORTED AS DONE WAS DONE, on any disk: S, whose status is never 00, where it is 01, and N, R and C, where it is 00. (Of V
-- OrdersDisk says it.)
abbrev pub WasDone : Command → List Channel → Seen → Seen → Status → Type 0
WasDone (New title id) channels before after status = status.code ≡ Fine → EmptiesDisk (Ok tt) title id before after
WasDone (Scratch patterns) channels before after status = IsNotOk status × (status.code ≡ FilesScratched → ScratchesMeant channels before after patterns status.first)
WasDone (Rename new old) channels before after status = status.code ≡ Fine → RenamesMeant before after new old
WasDone (Copy new olds) channels before after status = status.code ≡ Fine → CopiesMeant before after new
WasDone Validate channels before after status = Unit {0}
WasDone Initialize channels before after status = Unit {0}
WasDone (Position ch k p) channels before after status = Unit {0}

-- the same of what was read of a text
abbrev pub ReadWasDone : Result Command Refusal → List Channel → Seen → Seen → Status → Type 0
ReadWasDone (Ok command) channels before after status = WasDone command channels before after status
ReadWasDone (Err refusal) channels before after status = Unit {0}

-- the same of a command's text, by what the drive keeps before and after
abbrev pub TextWasDone : {M : Type 0} → (M → Seen) → List ℕ → Kept M → Kept M → Type 0
TextWasDone seen text old new = ReadWasDone (command_of (without_return text)) old.channels (seen old.medium) (seen new.medium) new.told.status

-- ---- OPEN

-- WHICH FILE AN OPEN IS ABOUT, on any disk: the first that its name means, as the directory leads; or a new one, where none has the name.
abbrev pub IsFileMeant : Seen → Wanted → Plan → Type 0
IsFileMeant now wanted (ReadListing pattern) = ⊥
IsFileMeant now wanted (ReadFile found) = IsFirstOf now wanted.name wanted.kind found.slot found.entry
IsFileMeant now wanted (WriteFile kind name) = (wanted.kind ≡ Some kind) × (name ≡ wanted.name) × IsNewName now wanted.name
IsFileMeant now wanted (AppendFile found) = IsFirstOf now wanted.name wanted.kind found.slot found.entry
IsFileMeant now wanted (ReplaceFile slot) = (entry : List ℕ) × IsFirstOf now wanted.name wanted.kind slot entry
IsFileMeant now wanted (OpenRecords found) = IsFirstOf now wanted.name wanted.kind found.slot found.entry
IsFileMeant now wanted (MakeRecords name width) = (name ≡ wanted.name) × (width ≡ wanted.record_length) × IsNewName now wanted.name

-- or it asks for the listing
abbrev pub IsPlanMeant : Seen → Opening → Plan → Type 0
IsPlanMeant now (opening.Listing pattern) plan = plan ≡ ReadListing pattern
IsPlanMeant now (opening.File wanted) plan = IsFileMeant now wanted plan

-- a channel is at the first byte of the first record of a slot's file, whose records are this long
abbrev pub IsAtFirstRecord : ℕ → ℕ → Channel → Type 0
IsAtFirstRecord slot width x = (r : Placed) × (x ≡ Records r) × (r.slot ≡ slot) × (r.width ≡ width) × (r.number ≡ 1) × (r.position ≡ 1)

-- WHAT WAS OPENED BY A PLAN, on any disk: the channel reads the chain of the entry that was found, or is at the first of its records; or it
-- writes what the plan says, and the medium was written as such a file begins; or a new relative file was made, and the channel is at its
-- first record.
abbrev pub PlanWasDone : Plan → Seen → Seen → Channel → Type 0
PlanWasDone (ReadListing pattern) before after x = Unit {0}
PlanWasDone (ReadFile found) before after x = (r : Reading) × (x ≡ File found.slot r) × (rest_of before.content r ≡ seen_chain before (first_block found.entry))
PlanWasDone (WriteFile kind name) before after x = (w : Filling) × (x ≡ Writing w false) × NewFileLed before after kind name w
PlanWasDone (AppendFile found) before after x =
    (w : Filling) × (x ≡ Writing w false) × AppendsTo before found.slot found.entry w × ReopensLed before after found.slot found.entry
PlanWasDone (ReplaceFile slot) before after x = (w : Filling) × (x ≡ Writing w false) × ReplacementLed before after slot w
PlanWasDone (OpenRecords found) before after x = IsAtFirstRecord found.slot (width_of found.entry) x
PlanWasDone (MakeRecords name width) before after x = (slot : ℕ) × NewRecordsLed before after name width slot × IsAtFirstRecord slot width x

-- AN OPEN THAT IS REPORTED AS DONE WAS DONE, on any disk and a closed channel: where the status is 00, the channel is open by a plan that
-- is meant.
abbrev pub OpeningWasDone : {M : Type 0} → (M → Seen) → ℕ → Opening → Kept M → Kept M → Type 0
OpeningWasDone seen ch asked old new = new.told.status.code ≡ Fine →
    (plan : Plan) × IsPlanMeant (seen old.medium) asked plan × PlanWasDone plan (seen old.medium) (seen new.medium) (slice_index_or new.channels ch Closed)
