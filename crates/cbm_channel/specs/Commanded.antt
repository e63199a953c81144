-- What a command will do, beside what the machine does.
use Rattle.std.specs.Prelude.{ℕ, ◌+◌, ◌≡◌, ◌≢◌, ◌==◌, ◌&&◌, Bool, true, false, not, List, [], ◌∷◌, if◌then◌else◌, Option, Some, None, Result, Ok, Err}
use Rattle.std.specs.List.{list_any}
use Rattle.cbm_file.specs.Files.{File, Disk, file_at}
use Rattle.cbm_file.specs.Changes.{scratched}
use Rattle.cbm_command.specs.declared.command.Command.{Command}
use Rattle.cbm_command.specs.declared.command.Command.TheVariants.{New, Scratch, Rename, Copy, Validate, Initialize, Position}
use Rattle.cbm_command.specs.declared.refusal.Refusal.{Refusal}
use Rattle.cbm_command.specs.Commands.{command_of}
use Rattle.cbm_command.specs.Names.{is_match}
use Rattle.cbm_directory.specs.Entries.{type_byte, bit_of, name_in}
use Rattle.cbm_volume.specs.Opens.{IsUnused}
use Rattle.cbm_volume.specs.Writers.{Use}
use Rattle.cbm_machine.specs.declared.code.Code.{Code}
use Rattle.cbm_machine.specs.declared.code.Code.TheVariants.{WriteProtected}
use Rattle.cbm_machine.specs.declared.status.Status.{Status}
use Rattle.cbm_machine.specs.Statuses.{plain}
use Rattle.cbm_machine.specs.Machines.{Machine, in_writing}
use Rattle.cbm_machine.specs.Finding.{is_there, found}
use Rattle.cbm_machine.specs.Running.{may_go, rename, scratch}
use Rattle.cbm_machine.specs.Calls.{without_return}
use Rattle.cbm_channel.specs.declared.channel.Channel.{Channel}
use Rattle.cbm_channel.specs.Standing.{SameBut}
use Rattle.cbm_channel.specs.Shown.{uses_on}

-- a command came from a text
abbrev pub IsOfCommandText : Command → Type 0
IsOfCommandText command = (text : List ℕ) × (command_of text ≡ Ok command)

-- it is one that may change the disk
abbrev pub changes_disk : Command → Bool
changes_disk (New name id) = true
changes_disk (Scratch patterns) = true
changes_disk (Rename new old) = true
changes_disk (Copy new olds) = true
changes_disk Validate = true
changes_disk Initialize = false
changes_disk (Position ch k p) = false

-- the text of a command does
abbrev pub commands_change : List ℕ → Bool
commands_change text = elim (command_of (without_return text)) [ Ok command ↦ changes_disk command | Err e ↦ false ]

-- the text that is gathered for channel 15 does, when it is ended
abbrev pub ends_command : ℕ → Option (ℕ × List ℕ) → Bool
ends_command ch None = false
ends_command ch (Some t) = (ch == 15) && ((t.0 == 15) && commands_change t.1)

-- ---- N

-- it is NEW, which leaves no file of the disk
abbrev pub formats : Command → Bool
formats (New name id) = true
formats (Scratch patterns) = false
formats (Rename new old) = false
formats (Copy new olds) = false
formats Validate = false
formats Initialize = false
formats (Position ch k p) = false

-- the text of a command is
abbrev pub text_formats : List ℕ → Bool
text_formats text = elim (command_of (without_return text)) [ Ok command ↦ formats command | Err e ↦ false ]

-- the text of an OPEN is
abbrev pub open_formats : ℕ → List ℕ → Bool
open_formats ch text = (ch == 15) && text_formats text

-- the text that is gathered for channel 15 is
abbrev pub end_formats : ℕ → Option (ℕ × List ℕ) → Bool
end_formats ch None = false
end_formats ch (Some t) = (ch == 15) && ((t.0 == 15) && text_formats t.1)

-- ---- P

-- the channel whose place a command sets
abbrev pub moved_by : Command → Option ℕ
moved_by (New name id) = None
moved_by (Scratch patterns) = None
moved_by (Rename new old) = None
moved_by (Copy new olds) = None
moved_by Validate = None
moved_by Initialize = None
moved_by (Position ch k p) = Some ch

-- the same of a command's text
abbrev pub text_moves : List ℕ → Option ℕ
text_moves text = elim (command_of (without_return text)) [ Ok command ↦ moved_by command | Err e ↦ None ]

-- the text that is gathered for a channel, when it is ended: a command's, or bytes for the channel's own records
abbrev pub end_moves : ℕ → Option (ℕ × List ℕ) → Option ℕ
end_moves ch None = None
end_moves ch (Some t) = if ch == 15 then (if t.0 == 15 then text_moves t.1 else None) else Some ch

-- all channels but this one, if there is one, are as they were
abbrev pub AreSameBut : Option ℕ → List Channel → List Channel → Type 0
AreSameBut None old new = new ≡ old
AreSameBut (Some ch) old new = SameBut ch old new

-- ---- V

-- it is VALIDATE
abbrev pub validates : Command → Bool
validates (New name id) = false
validates (Scratch patterns) = false
validates (Rename new old) = false
validates (Copy new olds) = false
validates Validate = true
validates Initialize = false
validates (Position ch k p) = false

-- the text of a command is
abbrev pub text_validates : List ℕ → Bool
text_validates text = elim (command_of (without_return text)) [ Ok command ↦ validates command | Err e ↦ false ]

-- the text of an OPEN is
abbrev pub open_validates : ℕ → List ℕ → Bool
open_validates ch text = (ch == 15) && text_validates text

-- the text that is gathered for channel 15 is
abbrev pub end_validates : ℕ → Option (ℕ × List ℕ) → Bool
end_validates ch None = false
end_validates ch (Some t) = (ch == 15) && ((t.0 == 15) && text_validates t.1)

-- ---- R

-- The slot has the first file of the old name, which no channel writes; and no file has the new name.
pub record IsRenamable (m : Machine) (new old : List ℕ) (slot : ℕ) : Type 0 where
  pub file : File
  pub first : found m.disk old None ≡ Ok (slot, file)
  pub in_slot : file_at m.disk slot ≡ Some file
  pub unwritten : in_writing m slot ≡ false
  pub fresh : is_there m.disk new ≡ false
  pub unprotected : m.protected ≡ false

-- the slot whose file gets the name, or the machine's refusal
abbrev pub RenamesAs : Machine → List ℕ → List ℕ → Result ℕ Status → Type 0
RenamesAs m new old (Ok slot) = IsRenamable m new old slot
RenamesAs m new old (Err status) = (code : Code) × (rename new old m ≡ Err code) × (status ≡ plain code)

-- ---- S

-- the file of an entry may go: a pattern matches its name, it isn't locked, and no channel has its slot open
abbrev pub entry_may_go : List Channel → List (List ℕ) → ℕ → List ℕ → Bool
entry_may_go channels patterns n entry =
    not (type_byte entry == 0) && list_any (λ p. is_match p (name_in entry)) patterns && not (bit_of (type_byte entry) 6) && not (list_any (uses_on n) channels)

-- the numbers of the entries that may go, counted from n
abbrev pub entries_going : List Channel → List (List ℕ) → ℕ → List (List ℕ) → List ℕ
entries_going channels ps n [] = []
entries_going channels ps n (e ∷ entries) = if entry_may_go channels ps n e then n ∷ entries_going channels ps (n + 1) entries else entries_going channels ps (n + 1) entries

-- the numbers of the slots that the machine clears, counted from n
abbrev pub slots_going : Machine → List (List ℕ) → ℕ → List (Option File) → List ℕ
slots_going m ps n [] = []
slots_going m ps n (None ∷ slots) = slots_going m ps (n + 1) slots
slots_going m ps n (Some f ∷ slots) = if may_go m ps n f then n ∷ slots_going m ps (n + 1) slots else slots_going m ps (n + 1) slots

-- the number is one of these
abbrev pub is_slot_among : List ℕ → ℕ → Bool
is_slot_among ns n = list_any (λ k. k == n) ns

-- the slots that a command clears: of S those of the files that may go
abbrev pub cleared_by : Command → Machine → ℕ → Bool
cleared_by (New name id) m n = false
cleared_by (Scratch ps) m n = is_slot_among (slots_going m ps 0 m.disk.slots) n
cleared_by (Rename new old) m n = false
cleared_by (Copy new olds) m n = false
cleared_by Validate m n = false
cleared_by Initialize m n = false
cleared_by (Position ch k p) m n = false

-- the same of what was read of a text
abbrev pub read_clears : Result Command Refusal → Machine → ℕ → Bool
read_clears (Ok command) m n = cleared_by command m n
read_clears (Err e) m n = false

-- the same of a command's text
abbrev pub text_clears : List ℕ → Machine → ℕ → Bool
text_clears text m n = read_clears (command_of (without_return text)) m n

-- the same of the text that is gathered for channel 15, when it is ended
abbrev pub end_clears : Option (ℕ × List ℕ) → Machine → ℕ → Bool
end_clears None m n = false
end_clears (Some t) m n = (t.0 == 15) && text_clears t.1 m n

-- the slots of these numbers are scratched, one after another
abbrev pub all_scratched : Disk → List ℕ → Disk
all_scratched d [] = d
all_scratched d (n ∷ ns) = all_scratched (scratched d n) ns

-- the slot has a file that no channel has open
pub record CanGo (d : Disk) (uses : ℕ → Use) (n : ℕ) : Type 0 where
  pub file : File
  pub in_slot : file_at d n ≡ Some file
  pub unused : IsUnused uses n

-- each of the slots can go when its turn has come
abbrev pub CanAllGo : Disk → (ℕ → Use) → List ℕ → Type 0
CanAllGo d uses [] = Unit {0}
CanAllGo d uses (n ∷ ns) = CanGo d uses n × CanAllGo (scratched d n) uses ns

-- the slots that the machine clears, none on a protected disk
pub record AreSlotsGoing (m : Machine) (ps : List (List ℕ)) (slots : List ℕ) : Type 0 where
  pub all : slots ≡ slots_going m ps 0 m.disk.slots
  pub unprotected : slots ≢ [] → m.protected ≡ false

-- or its refusal
abbrev pub RefusesScratch : Machine → List (List ℕ) → Status → Type 0
RefusesScratch m ps status = (scratch ps m ≡ Err WriteProtected) × (status ≡ plain WriteProtected)

-- where the disk is protected, there are none to be cleared
pub record AreUnguarded (protected : Bool) (slots : List ℕ) : Type 0 where
  pub unprotected : slots ≢ [] → protected ≡ false
