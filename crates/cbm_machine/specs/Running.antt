-- The commands.
use Rattle.std.specs.Prelude.{ℕ, ◌+◌, ◌-◌, ◌==◌, nat_lt, Bool, ◌&&◌, ◌||◌, not, List, [], ◌∷◌, length, flat_map, if◌then◌else◌, Option, Some, None, is_some, Result, Ok, Err}
use Rattle.std.specs.List.{list_any}
use Rattle.cbm_file.specs.declared.file_type.FileType.TheVariants.{Del, Rel}
use Rattle.cbm_file.specs.Files.{Bytes, File, Disk, blocks_of, held_on, files, with_slot, bytes_in, record_length_in}
use Rattle.cbm_command.specs.declared.command.Command.{Command}
use Rattle.cbm_command.specs.declared.command.Command.TheVariants.{New, Scratch, Rename, Copy, Validate, Initialize, Position}
use Rattle.cbm_command.specs.Names.{is_match}
use Rattle.cbm_command.specs.Refusals.{◌>>=◌, unless}
use Rattle.cbm_machine.specs.declared.code.Code.{Code}
use Rattle.cbm_machine.specs.declared.code.Code.TheVariants.{Fine, FilesScratched, WriteProtected, NoName, NoRecord, RecordOverflow, WriteFileOpen, FileExists, WrongType, NoChannel, DiskFull}
use Rattle.cbm_machine.specs.Machines.{Channel, Closed, Relative, Machine, with_status, say, with_disk, channel, with_channel, in_use, in_writing, any_open}
use Rattle.cbm_file.specs.Changes.{new_disk, has_slot, with_file, closed_file, validated}
use Rattle.cbm_machine.specs.Finding.{is_kind, is_there, found, body_at}
use Rattle.cbm_file.specs.Records.{record_at}

-- ---- S

-- the file matches a pattern, isn't locked and isn't open
abbrev pub may_go : Machine → List (List ℕ) → ℕ → File → Bool
may_go m patterns n f = list_any (λ p. is_match p f.name) patterns && not f.locked && not (in_use m n)

-- the slots, counted from n, without those that may go
abbrev pub kept_slots : Machine → List (List ℕ) → ℕ → List (Option File) → List (Option File)
kept_slots m ps n [] = []
kept_slots m ps n (None ∷ slots) = None ∷ kept_slots m ps (n + 1) slots
kept_slots m ps n (Some f ∷ slots) = (if may_go m ps n f then None else Some f) ∷ kept_slots m ps (n + 1) slots

-- the disk without them; what they held is free
abbrev pub scratched_disk : Machine → List (List ℕ) → Disk
scratched_disk m ps =
    let d = record m.disk { slots = kept_slots m ps 0 m.disk.slots } in
    record d { free = m.disk.free + (held_on m.disk - held_on d) }

-- the count of the files that went is reported
abbrev pub scratch : List (List ℕ) → Machine → Result Machine Code
scratch ps m =
    let d = scratched_disk m ps in
    let count = length (files m.disk) - length (files d) in
    unless ((nat_lt 0 count && m.protected, WriteProtected) ∷ [])
    (Ok (with_status (record { code = FilesScratched; first = count; second = 0 }) (with_disk d m)))

-- ---- R

-- the found file gets the name
abbrev pub rename_to : List ℕ → Machine → ℕ × File → Result Machine Code
rename_to new m (s, f) = unless
    ((in_writing m s, WriteFileOpen) ∷ (is_there m.disk new, FileExists) ∷ (m.protected, WriteProtected) ∷ [])
    (Ok (say Fine (with_disk (with_slot m.disk s (Some (record f { name = new }))) m)))

-- a name is changed
abbrev pub rename : List ℕ → List ℕ → Machine → Result Machine Code
rename new old m = found m.disk old None >>= rename_to new m

-- ---- C

-- a file whose bytes can be copied
abbrev pub source : Disk → List ℕ → Result File Code
source d name = found d name None >>= λ p.
    unless ((is_kind Rel p.1 || is_kind Del p.1, WrongType) ∷ (not p.1.closed, WriteFileOpen) ∷ []) (Ok p.1)

-- several, in order
abbrev pub sources : Disk → List (List ℕ) → Result (List File) Code
sources d [] = Ok []
sources d (n ∷ ns) = source d n >>= λ f. sources d ns >>= λ fs. Ok (f ∷ fs)

-- a file of the first one's type with the bytes of all
abbrev pub copied : List ℕ → List File → Machine → Result Machine Code
copied new [] m = Err NoName
copied new (f ∷ fs) m =
    let bytes = flat_map (λ (g : File). bytes_in g.body) (f ∷ fs) in
    let n = blocks_of (length bytes) in
    unless ((nat_lt m.disk.free n || not (has_slot m.disk), DiskFull) ∷ (m.protected, WriteProtected) ∷ [])
    (Ok (say Fine (with_disk (with_file m.disk (closed_file f.kind new n (Bytes bytes)) n) m)))

-- files are joined into a new one
abbrev pub copy : List ℕ → List (List ℕ) → Machine → Result Machine Code
copy new olds m = unless ((is_there m.disk new, FileExists) ∷ []) (sources m.disk olds >>= λ fs. copied new fs m)

-- ---- P

-- A relative channel gets the place; whether the record is there is reported.
abbrev pub place : ℕ → ℕ → ℕ → Channel → Machine → Result Machine Code
place ch k p (Relative s _ _) m =
    unless ((nat_lt (record_length_in (body_at m.disk s)) p, RecordOverflow) ∷ [])
    (Ok (say (if is_some (record_at (body_at m.disk s) k) then Fine else NoRecord) (with_channel ch (Relative s k p) m)))
place ch k p Closed m = Err NoChannel
place ch k p _ m = Err WrongType

-- ---- all commands

-- a command is carried out or refused
abbrev pub run : Command → Machine → Result Machine Code
run (New name id) m = unless ((any_open m, WriteFileOpen) ∷ (m.protected, WriteProtected) ∷ []) (Ok (say Fine (with_disk (new_disk m.tracks name id m.disk) m)))
run (Scratch patterns) m = scratch patterns m
run (Rename new old) m = rename new old m
run (Copy new olds) m = copy new olds m
run Validate m = unless ((any_open m, WriteFileOpen) ∷ (m.protected, WriteProtected) ∷ []) (Ok (say Fine (with_disk (validated m.disk) m)))
run Initialize m = Ok (say Fine m)
run (Position ch k p) m = if ch == 15 then Err NoChannel else place ch k p (channel m ch) m
