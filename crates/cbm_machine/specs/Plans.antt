-- OPEN in two halves: what it will do, or its refusal; and the doing, which is never refused.
use Rattle.std.specs.Prelude.{ℕ, ◌-◌, ◌==◌, nat_lt, Bool, true, false, ◌&&◌, ◌||◌, not, List, [], ◌∷◌, if◌then◌else◌, Option, Some, None, Result, Ok, Err}
use Rattle.cbm_file.specs.declared.file_type.FileType.{FileType}
use Rattle.cbm_file.specs.declared.file_type.FileType.TheVariants.{Del, Rel}
use Rattle.cbm_file.specs.Files.{File, file_at, with_slot, bytes_in, record_length_in}
use Rattle.cbm_file.specs.Changes.{has_slot, new_slot, with_file, unclosed, closed_file, reopened}
use Rattle.cbm_command.specs.declared.refusal.Refusal.{Refusal}
use Rattle.cbm_command.specs.declared.opening.Mode.{Mode}
use Rattle.cbm_command.specs.declared.opening.Mode.TheVariants.{Read, Write, Append}
use Rattle.cbm_command.specs.declared.opening.Wanted.{Wanted}
use Rattle.cbm_command.specs.declared.opening.Opening.{Opening}
use Rattle.cbm_command.specs.declared.opening.Opening.TheVariants as opening
use Rattle.cbm_command.specs.Refusals.{◌>>=◌, unless}
use Rattle.cbm_command.specs.Openings.{wants_relative, opening_of}
use Rattle.cbm_machine.specs.declared.code.Code.{Code}
use Rattle.cbm_machine.specs.declared.code.Code.TheVariants.{Fine, WriteProtected, NoRecord, WriteFileOpen, FileNotFound, FileExists, WrongType, NoChannel, DiskFull}
use Rattle.cbm_machine.specs.Codes.{code_of_refusal}
use Rattle.cbm_machine.specs.Listings.{listing}
use Rattle.cbm_machine.specs.Machines.{Machine, Reading, Writing, Relative, with_disk, with_free, with_channel, say, answered, in_use, in_writing, too_many}
use Rattle.cbm_machine.specs.Finding.{is_kind, is_there, found, body_at}
use Rattle.cbm_file.specs.Records.{new_records}

-- What an OPEN will do. Slots go by number.
pub data Plan : Type 0 where
  ReadListing : (pattern : List ℕ) → Plan
  ReadFile : (slot : ℕ) → Plan
  WriteFile : (kind : FileType) (name : List ℕ) → Plan
  AppendFile : (slot : ℕ) → Plan
  ReplaceFile : (slot : ℕ) → Plan
  OpenRecords : (slot : ℕ) → Plan
  MakeRecords : (name : List ℕ) (record_length : ℕ) → Plan

-- ---- what an OPEN will do

-- the found file is read; a relative one gives a relative channel
abbrev pub plan_read : Wanted → Machine → ℕ × File → Result Plan Code
plan_read w m (s, f) = unless
    ((is_kind Del f || (is_kind Rel f && w.has_at), WrongType) ∷ (not f.closed || in_writing m s, WriteFileOpen) ∷ [])
    (Ok (if is_kind Rel f then OpenRecords s else ReadFile s))

-- a new name is written
abbrev pub plan_write : Wanted → FileType → Machine → Result Plan Code
plan_write w kind m = unless
    ((is_there m.disk w.name, FileExists) ∷ ((m.disk.free == 0) || not (has_slot m.disk), DiskFull) ∷ (m.protected, WriteProtected) ∷ [])
    (Ok (WriteFile kind w.name))

-- bytes are put after those of the found file
abbrev pub plan_append : Machine → ℕ × File → Result Plan Code
plan_append m (s, f) = unless
    ((is_kind Del f || is_kind Rel f, WrongType) ∷ (not f.closed || in_use m s, WriteFileOpen) ∷ (m.protected, WriteProtected) ∷ [])
    (Ok (AppendFile s))

-- the found file is replaced
abbrev pub plan_replace : Machine → ℕ × File → Result Plan Code
plan_replace m (s, f) = unless
    ((not f.closed || in_use m s, WriteFileOpen) ∷ (f.locked, FileExists) ∷ (m.disk.free == 0, DiskFull) ∷ (m.protected, WriteProtected) ∷ [])
    (Ok (ReplaceFile s))

-- with `@` and the name there a replacement, else a new file
abbrev pub plan_writing : Wanted → Option FileType → Machine → Result Plan Code
plan_writing w None m = Err WrongType
plan_writing w (Some kind) m =
    if w.has_at && is_there m.disk w.name then (found m.disk w.name (Some kind) >>= plan_replace m) else plan_write w kind m

-- the found relative file is opened, with its own record length
abbrev pub plan_there : Wanted → Machine → ℕ × File → Result Plan Code
plan_there w m (s, f) = unless
    ((not f.closed || in_writing m s, WriteFileOpen)
    ∷ (not (w.record_length == 0) && not (w.record_length == record_length_in f.body), NoRecord) ∷ [])
    (Ok (OpenRecords s))

-- a new relative file is made
abbrev pub plan_missing : Wanted → Machine → Result Plan Code
plan_missing w m = unless
    ((w.record_length == 0, FileNotFound) ∷ (w.record_length == 255, NoRecord)
    ∷ (nat_lt m.disk.free 2 || not (has_slot m.disk), DiskFull) ∷ (m.protected, WriteProtected) ∷ [])
    (Ok (MakeRecords w.name w.record_length))

-- records are asked for: not with `@`, nor on the channels 0 and 1
abbrev pub plan_relative : ℕ → Wanted → Machine → Result Plan Code
plan_relative ch w m = unless ((w.has_at || nat_lt ch 2, WrongType) ∷ [])
    (if is_there m.disk w.name then (found m.disk w.name (Some Rel) >>= plan_there w m) else plan_missing w m)

-- bytes are asked for
abbrev pub plan_by_mode : Mode → Wanted → Machine → Result Plan Code
plan_by_mode Read w m = found m.disk w.name w.kind >>= plan_read w m
plan_by_mode Append w m = found m.disk w.name w.kind >>= plan_append m
plan_by_mode Write w m = plan_writing w w.kind m

-- what was found is a relative file
abbrev pub meets_records : Result (ℕ × File) Code → Bool
meets_records (Ok p) = is_kind Rel p.1
meets_records (Err e) = false

-- What the channel would cost: two where records are asked for, or would be met by reading.
abbrev pub asked_cost : Wanted → Machine → ℕ
asked_cost w m =
    if wants_relative w then 2 else
    elim w.mode [ Read ↦ if not w.has_at && meets_records (found m.disk w.name w.kind) then 2 else 1 | _ ↦ 1 ]

-- What an OPEN will do. Too many channels are refused before all that the disk answers.
abbrev pub plan : ℕ → Opening → Machine → Result Plan Code
plan ch (opening.Listing pattern) m = unless ((too_many 1 m, NoChannel) ∷ []) (Ok (ReadListing pattern))
plan ch (opening.File w) m = unless ((too_many (asked_cost w m) m, NoChannel) ∷ [])
    (if wants_relative w then plan_relative ch w m else plan_by_mode w.mode w m)

-- ---- doing it

-- the file's bytes and blocks go to the channel
abbrev pub append_slot : Option File → ℕ → ℕ → Machine → Machine
append_slot None s ch m = m
append_slot (Some f) s ch m =
    with_channel ch (Writing s (bytes_in f.body) f.held false false) (with_disk (with_slot m.disk s (Some (reopened f))) m)

-- a plan is carried out
abbrev pub act : ℕ → Plan → Machine → Machine
act ch (ReadListing pattern) m = with_channel ch (Reading None (listing m.disk pattern)) m
act ch (ReadFile s) m = with_channel ch (Reading (Some s) (bytes_in (body_at m.disk s))) m
act ch (WriteFile kind name) m = with_channel ch (Writing (new_slot m.disk) [] 1 false false) (with_disk (with_file m.disk (unclosed kind name) 1) m)
act ch (AppendFile s) m = append_slot (file_at m.disk s) s ch m
act ch (ReplaceFile s) m = with_channel ch (Writing s [] 1 false true) (with_free (m.disk.free - 1) m)
act ch (OpenRecords s) m = with_channel ch (Relative s 1 1) m
act ch (MakeRecords name len) m = with_channel ch (Relative (new_slot m.disk) 1 1) (with_disk (with_file m.disk (closed_file Rel name 2 (new_records len)) 2) m)

-- a text's refusal as a code
abbrev pub asked : {A : Type 0} → Result A Refusal → Result A Code
asked (Ok x) = Ok x
asked (Err e) = Err (code_of_refusal e)

-- A text is read, planned and done. The status is 00 where nothing was refused.
abbrev pub open_text : ℕ → List ℕ → Machine → Machine
open_text ch text m = answered m (asked (opening_of ch text) >>= λ o. plan ch o m >>= λ p. Ok (say Fine (act ch p m)))
