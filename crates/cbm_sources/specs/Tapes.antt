-- The T64 format: a header of 64 bytes, records of 32 bytes each, and the bytes of the files.
use Rattle.std.specs.Prelude.{ℕ, zero, suc, ◌+◌, ◌-◌, ◌*◌, ◌/◌, ◌≤◌, ◌≡◌, ◌==◌, nat_lt, min, max, Bool, not, ◌&&◌, if◌then◌else◌, List, [], ◌∷◌, length, take, filter, map, slice_get, slice_index, slice_range, Option, Some, None, Ok, Err}
use Rattle.cbm_medium.specs.Place.{Place}
use Rattle.cbm_file.specs.Files.{blocks_of}
use Rattle.cbm_file.specs.declared.file_type.FileType.TheVariants.{Prg}
use Rattle.cbm_directory.specs.Entries.{closed_entry}
use Rattle.cbm_directory.specs.EntryChanges.{fresh_entry}
use Rattle.cbm_sources.specs.declared.fault.Fault.TheVariants.{NoFile, Cut}
use Rattle.cbm_sources.specs.Answers.{FileTold}

-- a number of two bytes, low byte first
abbrev pub word : List ℕ → ℕ → ℕ
word bytes n = slice_index bytes n + 256 * slice_index bytes (n + 1)

-- a number of four bytes
abbrev pub long : List ℕ → ℕ → ℕ
long bytes n = word bytes n + 65536 * word bytes (n + 2)

-- A TAPE ARCHIVE begins with the letters C64 and has its whole header.
abbrev pub IsTape : List ℕ → Type 0
IsTape bytes = (64 ≤ length bytes) × (take 3 bytes ≡ 67 ∷ 54 ∷ 52 ∷ [])

-- ---- records

-- How many records there are: the greater of the header's two counts, since either may be 0 in archives that have a file, and at least one;
-- but no more than stand in the archive.
abbrev pub tape_record_count : List ℕ → ℕ
tape_record_count bytes = min (max 1 (max (word bytes 34) (word bytes 36))) ((length bytes - 64) / 32)

-- the record of a number
abbrev pub tape_record : List ℕ → ℕ → List ℕ
tape_record bytes n = slice_range bytes (64 + 32 * n) (96 + 32 * n)

-- this many records, from a number on
abbrev pub records_from : (count : ℕ) → List ℕ → ℕ → List (List ℕ)
records_from zero bytes k = []
records_from (suc n) bytes k = tape_record bytes k ∷ records_from n bytes (k + 1)

-- a record whose first byte isn't 0 is a file's
abbrev pub is_used : List ℕ → Bool
is_used r = not (slice_index r 0 == 0)

-- the records of files
unfoldable pub used_records : List ℕ → List (List ℕ)
used_records bytes = filter is_used (records_from (tape_record_count bytes) bytes 0)

-- ---- what a record says

-- where its file is loaded
abbrev pub start_address : List ℕ → ℕ
start_address r = word r 2

-- the address after the file's last byte
abbrev pub end_address : List ℕ → ℕ
end_address r = word r 4

-- where its file's bytes begin in the archive
abbrev pub offset_of : List ℕ → ℕ
offset_of r = long r 8

-- a byte before what is left of a name: a space at the end is left out
abbrev pub without_space : ℕ → List ℕ → List ℕ
without_space c [] = if c == 32 then [] else c ∷ []
without_space c (d ∷ rest) = c ∷ d ∷ rest

-- a name without the spaces that fill it up
abbrev pub trimmed : List ℕ → List ℕ
trimmed [] = []
trimmed (c ∷ rest) = without_space c (trimmed rest)

-- ---- the bytes of a file

-- a place where a file begins, if it comes after another and before the limit
abbrev pub nearer : ℕ → ℕ → ℕ → ℕ
nearer from limit at = if nat_lt from at && nat_lt at limit then at else limit

-- the first place after another where a file begins, or the end where none does
abbrev pub limit_after : ℕ → ℕ → List (List ℕ) → ℕ
limit_after from limit [] = limit
limit_after from limit (r ∷ rest) = limit_after from (nearer from limit (offset_of r)) rest

-- how many bytes a record's file can have: up to where the next one begins or to the end of the archive
unfoldable pub room_of : List ℕ → List ℕ → ℕ
room_of bytes r = limit_after (offset_of r) (length bytes) (used_records bytes) - offset_of r

-- Many archives have a wrong end address. If it leaves no byte, or more than can be there, all that can be there are taken, up to the end of the
-- memory; else the bytes between the addresses.
abbrev pub size_in : ℕ → ℕ → ℕ → ℕ
size_in start stated room = if nat_lt 0 stated && nat_lt stated (room + 1) then stated else min room (65536 - start)

-- how many bytes a record's file has
abbrev pub tape_size : List ℕ → List ℕ → ℕ
tape_size bytes r = size_in (start_address r) (end_address r - start_address r) (room_of bytes r)

-- a file as a disk has it: its start address comes first
abbrev pub program_of : List ℕ → List ℕ → List ℕ
program_of bytes r = slice_index r 2 ∷ slice_index r 3 ∷ slice_range bytes (offset_of r) (offset_of r + tape_size bytes r)

-- the bytes of a record's file; none where they would begin after the end
abbrev pub tape_told : List ℕ → Option (List ℕ) → FileTold
tape_told bytes None = Err NoFile
tape_told bytes (Some r) = if nat_lt (offset_of r) (length bytes) then Ok (program_of bytes r) else Err (Cut (offset_of r))

-- THE BYTES OF THE FILE OF A NUMBER, counted from 0 over the records of files
unfoldable pub tape_file : List ℕ → ℕ → FileTold
tape_file bytes n = tape_told bytes (slice_get (used_records bytes) n)

-- ---- the directory

-- no block: the first block of a file that is on no disk
abbrev pub no_block : Place
no_block = record { track = 0; sector = 0 }

-- a closed program's entry, with its name and the blocks that it takes on a disk
unfoldable pub tape_entry : List ℕ → List ℕ → List ℕ
tape_entry bytes r = closed_entry (fresh_entry Prg (trimmed (slice_range r 16 32)) no_block) no_block (blocks_of (2 + tape_size bytes r))

-- THE ENTRIES OF AN ARCHIVE
abbrev pub tape_entries : List ℕ → List (List ℕ)
tape_entries bytes = map (tape_entry bytes) (used_records bytes)
