-- What writing does to a disk: an empty disk, a new file, a file that is appended to or replaced, CLOSE.
use Rattle.std.specs.Prelude.{ℕ, ◌+◌, ◌-◌, ◌/◌, ◌++◌, nat_lt, Bool, true, false, ◌||◌, List, [], ◌∷◌, length, map, take, replicate, slice_set, if◌then◌else◌, Option, Some, None, is_some, is_none, unwrap_or}
use Rattle.cbm_file.specs.declared.file_type.FileType.{FileType}
use Rattle.cbm_file.specs.Files.{Body, Bytes, File, Disk, bytes_in, blocks_held, held_on, empty_from, file_at, with_slot, blocks_on, blocks_of}
use Rattle.cbm_file.specs.Padding.{padded}

-- ---- an empty disk

-- The new id, or the old one where none is given; eight empty slots, and all else free but the directory's two sectors.
abbrev pub new_disk : ℕ → List ℕ → Option (List ℕ) → Disk → Disk
new_disk tracks title id d = record {
  title = padded title;
  mark = unwrap_or id (take 2 d.mark) ++ 160 ∷ 50 ∷ 65 ∷ [];
  slots = replicate 8 None;
  room = 17;
  free = blocks_on tracks;
  total = blocks_on tracks;
}

-- ---- a new name

-- eight empty slots more, in a sector of the directory's room, where none is empty
abbrev pub grown : Disk → Disk
grown d = if is_none (empty_from 0 d.slots) then record d { slots = d.slots ++ replicate 8 None; room = d.room - 1 } else d

-- a slot is empty, or there is room for more
abbrev pub has_slot : Disk → Bool
has_slot d = is_some (empty_from 0 d.slots) || nat_lt 0 d.room

-- the first empty slot after the growth, or 0 where none is
abbrev pub new_slot : Disk → ℕ
new_slot d = unwrap_or (empty_from 0 (grown d).slots) 0

-- the file in the first empty slot, with this many free blocks fewer
abbrev pub with_file : Disk → File → ℕ → Disk
with_file d f n = record (grown d) { slots = slice_set (grown d).slots (new_slot d) (Some f); free = d.free - n }

-- a name whose file is being written
abbrev pub unclosed : FileType → List ℕ → File
unclosed kind name = record { kind = kind; closed = false; locked = false; name = name; shown = 0; held = 0; body = Bytes [] }

-- a file of this many blocks
abbrev pub closed_file : FileType → List ℕ → ℕ → Body → File
closed_file kind name n body = record { kind = kind; closed = true; locked = false; name = name; shown = n; held = n; body = body }

-- ---- a file that is appended to

-- the entry is not closed until CLOSE; its bytes and blocks are the channel's until then
abbrev pub reopened : File → File
reopened f = record f { closed = false; held = 0; body = Bytes [] }

-- ---- CLOSE

-- the file closed, of these bytes and blocks
abbrev pub finished : File → List ℕ → ℕ → File
finished f bytes blocks = record f { closed = true; shown = blocks; held = blocks; body = Bytes bytes }

-- the slot's file closed, of these bytes and blocks
abbrev pub finished_in : Option File → Disk → ℕ → List ℕ → ℕ → Disk
finished_in None d n bytes blocks = d
finished_in (Some f) d n bytes blocks = with_slot d n (Some (finished f bytes blocks))

abbrev pub with_finished : Disk → ℕ → List ℕ → ℕ → Disk
with_finished d n bytes blocks = finished_in (file_at d n) d n bytes blocks

-- the same where the old file is replaced, whose blocks are free again
abbrev pub replaced_in : Option File → Disk → ℕ → List ℕ → ℕ → Disk
replaced_in None d n bytes blocks = d
replaced_in (Some f) d n bytes blocks = record (with_slot d n (Some (finished f bytes blocks))) { free = d.free + f.held }

-- the disk after the file of a slot has other bytes in so many blocks
abbrev pub with_replaced : Disk → ℕ → List ℕ → ℕ → Disk
with_replaced d n bytes blocks = replaced_in (file_at d n) d n bytes blocks

-- ---- a file that is scratched: its slot is empty, and what it held is free; one that isn't closed held nothing

-- a file goes out of its slot, and its blocks are free
abbrev pub scratched_in : Option File → Disk → ℕ → Disk
scratched_in None d n = d
scratched_in (Some f) d n = record (with_slot d n None) { free = d.free + blocks_held (Some f) }

-- the disk after SCRATCH of a slot
abbrev pub scratched : Disk → ℕ → Disk
scratched d n = scratched_in (file_at d n) d n

-- ---- COPY

-- the bytes of what a slot has
abbrev pub slot_bytes : Option File → List ℕ
slot_bytes None = []
slot_bytes (Some f) = bytes_in f.body

-- the bytes of the files in these slots, one after another
abbrev pub joined : Disk → List ℕ → List ℕ
joined d [] = []
joined d (n ∷ ns) = slot_bytes (file_at d n) ++ joined d ns

-- how many blocks they take as one file
abbrev pub copy_blocks : Disk → List ℕ → ℕ
copy_blocks d slots = blocks_of (length (joined d slots))

-- the new file with these bytes
abbrev pub with_copy : Disk → FileType → List ℕ → List ℕ → Disk
with_copy d kind name slots = with_file d (closed_file kind name (copy_blocks d slots) (Bytes (joined d slots))) (copy_blocks d slots)

-- ---- VALIDATE

-- a slot that isn't closed is empty
abbrev pub only_closed : Option File → Option File
only_closed None = None
only_closed (Some f) = if f.closed then Some f else None

-- the closed files alone, and each block is free or a file's
abbrev pub validated : Disk → Disk
validated d =
    let slots = map only_closed d.slots in
    record d { slots = slots; free = d.total - held_on d; room = 18 - length d.slots / 8 }
