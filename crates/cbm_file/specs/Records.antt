-- The records of a relative file: one that was never written, a new file of them, how a file grows, and what a write of one does.
use Rattle.std.specs.Prelude.{ℕ, ◌+◌, ◌-◌, ◌*◌, ◌/◌, ◌==◌, max, List, ◌∷◌, ◌++◌, length, take, replicate, slice_get, if◌then◌else◌, Option, Some, None}
use Rattle.cbm_file.specs.declared.file_type.FileType.TheVariants.{Rel}
use Rattle.cbm_file.specs.Files.{Body, Bytes, Records, Disk, parts, file_at, with_slot}
use Rattle.cbm_file.specs.Changes.{closed_file, with_file}

-- this many zeros
abbrev pub zeros : ℕ → List ℕ
zeros n = replicate n 0

-- a record that was never written: $FF, then zeros
abbrev pub fresh_record : ℕ → List ℕ
fresh_record len = 255 ∷ zeros (len - 1)

-- the whole records of this many data blocks
abbrev pub record_count : ℕ → ℕ → ℕ
record_count len blocks = 254 * blocks / len

-- A new relative file has one data block and one side sector.
abbrev pub new_records : ℕ → Body
new_records len = Records len (replicate (record_count len 1) (fresh_record len)) 1 1

-- the disk with a new relative file of this name
abbrev pub with_new_records : Disk → List ℕ → ℕ → Disk
with_new_records d name len = with_file d (closed_file Rel name 2 (new_records len)) 2

-- a record of the body, which count from 1, if it is there
abbrev pub record_at : Body → ℕ → Option (List ℕ)
record_at (Bytes bytes) k = None
record_at (Records l rs b s) k = if k == 0 then None else slice_get rs (k - 1)

-- Record k keeps what stands before p; then come the bytes, as far as they fit, and zeros.
abbrev pub with_bytes : ℕ → List ℕ → ℕ → List ℕ → List ℕ
with_bytes len old p bytes =
    let front = take (p - 1) old ++ take (len + 1 - p) bytes in
    front ++ zeros (len - length front)

-- the data blocks with which record k is there
abbrev pub blocks_for : ℕ → ℕ → ℕ → ℕ
blocks_for len blocks k = max blocks (parts (k * len) 254)

-- the side sectors for this many data blocks
abbrev pub sides_for : ℕ → ℕ → ℕ
sides_for sides blocks = max sides (parts blocks 120)

-- the file in the slot with this body
abbrev pub with_body : Disk → ℕ → Body → Disk
with_body d s body = elim (file_at d s) [ None ↦ d | Some f ↦ with_slot d s (Some (record f { body = body })) ]

-- the same, of this many blocks
abbrev pub with_sized_body : Disk → ℕ → ℕ → Body → Disk
with_sized_body d s n body =
    elim (file_at d s) [ None ↦ d | Some f ↦ with_slot d s (Some (record f { shown = n; held = n; body = body })) ]
