-- Files and disks as the host knows them: names, types, bytes and counts of blocks, without addresses.
use Rattle.std.specs.Prelude.{ℕ, ◌+◌, ◌-◌, ◌/◌, ◌==◌, max, Bool, List, [], ◌∷◌, sum_by, if◌then◌else◌, Option, Some, None, slice_index_or, slice_set}
use Rattle.cbm_file.specs.declared.file_type.FileType.{FileType}

-- What a closed file holds: bytes; or records of one length, in this many data blocks, listed by this many side sectors.
pub data Body : Type 0 where
  Bytes : (bytes : List ℕ) → Body
  Records : (record_length : ℕ) (records : List (List ℕ)) (blocks sides : ℕ) → Body

-- A file that is not closed has the body `Bytes []` and holds 0 blocks.
pub record File : Type 0 where
  pub kind : FileType
  pub closed : Bool
  pub locked : Bool
  pub name : List ℕ
  pub shown : ℕ  -- the number of blocks that its entry has
  pub held : ℕ  -- the blocks of its chain, and its side sectors
  pub body : Body

-- A disk: what its header says, its slots in the order of the directory, and what is free.
pub record Disk : Type 0 where
  pub title : List ℕ  -- sixteen bytes
  pub mark : List ℕ  -- five bytes: the id, and three more
  pub slots : List (Option File)
  pub room : ℕ  -- free sectors for the directory
  pub free : ℕ  -- free blocks for files
  pub total : ℕ  -- all blocks for files

-- the blocks for files on this many tracks
abbrev pub blocks_on : ℕ → ℕ
blocks_on tracks = if tracks == 40 then 749 else 664

-- how many parts of the size m are begun by n bytes
abbrev pub parts : ℕ → ℕ → ℕ
parts n m = (n + (m - 1)) / m

-- the blocks of a file of n bytes that the drive wrote: at least one
abbrev pub blocks_of : ℕ → ℕ
blocks_of n = max 1 (parts n 254)

-- The blocks that a slot holds. One that is empty or not closed holds none.
abbrev pub blocks_held : Option File → ℕ
blocks_held None = 0
blocks_held (Some f) = if f.closed then f.held else 0

-- the blocks of all closed files
abbrev pub held_on : Disk → ℕ
held_on d = sum_by blocks_held d.slots

-- the blocks that are neither free nor a closed file's
abbrev pub lost : Disk → ℕ
lost d = d.total - d.free - held_on d

-- the file in a slot
abbrev pub file_at : Disk → ℕ → Option File
file_at d n = slice_index_or d.slots n None

-- the disk with this in the slot
abbrev pub with_slot : Disk → ℕ → Option File → Disk
with_slot d n f = record d { slots = slice_set d.slots n f }

-- the files, each with the number of its slot, where the slots count from n
abbrev pub files_from : ℕ → List (Option File) → List (ℕ × File)
files_from n [] = []
files_from n (None ∷ slots) = files_from (n + 1) slots
files_from n (Some f ∷ slots) = (n, f) ∷ files_from (n + 1) slots

-- the files of a disk, each with the number of its slot
abbrev pub files : Disk → List (ℕ × File)
files d = files_from 0 d.slots

-- the number of the first empty slot, counted from n
abbrev pub empty_from : ℕ → List (Option File) → Option ℕ
empty_from n [] = None
empty_from n (None ∷ slots) = Some n
empty_from n (Some f ∷ slots) = empty_from (n + 1) slots

-- the bytes of a body; records have none
abbrev pub bytes_in : Body → List ℕ
bytes_in (Bytes bytes) = bytes
bytes_in (Records l rs b s) = []

-- the length of a body's records, or 0
abbrev pub record_length_in : Body → ℕ
record_length_in (Bytes bytes) = 0
record_length_in (Records l rs b s) = l
