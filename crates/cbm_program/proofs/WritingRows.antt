-- Worked rows: files that are written, and full disks.
use Rattle.std.specs.Prelude.{◌≡◌, refl, ℕ, List, [], ◌∷◌, ◌++◌, codes, replicate, length, Some}
use Rattle.std.specs.Fmt.{digits}
use Rattle.cbm_file.specs.declared.file_type.FileType.TheVariants.{Seq}
use Rattle.cbm_file.specs.Files.{lost}
use Rattle.cbm_machine.specs.Machines.{Machine}
use Rattle.cbm_program.specs.declared.request.ScriptRequest.{ScriptRequest}
use Rattle.cbm_program.specs.declared.request.ScriptRequest.TheVariants.{Fill, Get, Close, Status}
use Rattle.cbm_program.proofs.Words.{open_by, put_by, formatted, powered, blank, prints, afterwards, summary, status_is, small_file}

-- a sequential file of so many equal bytes
abbrev pub writes : List ℕ → ℕ → List ScriptRequest
writes name n = open_by 2 (name ++ codes ",S,W") ∷ Fill 2 n 65 ∷ Close 2 ∷ []

-- one block is full with 254 bytes
pub full_block : summary (afterwards (writes (codes "A") 254) blank) ≡ ((codes "A", 1, 1) ∷ [], 663)
full_block = refl

-- the next byte takes another
pub two_blocks : summary (afterwards (writes (codes "A") 254 ++ writes (codes "C") 255) blank) ≡ ((codes "A", 1, 1) ∷ (codes "C", 2, 2) ∷ [], 661)
two_blocks = refl

-- a file with no byte gets a return
pub empty_file : prints (open_by 2 (codes "E,S,W") ∷ Close 2 ∷ open_by 2 (codes "E") ∷ Get 2 9 ∷ []) blank ≡ codes "get 2 0d eoi\n"
unfolding digits
empty_file = refl

pub empty_file_blocks : summary (afterwards (open_by 2 (codes "E,S,W") ∷ Close 2 ∷ []) blank) ≡ ((codes "E", 1, 1) ∷ [], 663)
empty_file_blocks = refl

-- the same of a program on channel 1
pub empty_program : prints (open_by 1 (codes "X") ∷ Close 1 ∷ open_by 0 (codes "X") ∷ Get 0 9 ∷ []) blank ≡ codes "get 0 0d eoi\n"
unfolding digits
empty_program = refl

-- a formatted disk with so many free blocks
abbrev pub with_free_blocks : ℕ → Machine
with_free_blocks n = powered (record (formatted 35) { free = n })

-- the largest file, on a disk with three free blocks: 762 bytes stay, the next one is dropped
pub largest_status : prints (writes (codes "BIG") 763 ++ Status ∷ []) (with_free_blocks 3) ≡ status_is (codes "72,DISK FULL")
largest_status = refl

pub largest_file : summary (afterwards (writes (codes "BIG") 763) (with_free_blocks 3)) ≡ ((codes "BIG", 3, 3) ∷ [], 0)
largest_file = refl

pub largest_fits : prints (writes (codes "BIG") 762 ++ Status ∷ []) (with_free_blocks 3) ≡ status_is (codes "00, OK")
largest_fits = refl

-- no block is free
pub no_block : prints (open_by 2 (codes "X,S,W") ∷ Status ∷ []) (with_free_blocks 0) ≡ status_is (codes "72,DISK FULL")
no_block = refl

-- 144 files, and no room for more
abbrev pub crowded : Machine
crowded = powered (record (formatted 35) { slots = replicate 144 (Some (small_file Seq (codes "A"))); room = 0; free = 520 })

pub no_slot : prints (open_by 2 (codes "X,S,W") ∷ Status ∷ []) crowded ≡ status_is (codes "72,DISK FULL")
no_slot = refl

pub no_slot_changes_nothing : (afterwards (open_by 2 (codes "X,S,W") ∷ []) crowded).disk ≡ crowded.disk
no_slot_changes_nothing = refl

-- the ninth file takes a sector for the directory
pub ninth_file :
    (let m = afterwards (writes (codes "A") 1 ++ writes (codes "B") 1 ++ writes (codes "C") 1 ++ writes (codes "D") 1 ++ writes (codes "E") 1
    ++ writes (codes "F") 1 ++ writes (codes "G") 1 ++ writes (codes "H") 1 ++ writes (codes "I") 1) blank in
    m.disk.free ∷ m.disk.room ∷ length m.disk.slots ∷ lost m.disk ∷ []) ≡ 655 ∷ 16 ∷ 16 ∷ 0 ∷ []
ninth_file = refl

-- two blocks are lost while a file of two blocks is written, none after it
pub lost_while_written : lost (afterwards (open_by 2 (codes "F,S,W") ∷ Fill 2 255 65 ∷ []) blank).disk ∷ lost (afterwards (writes (codes "F") 255) blank).disk ∷ [] ≡ 2 ∷ 0 ∷ []
lost_while_written = refl

-- CLOSE of 15 closes the others
pub close_all : summary (afterwards (open_by 2 (codes "F,S,W") ∷ put_by 2 (codes "A") ∷ Close 15 ∷ []) blank) ≡ ((codes "F", 1, 1) ∷ [], 663)
close_all = refl
