-- Worked rows: append and replacement.
use Rattle.std.specs.Prelude.{◌≡◌, refl, true, List, [], ◌∷◌, ◌++◌, codes, replicate, map, Some, None}
use Rattle.std.specs.Fmt.{digits}
use Rattle.cbm_file.specs.declared.file_type.FileType.TheVariants.{Prg}
use Rattle.cbm_machine.specs.Machines.{Machine}
use Rattle.cbm_program.specs.declared.request.ScriptRequest.{ScriptRequest}
use Rattle.cbm_program.specs.declared.request.ScriptRequest.TheVariants.{Fill, Get, Close, Status}
use Rattle.cbm_program.proofs.Words.{open_by, put_by, formatted, powered, blank, prints, afterwards, summary, status_is, small_file}
use Rattle.cbm_program.proofs.ListingRows.{with_hello}
use Rattle.cbm_program.proofs.NameRows.{code_after}

-- bytes are put after those that are there; M reads as R does
abbrev pub appends : List ScriptRequest
appends = open_by 2 (codes "E,S,W") ∷ put_by 2 (codes "AB") ∷ Close 2 ∷ open_by 2 (codes "E,S,A") ∷ put_by 2 (codes "C") ∷ Close 2 ∷ []

pub appended : prints (appends ++ open_by 2 (codes "E,S,M") ∷ Get 2 9 ∷ []) blank ≡ codes "get 2 414243 eoi\n"
unfolding digits
appended = refl

pub appended_disk : summary (afterwards appends blank) ≡ ((codes "E", 1, 1) ∷ [], 663)
appended_disk = refl

-- a byte after a full block takes another
pub appended_block : summary (afterwards (open_by 2 (codes "F,S,W") ∷ Fill 2 254 65 ∷ Close 2 ∷ open_by 2 (codes "F,S,A") ∷ put_by 2 (codes "A") ∷ Close 2 ∷ []) blank)
    ≡ ((codes "F", 2, 2) ∷ [], 662)
appended_block = refl

-- a program of 255 bytes
abbrev pub two_blocks : Machine
two_blocks = afterwards (open_by 1 (codes "X") ∷ Fill 1 255 65 ∷ Close 1 ∷ []) blank

-- while it is replaced, the old one stays
abbrev pub replacing : Machine
replacing = afterwards (open_by 1 (codes "@0:X") ∷ put_by 1 (codes "A") ∷ []) two_blocks

pub while_replacing : summary replacing ≡ ((codes "X", 2, 2) ∷ [], 661)
while_replacing = refl

pub replaced : summary (afterwards (Close 1 ∷ []) replacing) ≡ ((codes "X", 1, 1) ∷ [], 663)
replaced = refl

-- a replacement that finds the disk full keeps the old file
abbrev pub one_free : Machine
one_free = powered (record two_blocks.disk { free = 1 })

pub full_status : prints (open_by 1 (codes "@:X") ∷ Fill 1 255 0x42 ∷ Status ∷ []) one_free ≡ status_is (codes "72,DISK FULL")
full_status = refl

pub full_kept : summary (afterwards (open_by 1 (codes "@:X") ∷ Fill 1 255 0x42 ∷ Close 1 ∷ []) one_free) ≡ ((codes "X", 2, 2) ∷ [], 1)
full_kept = refl

-- a file that is being written
pub while_written : map (code_after (afterwards (open_by 2 (codes "E,S,W") ∷ []) blank))
    (open_by 3 (codes "E") ∷ open_by 3 (codes "E,S,A") ∷ open_by 3 (codes "@:E,S,W") ∷ open_by 3 (codes "E,S,W") ∷ [])
    ≡ codes "60" ∷ codes "60" ∷ codes "60" ∷ codes "63" ∷ []
while_written = refl

-- a file that is being replaced is open for writing
pub while_replaced : map (code_after replacing)
    (open_by 2 (codes "X,P") ∷ open_by 2 (codes "X,P,A") ∷ put_by 15 (codes "R0:Y=X") ∷ put_by 15 (codes "S0:X") ∷ put_by 15 (codes "C0:Y=X") ∷ [])
    ≡ codes "60" ∷ codes "60" ∷ codes "60" ∷ codes "01" ∷ codes "00" ∷ []
while_replaced = refl

-- a replacement of another type
pub other_type : code_after with_hello (open_by 2 (codes "@:HELLO,S,W")) ≡ codes "64"
other_type = refl

-- a replacement of a locked file
pub locked_file : code_after (powered (record (formatted 35) { slots = Some (record (small_file Prg (codes "X")) { locked = true }) ∷ replicate 7 None; free = 663 }))
    (open_by 1 (codes "@:X")) ≡ codes "63"
locked_file = refl

-- what is left is read after a rename, and a copy may be made meanwhile
pub renamed_while_read : prints (open_by 2 (codes "HELLO,P") ∷ put_by 15 (codes "R0:Z=HELLO") ∷ put_by 15 (codes "C0:Y=Z") ∷ Get 2 9 ∷ []) with_hello ≡ codes "get 2 010203 eoi\n"
unfolding digits
renamed_while_read = refl
