-- Worked rows: commands.
use Rattle.std.specs.Prelude.{◌≡◌, refl, true, [], ◌∷◌, ◌++◌, codes, replicate, map, slice_range, Some, None}
use Rattle.std.specs.Fmt.{digits}
use Rattle.cbm_file.specs.declared.file_type.FileType.TheVariants.{Seq}
use Rattle.cbm_file.specs.Files.{lost}
use Rattle.cbm_machine.specs.Machines.{Machine}
use Rattle.cbm_machine.specs.Listings.{listing}
use Rattle.cbm_program.specs.declared.request.ScriptRequest.TheVariants.{Get, Close, Status}
use Rattle.cbm_program.proofs.Words.{open_by, put_by, formatted, powered, blank, prints, afterwards, summary, status_is, small_file}
use Rattle.cbm_program.proofs.ListingRows.{writes_hello, with_hello}
use Rattle.cbm_program.proofs.NameRows.{code_after}

-- three files, the second locked
abbrev pub three_files : Machine
three_files = powered (record (formatted 35) {
  slots = Some (small_file Seq (codes "A1")) ∷ Some (record (small_file Seq (codes "A2")) { locked = true }) ∷ Some (small_file Seq (codes "A3")) ∷ replicate 5 None;
  free = 661;
})

-- SCRATCH passes the locked one over
pub scratched : prints (put_by 15 (codes "S0:A*") ∷ Status ∷ put_by 15 (codes "S0:A*") ∷ Status ∷ []) three_files
    ≡ codes "status 01, FILES SCRATCHED,02,00\nstatus 01, FILES SCRATCHED,00,00\n"
scratched = refl

pub scratched_disk : summary (afterwards (put_by 15 (codes "S0:A*") ∷ []) three_files) ≡ ((codes "A2", 1, 1) ∷ [], 663)
scratched_disk = refl

-- the files A and B
abbrev pub two_names : Machine
two_names = powered (record (formatted 35) { slots = Some (small_file Seq (codes "A")) ∷ Some (small_file Seq (codes "B")) ∷ replicate 6 None; free = 662 })

-- RENAME to a name that is there
pub rename_there : prints (put_by 15 (codes "R0:B=A") ∷ Status ∷ []) two_names ≡ status_is (codes "63,FILE EXISTS")
rename_there = refl

pub rename_changes_nothing : (afterwards (put_by 15 (codes "R0:B=A") ∷ []) two_names).disk ≡ two_names.disk
rename_changes_nothing = refl

pub renamed : summary (afterwards (put_by 15 (codes "R0:C=0:A") ∷ []) two_names) ≡ ((codes "C", 1, 1) ∷ (codes "B", 1, 1) ∷ [], 662)
renamed = refl

-- a command that isn't there, long texts, and other drives
pub block_read : prints (put_by 15 (codes "B-R 2 0 1 0") ∷ Status ∷ []) blank ≡ status_is (codes "31,SYNTAX ERROR")
block_read = refl

pub long_text : prints (put_by 15 (codes "S0:" ++ replicate 56 65) ∷ Status ∷ []) blank ≡ status_is (codes "32,SYNTAX ERROR")
long_text = refl

pub longest_text : prints (put_by 15 (codes "S0:" ++ replicate 55 65 ++ 13 ∷ []) ∷ Status ∷ []) blank ≡ codes "status 01, FILES SCRATCHED,00,00\n"
longest_text = refl

pub other_drive : prints (put_by 15 (codes "V1") ∷ Status ∷ []) blank ≡ status_is (codes "74,DRIVE NOT READY")
other_drive = refl

-- NEW without an id keeps the id and empties the disk
abbrev pub next_disk : Machine
next_disk = afterwards (put_by 15 (codes "N0:NEXT") ∷ []) with_hello

pub next_title : slice_range (listing next_disk.disk (codes "*")) 8 32 ≡ codes "NEXT            \" AB 2A" ++ 0 ∷ []
next_title = refl

pub next_files : summary next_disk ≡ ([], 664)
next_files = refl

-- two files of one byte
abbrev pub two_bytes : Machine
two_bytes = afterwards
    (open_by 2 (codes "A,S,W") ∷ put_by 2 (0x41 ∷ []) ∷ Close 2 ∷ open_by 2 (codes "C,S,W") ∷ put_by 2 (0x42 ∷ []) ∷ Close 2 ∷ [])
    blank

-- COPY joins them into one block
pub copied : summary (afterwards (put_by 15 (codes "C0:D=A,C") ∷ []) two_bytes) ≡ ((codes "A", 1, 1) ∷ (codes "C", 1, 1) ∷ (codes "D", 1, 1) ∷ [], 661)
copied = refl

pub copy_read : prints (put_by 15 (codes "C0:D=A,C") ∷ open_by 2 (codes "D,S") ∷ Get 2 9 ∷ []) two_bytes ≡ codes "get 2 4142 eoi\n"
unfolding digits
copy_read = refl

pub five_sources : prints (put_by 15 (codes "C0:E=A,A,A,A,A") ∷ Status ∷ []) two_bytes ≡ status_is (codes "30,SYNTAX ERROR")
five_sources = refl

-- a disk on which a file was never closed, in a new run
abbrev pub left_open : Machine
left_open = powered (afterwards writes_hello blank).disk

pub left_open_free : left_open.disk.free ∷ lost left_open.disk ∷ [] ≡ 663 ∷ 1 ∷ []
left_open_free = refl

pub validated_status : prints (put_by 15 (codes "V0") ∷ Status ∷ []) left_open ≡ status_is (codes "00, OK")
validated_status = refl

pub validated : summary (afterwards (put_by 15 (codes "V0") ∷ []) left_open) ≡ ([], 664)
validated = refl

pub nothing_lost : lost (afterwards (put_by 15 (codes "V0") ∷ []) left_open).disk ≡ 0
nothing_lost = refl

-- with a channel open, and P's refusals
pub while_open : map (code_after (afterwards (open_by 0 (codes "$") ∷ []) two_bytes))
    (put_by 15 (codes "V0") ∷ put_by 15 (codes "N0:A,BC") ∷ put_by 15 (80 ∷ 0x62 ∷ []) ∷ put_by 15 (80 ∷ 0x62 ∷ 1 ∷ 0 ∷ []) ∷ put_by 15 (80 ∷ 0 ∷ 1 ∷ 0 ∷ [])
    ∷ put_by 15 (80 ∷ 15 ∷ 1 ∷ 0 ∷ []) ∷ put_by 15 (codes "X") ∷ put_by 15 (codes "I0") ∷ [])
    ≡ codes "60" ∷ codes "60" ∷ codes "30" ∷ codes "70" ∷ codes "64" ∷ codes "70" ∷ codes "31" ∷ codes "00" ∷ []
while_open = refl

-- the texts of commands, one rule each
pub commands : map (λ t. code_after blank (put_by 15 t))
    (codes "S0:A,1:B" ∷ codes "S0:A,,B" ∷ codes "S0" ∷ codes "S0:" ∷ codes "N1:" ∷ codes "N01:" ∷ codes "N00:" ∷ codes "N0A:" ∷ codes "N0:A,B" ∷ codes "N0:"
    ∷ codes "N0:*" ∷ codes "C0:A" ∷ codes "C0:A=" ∷ codes "C0:=B" ∷ codes "C0:A=B*" ∷ codes "C0:A=B,C,D,E,F" ∷ codes "C0:A=B" ∷ codes "R0:A*=B"
    ∷ codes "R0:1:A=B" ∷ codes "R0:A" ∷ codes "R0:A=1:B" ∷ codes "V0x" ∷ codes "VALIDATE" ∷ codes "I1" ∷ codes "I0:x" ∷ codes "P" ∷ codes "&" ∷ codes "NEW0:DISK,01" ∷ [])
    ≡ codes "74" ∷ codes "34" ∷ codes "34" ∷ codes "34" ∷ codes "74" ∷ codes "74" ∷ codes "30" ∷ codes "30" ∷ codes "30" ∷ codes "34"
    ∷ codes "33" ∷ codes "34" ∷ codes "34" ∷ codes "34" ∷ codes "33" ∷ codes "30" ∷ codes "62" ∷ codes "33"
    ∷ codes "62" ∷ codes "34" ∷ codes "74" ∷ codes "30" ∷ codes "00" ∷ codes "74" ∷ codes "00" ∷ codes "30" ∷ codes "31" ∷ codes "00" ∷ []
commands = refl

-- an empty command does nothing: the status is still that of power up
pub empty_command : code_after blank (put_by 15 (13 ∷ [])) ≡ codes "73"
empty_command = refl
