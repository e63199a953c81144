-- Worked rows: reading a program, and the status.
use Rattle.std.specs.Prelude.{◌≡◌, refl, [], ◌∷◌, ◌++◌, codes, Some}
use Rattle.std.specs.Fmt.{digits}
use Rattle.cbm_file.specs.declared.file_type.FileType.TheVariants.{Prg}
use Rattle.cbm_file.specs.Files.{Bytes, with_slot}
use Rattle.cbm_machine.specs.Machines.{Machine}
use Rattle.cbm_file.specs.Changes.{closed_file}
use Rattle.cbm_program.specs.declared.request.ScriptRequest.TheVariants.{Get, Close, Status}
use Rattle.cbm_program.proofs.Words.{open_by, formatted, powered, blank, prints, prints_for_kernal, status_is}

-- a disk with a program of three bytes
abbrev pub with_hello : Machine
with_hello = powered (with_slot (formatted 35) 0 (Some (closed_file Prg (codes "HELLO") 1 (Bytes (1 ∷ 2 ∷ 3 ∷ [])))))

-- a program is read
pub read_hello : prints (open_by 0 (codes "HELLO") ∷ Get 0 100 ∷ Status ∷ []) with_hello ≡ codes "get 0 010203 eoi\nstatus 00, OK,00,00\n"
unfolding digits
read_hello = refl

-- it is read in parts; a closed channel and a channel at its end say nothing
pub read_in_parts : prints (Get 0 3 ∷ open_by 0 (codes "HELLO") ∷ Get 0 2 ∷ Get 0 1 ∷ Get 0 1 ∷ []) with_hello
    ≡ codes "get 0 none\nget 0 0102\nget 0 03 eoi\nget 0 none\n"
unfolding digits
read_in_parts = refl

-- after CLOSE there is nothing to say
pub closed_says_nothing : prints (open_by 0 (codes "HELLO") ∷ Close 0 ∷ Get 0 9 ∷ Status ∷ []) with_hello ≡ codes "get 0 none\n" ++ status_is (codes "61,FILE NOT OPEN")
unfolding digits
closed_says_nothing = refl

-- a missing file, and the status after it
pub missing_file : prints (open_by 0 (codes "NONE") ∷ Status ∷ Status ∷ []) with_hello ≡ status_is (codes "62,FILE NOT FOUND") ++ status_is (codes "00, OK")
missing_file = refl

-- A computer asks for the bytes of the missing file all the same: at a KERNAL's pace the error stays, at the profile's it is another one.
pub missing_file_for_kernal : prints_for_kernal (open_by 0 (codes "NONE") ∷ Get 0 9 ∷ Status ∷ Status ∷ []) with_hello
    ≡ codes "get 0 none\n" ++ status_is (codes "62,FILE NOT FOUND") ++ status_is (codes "00, OK")
unfolding digits
missing_file_for_kernal = refl

pub missing_file_asked : prints (open_by 0 (codes "NONE") ∷ Get 0 9 ∷ Status ∷ []) with_hello ≡ codes "get 0 none\n" ++ status_is (codes "61,FILE NOT OPEN")
unfolding digits
missing_file_asked = refl

-- the first status is that of power up
pub first_status : prints (Status ∷ Status ∷ []) blank ≡ status_is (codes "73,CBM DOS V2.6 1541") ++ status_is (codes "00, OK")
first_status = refl

-- the first status has 27 bytes with its return
pub first_status_bytes : prints (Get 15 100 ∷ []) blank
    ≡ codes "get 15 37332c43424d20444f532056322e3620313534312c30302c30300d eoi\n"
unfolding digits
first_status_bytes = refl

-- a status is read in parts, and the next one begins after its last byte
pub status_in_parts : prints (Get 15 4 ∷ Status ∷ Status ∷ []) blank ≡ codes "get 15 37332c43\nstatus BM DOS V2.6 1541,00,00\nstatus 00, OK,00,00\n"
unfolding digits
status_in_parts = refl
