-- Worked rows: relative files.
use Rattle.std.specs.Prelude.{◌≡◌, refl, ℕ, false, List, [], ◌∷◌, ◌++◌, codes, replicate, flat_map, length}
use Rattle.std.specs.Fmt.{digits}
use Rattle.cbm_file.specs.Files.{Body, Bytes, Records}
use Rattle.cbm_machine.specs.Machines.{Machine, start}
use Rattle.cbm_machine.specs.Finding.{body_at}
use Rattle.cbm_machine.specs.Calls.{put, end_put}
use Rattle.cbm_program.specs.declared.request.ScriptRequest.{ScriptRequest}
use Rattle.cbm_program.specs.declared.request.ScriptRequest.TheVariants.{Fill, Get, Status}
use Rattle.cbm_program.specs.Scripts.{hex}
use Rattle.cbm_program.proofs.Words.{open_by, put_by, formatted, blank, prints, afterwards, summary, status_is}

-- the place: a record by its two bytes, low first, and a position
abbrev pub place_by : ℕ → ℕ → ℕ → ScriptRequest
place_by low high p = put_by 15 (80 ∷ 0x62 ∷ low ∷ high ∷ p ∷ [])

-- a new file of records of 100 bytes
abbrev pub records_of_100 : Machine
records_of_100 = afterwards (open_by 2 (codes "R,L," ++ 100 ∷ []) ∷ []) blank

-- how many records the body has
abbrev pub count_in : Body → ℕ
count_in (Bytes bytes) = 0
count_in (Records l rs b s) = length rs

pub new_file : summary records_of_100 ≡ ((codes "R", 2, 2) ∷ [], 662)
new_file = refl

pub new_records : count_in (body_at records_of_100.disk 0) ≡ 2
new_records = refl

pub third_is_missing : prints (place_by 3 0 1 ∷ Status ∷ []) records_of_100 ≡ status_is (codes "50,RECORD NOT PRESENT")
third_is_missing = refl

-- the third record is written
abbrev pub with_third : Machine
with_third = afterwards (place_by 3 0 1 ∷ put_by 2 (codes "HI") ∷ []) records_of_100

pub third_blocks : summary with_third ≡ ((codes "R", 3, 3) ∷ [], 661)
third_blocks = refl

pub third_count : count_in (body_at with_third.disk 0) ≡ 5
third_count = refl

pub third_read : prints (place_by 3 0 1 ∷ Get 2 200 ∷ []) with_third ≡ codes "get 2 4849 eoi\n"
unfolding digits
third_read = refl

-- more bytes than fit
pub overflow_status : prints (place_by 3 0 1 ∷ Fill 2 101 0x41 ∷ Status ∷ []) with_third ≡ status_is (codes "51,OVERFLOW IN RECORD")
overflow_status = refl

pub overflow_read : prints (place_by 3 0 1 ∷ Fill 2 101 0x41 ∷ place_by 3 0 1 ∷ Get 2 200 ∷ []) with_third
    ≡ codes "get 2 " ++ flat_map hex (replicate 100 0x41) ++ codes " eoi\n"
unfolding digits
overflow_read = refl

-- a relative channel costs two
pub costs_two : prints (open_by 2 (codes "R,L,d") ∷ open_by 3 (codes "S,S,W") ∷ open_by 4 (codes "T,S,W") ∷ Status ∷ []) blank ≡ status_is (codes "70,NO CHANNEL")
costs_two = refl

-- a position after the record's end: the place stays
pub past_the_end : prints (place_by 3 0 0x65 ∷ Status ∷ Get 2 9 ∷ []) with_third ≡ status_is (codes "51,OVERFLOW IN RECORD") ++ codes "get 2 ff eoi\n"
unfolding digits
past_the_end = refl

-- beyond the last record
pub beyond : prints (place_by 6 0 1 ∷ Get 2 9 ∷ Status ∷ []) with_third ≡ codes "get 2 0d eoi\n" ++ status_is (codes "50,RECORD NOT PRESENT")
unfolding digits
beyond = refl

-- a text that is put to another channel of its kind drops the one before it
pub dropped_text : prints (place_by 1 0 1 ∷ Get 2 9 ∷ []) (end_put 2 (put 15 73 (put 2 65 records_of_100))) ≡ codes "get 2 ff eoi\n"
unfolding digits
dropped_text = refl

-- ---- records of 254 bytes, one to a block

-- a new file of them on a formatted disk of so many tracks
abbrev pub records_of_254 : ℕ → Machine
records_of_254 tracks = afterwards (open_by 2 (codes "R,L," ++ 254 ∷ []) ∷ []) (start (formatted tracks) false tracks)

-- a byte is put into a record
abbrev pub written_to : ℕ → ℕ → List ScriptRequest
written_to low high = place_by low high 1 ∷ put_by 2 (codes "A") ∷ []

pub record_121 : summary (afterwards (written_to 121 0) (records_of_254 35)) ≡ ((codes "R", 123, 123) ∷ [], 541)
record_121 = refl

pub record_658 : summary (afterwards (written_to 0x92 2) (records_of_254 35)) ≡ ((codes "R", 664, 664) ∷ [], 0)
record_658 = refl

pub record_659 : prints (written_to 0x93 2 ++ Status ∷ []) (records_of_254 35) ≡ status_is (codes "52,FILE TOO LARGE")
record_659 = refl

pub record_659_kept : summary (afterwards (written_to 0x93 2) (records_of_254 35)) ≡ ((codes "R", 2, 2) ∷ [], 662)
record_659_kept = refl

-- on forty tracks six side sectors are the limit
pub record_720 : summary (afterwards (written_to 0xd0 2) (records_of_254 40)) ≡ ((codes "R", 726, 726) ∷ [], 23)
record_720 = refl

pub record_721 : prints (written_to 0xd1 2 ++ Status ∷ []) (records_of_254 40) ≡ status_is (codes "52,FILE TOO LARGE")
record_721 = refl

pub record_721_kept : summary (afterwards (written_to 0xd1 2) (records_of_254 40)) ≡ ((codes "R", 2, 2) ∷ [], 747)
record_721_kept = refl
