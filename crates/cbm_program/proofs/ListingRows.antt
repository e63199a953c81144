-- Worked rows: listings.
use Rattle.std.specs.Prelude.{◌≡◌, refl, ℕ, false, List, [], ◌∷◌, ◌++◌, codes, length, slice_range}
use Rattle.std.specs.Fmt.{digits}
use Rattle.cbm_machine.specs.Machines.{Machine, start}
use Rattle.cbm_program.specs.declared.request.ScriptRequest.{ScriptRequest}
use Rattle.cbm_program.specs.declared.request.ScriptRequest.TheVariants.{Get, Close}
use Rattle.cbm_talk.specs.Talks.{talked}
use Rattle.cbm_program.proofs.Words.{open_by, put_by, formatted, blank, prints, afterwards}

-- the listing of a formatted disk, 64 bytes
pub listing_of_blank : prints (open_by 0 (codes "$") ∷ Get 0 5000 ∷ []) blank ≡ codes "get 0 "
    ++ codes "01040101000012225445535420202020202020202020202022204142203241000101980242"
    ++ codes "4c4f434b5320465245452e20202020202020202020202020000000" ++ codes " eoi\n"
unfolding digits
listing_of_blank = refl

-- a program of three bytes on channel 1
abbrev pub writes_hello : List ScriptRequest
writes_hello = open_by 1 (codes "HELLO") ∷ put_by 1 (1 ∷ 2 ∷ 3 ∷ []) ∷ []

-- the bytes of the listing then
abbrev pub listed : Machine → List ℕ
listed m = (talked 0 5000 (afterwards (open_by 0 (codes "$") ∷ []) m)).bytes

-- it is closed
abbrev pub with_hello : Machine
with_hello = afterwards (Close 1 ∷ []) (afterwards writes_hello blank)

pub listing_length : length (listed with_hello) ≡ 96
listing_length = refl

pub hello_line : slice_range (listed with_hello) 32 64 ≡ 1 ∷ 1 ∷ 1 ∷ 0 ∷ codes "   \"HELLO\"            PRG  " ++ 0 ∷ []
hello_line = refl

-- while it is written
pub unclosed_line : slice_range (listed (afterwards writes_hello blank)) 32 64 ≡ 1 ∷ 1 ∷ 0 ∷ 0 ∷ codes "   \"HELLO\"           *PRG  " ++ 0 ∷ []
unclosed_line = refl

-- a pattern chooses the lines
pub listing_of_pattern : length (talked 0 5000 (afterwards (open_by 0 (codes "$0:J*") ∷ []) with_hello)).bytes ≡ 64
listing_of_pattern = refl

-- on forty tracks 749 blocks are free
pub free_on_forty : slice_range (listed (start (formatted 40) false 40)) 32 38 ≡ 1 ∷ 1 ∷ 0xed ∷ 0x02 ∷ codes "BL"
free_on_forty = refl
