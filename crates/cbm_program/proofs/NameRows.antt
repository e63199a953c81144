-- Worked rows: which file a name opens, and refused texts.
use Rattle.std.specs.Prelude.{◌≡◌, refl, ℕ, List, [], ◌∷◌, ◌++◌, codes, replicate, map, slice_range}
use Rattle.std.specs.Fmt.{digits}
use Rattle.cbm_machine.specs.Machines.{Machine}
use Rattle.cbm_program.specs.declared.request.ScriptRequest.{ScriptRequest}
use Rattle.cbm_program.specs.declared.request.ScriptRequest.TheVariants.{Get, Close, Status}
use Rattle.cbm_program.proofs.Words.{open_by, put_by, blank, prints, afterwards, status_is}

-- a sequential file AB and a program AC, each of one byte
abbrev pub two_types : Machine
two_types = afterwards
    (open_by 2 (codes "AB,S,W") ∷ put_by 2 (1 ∷ []) ∷ Close 2 ∷ open_by 2 (codes "AC,P,W") ∷ put_by 2 (2 ∷ []) ∷ Close 2 ∷ [])
    blank

pub program_on_0 : prints (open_by 0 (codes "A*") ∷ Get 0 9 ∷ []) two_types ≡ codes "get 0 02 eoi\n"
unfolding digits
program_on_0 = refl

pub any_on_2 : prints (open_by 2 (codes "A?") ∷ Get 2 9 ∷ []) two_types ≡ codes "get 2 01 eoi\n"
unfolding digits
any_on_2 = refl

pub program_asked : prints (open_by 2 (codes "A*,P") ∷ Get 2 9 ∷ []) two_types ≡ codes "get 2 02 eoi\n"
unfolding digits
program_asked = refl

pub wrong_type : prints (open_by 0 (codes "AB") ∷ Status ∷ []) two_types ≡ status_is (codes "64,FILE TYPE MISMATCH")
wrong_type = refl

-- the two digits of the status after a request
abbrev pub code_after : Machine → ScriptRequest → List ℕ
code_after m request = slice_range (prints (Status ∷ []) (afterwards (request ∷ []) m)) 7 9

pub refused_texts : map (code_after blank)
    (open_by 1 (codes "A*") ∷ open_by 2 (codes "0:") ∷ open_by 2 (codes "A,X") ∷ open_by 0 (codes "1:A") ∷ open_by 2 (codes "$") ∷ open_by 2 (codes "#") ∷ [])
    ≡ codes "33" ∷ codes "34" ∷ codes "30" ∷ codes "74" ∷ codes "30" ∷ codes "70" ∷ []
refused_texts = refl

-- the file A of one byte
abbrev pub one_file : Machine
one_file = afterwards (open_by 2 (codes "A,S,W") ∷ put_by 2 (65 ∷ []) ∷ Close 2 ∷ []) blank

-- a fourth channel is refused, and three still read
pub three_channels : prints (open_by 2 (codes "A") ∷ open_by 3 (codes "A") ∷ open_by 4 (codes "A") ∷ open_by 5 (codes "A") ∷ Status
    ∷ Get 2 9 ∷ Get 3 9 ∷ Get 4 9 ∷ Get 5 9 ∷ []) one_file
    ≡ status_is (codes "70,NO CHANNEL") ++ codes "get 2 41 eoi\nget 3 41 eoi\nget 4 41 eoi\nget 5 none\n"
unfolding digits
three_channels = refl

-- heads, pieces and listings, one rule each
pub heads : map (λ t. code_after blank (open_by 2 t))
    (codes "@0:A,S,W" ∷ codes "@1:A" ∷ codes "0@:A" ∷ codes "@@:A" ∷ codes "00:A" ∷ codes "01:A" ∷ codes "1X:A" ∷ codes "0X:A" ∷ codes "@:A"
    ∷ codes "x1:A" ∷ codes ":A" ∷ codes "@A" ∷ codes "A,0:B" ∷ [])
    ≡ codes "00" ∷ codes "74" ∷ codes "30" ∷ codes "30" ∷ codes "30" ∷ codes "74" ∷ codes "74" ∷ codes "30" ∷ codes "62"
    ∷ codes "30" ∷ codes "62" ∷ codes "62" ∷ codes "30" ∷ []
heads = refl

pub pieces : map (λ t. code_after blank (open_by 2 t))
    (codes "A,S,P,W" ∷ codes "A,W,L,d" ∷ codes "A,P,X" ∷ codes ",S" ∷ codes "A," ∷ codes "A,L" ∷ codes "A,L," ∷ codes "A,L,," ∷ (codes "A,L," ++ 255 ∷ [])
    ∷ codes "A?,W" ∷ codes "A*,L,d" ∷ codes "A?,W,X" ∷ codes "@:A,L,d" ∷ codes "A,A" ∷ replicate 59 65 ∷ replicate 58 65 ∷ [])
    ≡ codes "00" ∷ codes "00" ∷ codes "30" ∷ codes "34" ∷ codes "30" ∷ codes "62" ∷ codes "62" ∷ codes "00" ∷ codes "50"
    ∷ codes "33" ∷ codes "33" ∷ codes "30" ∷ codes "64" ∷ codes "62" ∷ codes "32" ∷ codes "62" ∷ []
pieces = refl

pub listings : map (λ t. code_after blank (open_by 0 t))
    (codes "$0:A" ∷ codes "$0" ∷ codes "$0x" ∷ codes "$2:A" ∷ codes "$:" ∷ codes "$:,A" ∷ codes "$:A,B" ∷ codes "$:A=P" ∷ codes "$A" ∷ codes "$1" ∷ codes "*" ∷ [] ∷ [])
    ≡ codes "00" ∷ codes "00" ∷ codes "30" ∷ codes "74" ∷ codes "34" ∷ codes "34" ∷ codes "30" ∷ codes "30" ∷ codes "30" ∷ codes "74" ∷ codes "62" ∷ codes "34" ∷ []
listings = refl

-- calls on channels that are not open for them
pub not_open : map (code_after blank) (Get 2 9 ∷ put_by 2 (codes "A") ∷ Close 2 ∷ []) ≡ codes "61" ∷ codes "61" ∷ codes "73" ∷ []
not_open = refl
