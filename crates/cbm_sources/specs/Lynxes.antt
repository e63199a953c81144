-- The Lynx format: a BASIC program, the directory as lines of text, and the blocks of the files, 254 bytes each.
use Rattle.std.specs.Prelude.{ℕ, zero, suc, ◌+◌, ◌-◌, ◌*◌, ◌==◌, nat_lt, min, Bool, ◌&&◌, ◌||◌, not, if◌then◌else◌, List, [], ◌∷◌, ◌++◌, length, take, slice_get, slice_index, slice_range, Option, Some, None, Ok, Err}
use Rattle.cbm_file.specs.Files.{parts}
use Rattle.cbm_file.specs.Types.{is_same_type}
use Rattle.cbm_file.specs.declared.file_type.FileType.{FileType}
use Rattle.cbm_file.specs.declared.file_type.FileType.TheVariants.{Del, Seq, Prg, Usr, Rel}
use Rattle.cbm_directory.specs.Entries.{closed_entry}
use Rattle.cbm_directory.specs.EntryChanges.{fresh_entry}
use Rattle.cbm_sources.specs.declared.fault.Fault.{Fault}
use Rattle.cbm_sources.specs.declared.fault.Fault.TheVariants.{NoFile, Cut, Text}
use Rattle.cbm_sources.specs.declared.lines.Numbered.{Numbered}
use Rattle.cbm_sources.specs.declared.lines.Kind.{Kind}
use Rattle.cbm_sources.specs.declared.lines.Member.{Member}
use Rattle.cbm_sources.specs.declared.lines.Header.{Header}
use Rattle.cbm_sources.specs.declared.lynx.Piece.{Piece}
use Rattle.cbm_sources.specs.Answers.{FileTold}
use Rattle.cbm_sources.specs.Tapes.{no_block}

-- what follows a value, none where there is none
abbrev pub if_given : {A B : Type 0} → Option A → (A → Option B) → Option B
if_given None rest = None
if_given (Some x) rest = rest x

-- the first of this many places that passes, from a place on
abbrev pub first_where : (ℕ → Bool) → (count : ℕ) → ℕ → Option ℕ
first_where test zero k = None
first_where test (suc n) k = if test k then Some k else first_where test n (k + 1)

-- the first place of the archive that passes, from a place on
abbrev pub place_where : (ℕ → Bool) → List ℕ → ℕ → Option ℕ
place_where test bytes at = first_where test (length bytes - at) at

-- ---- lines

-- a line ends before a carriage return
abbrev pub line_end : List ℕ → ℕ → Option ℕ
line_end bytes at = place_where (λ k. slice_index bytes k == 13) bytes at

-- the digits 0 to 9
abbrev pub is_numeral : ℕ → Bool
is_numeral c = nat_lt 47 c && nat_lt c 58

-- a space or a digit
abbrev pub is_numeric : ℕ → Bool
is_numeric c = (c == 32) || is_numeral c

-- a number with one digit more; a space adds none, and a number ends below 65536
abbrev pub with_digit : ℕ → ℕ → Option ℕ
with_digit n c =
    if c == 32 then Some n
    else if is_numeral c && nat_lt (10 * n + (c - 48)) 65536 then Some (10 * n + (c - 48))
    else None

-- the number that digits and spaces spell
abbrev pub spelled_from : ℕ → List ℕ → Option ℕ
spelled_from n [] = Some n
spelled_from n (c ∷ rest) = if_given (with_digit n c) (λ m. spelled_from m rest)

-- a number, and where the next line begins
abbrev pub numbered_with : ℕ → ℕ → Numbered
numbered_with value next = record { value = value; next = next }

-- the number that is the line at a place
unfoldable pub number_line : List ℕ → ℕ → Option Numbered
number_line bytes at = if_given (line_end bytes at) (λ end. if_given (spelled_from 0 (slice_range bytes at end)) (λ n. Some (numbered_with n (end + 1))))

-- the type that a letter means
abbrev pub type_of_letter : ℕ → Option FileType
type_of_letter c =
    if c == 68 then Some Del else if c == 83 then Some Seq else if c == 80 then Some Prg else if c == 85 then Some Usr else if c == 82 then Some Rel else None

-- a type, and where the next line begins
abbrev pub kind_with : FileType → ℕ → Kind
kind_with kind next = record { kind = kind; next = next }

-- the type that the first letter of the line at a place means
unfoldable pub kind_line : List ℕ → ℕ → Option Kind
kind_line bytes at = if_given (line_end bytes at) (λ end. if_given (type_of_letter (slice_index bytes at)) (λ kind. Some (kind_with kind (end + 1))))

-- ---- the directory

-- the four bytes after which the directory begins: three zeros end the program, and a carriage return follows
abbrev pub ends_program : List ℕ → ℕ → Bool
ends_program bytes k =
    (slice_index bytes k == 0) && ((slice_index bytes (k + 1) == 0) && ((slice_index bytes (k + 2) == 0) && (slice_index bytes (k + 3) == 13)))

-- where the directory begins
abbrev pub text_start : List ℕ → Option ℕ
text_start bytes = if_given (first_where (ends_program bytes) (length bytes - 3) 0) (λ k. Some (k + 4))

-- where the number ends with which the first line begins
abbrev pub number_end : List ℕ → ℕ → Option ℕ
number_end bytes at = place_where (λ k. not (is_numeric (slice_index bytes k))) bytes at

-- the word LYNX
abbrev pub is_word : List ℕ → ℕ → Bool
is_word bytes k =
    (slice_index bytes k == 76) && ((slice_index bytes (k + 1) == 89) && ((slice_index bytes (k + 2) == 78) && (slice_index bytes (k + 3) == 88)))

-- the directory's first line goes on with the word LYNX, maybe after a star
abbrev pub is_signature : List ℕ → ℕ → Bool
is_signature bytes k = is_word bytes (if slice_index bytes k == 42 then k + 1 else k)

-- how many blocks program and directory take, how many files there are, and where the first file's lines begin
abbrev pub header_with : ℕ → Numbered → Header
header_with blocks count = record { blocks = blocks; count = count.value; next = count.next }

-- only where that word stands
abbrev pub if_signed : List ℕ → ℕ → Option Header → Option Header
if_signed bytes k header = if is_signature bytes k then header else None

-- what the two lines at a place say: a number and the word LYNX, and the number of files
unfoldable pub lynx_header_at : List ℕ → ℕ → Option Header
lynx_header_at bytes at =
    if_given (number_end bytes at) (λ stop. if_signed bytes stop
    (if_given (spelled_from 0 (slice_range bytes at stop)) (λ blocks.
    if_given (line_end bytes stop) (λ end.
    if_given (number_line bytes (end + 1)) (λ count. Some (header_with blocks count))))))

-- WHAT A LYNX ARCHIVE'S DIRECTORY SAYS FIRST, none where the bytes are no such archive
unfoldable pub lynx_header : List ℕ → Option Header
lynx_header bytes = if_given (text_start bytes) (lynx_header_at bytes)

-- ---- files

-- The number of the last byte comes after the type; a relative file has a line between them, with the length of its records.
unfoldable pub last_byte_line : List ℕ → Kind → Option Numbered
last_byte_line bytes k =
    if is_same_type k.kind Rel then if_given (number_line bytes k.next) (λ width. number_line bytes width.next) else number_line bytes k.next

-- a file's name, its blocks, its type, and the number of the last byte of its last block
abbrev pub member_with : ℕ → ℕ → Numbered → FileType → Numbered → Member
member_with from to blocks kind last = record { name_from = from; name_to = to; kind = kind; blocks = blocks.value; last = last.value; next = last.next }

-- what the lines of a file say that begin at a place
unfoldable pub member_at : List ℕ → ℕ → Option Member
member_at bytes at =
    if_given (line_end bytes at) (λ to.
    if_given (number_line bytes (to + 1)) (λ blocks.
    if_given (kind_line bytes blocks.next) (λ kind.
    if_given (last_byte_line bytes kind) (λ last. Some (member_with at to blocks kind.kind last)))))

-- The side sectors of a relative file come before its data, one for 120 blocks that it names, and count among its blocks.
abbrev pub side_blocks : Member → ℕ
side_blocks m = if is_same_type m.kind Rel then parts m.blocks 121 else 0

-- the blocks of a file's data
abbrev pub data_blocks : Member → ℕ
data_blocks m = m.blocks - side_blocks m

-- how many bytes a file has: those of its last block end with the one that is named, where the first two are the link's
abbrev pub member_size : Member → ℕ
member_size m = if data_blocks m == 0 then 0 else 254 * (data_blocks m - 1) + (min m.last 255 - 1)

-- where a file's bytes stand, whose blocks begin at a place
abbrev pub piece_of : ℕ → Member → Piece
piece_of start m = record { start = start + 254 * side_blocks m; size = member_size m }

-- a closed file's entry
abbrev pub member_entry : List ℕ → Member → List ℕ
member_entry bytes m = closed_entry (fresh_entry m.kind (take 16 (slice_range bytes m.name_from m.name_to)) no_block) no_block m.blocks

-- the files' entries, where their bytes stand, and the place where the directory can't be read
pub record Members : Type 0 where
  pub entries : List (List ℕ)
  pub pieces : List Piece
  pub broken : Option ℕ

-- files before the others
abbrev pub after_members : List (List ℕ) → List Piece → Members → Members
after_members entries pieces rest = record { entries = entries ++ rest.entries; pieces = pieces ++ rest.pieces; broken = rest.broken }

-- the file that the lines at a place say, before the others; where they say none, the directory breaks off
abbrev pub members_after : List ℕ → Option Member → ℕ → ℕ → (Member → Members) → Members
members_after bytes None at start rest = record { entries = []; pieces = []; broken = Some at }
members_after bytes (Some m) at start rest = after_members (member_entry bytes m ∷ []) (piece_of start m ∷ []) (rest m)

-- this many files, from a place on; their blocks follow one another
unfoldable pub members_from : (count : ℕ) → List ℕ → ℕ → ℕ → Members
members_from zero bytes at start = record { entries = []; pieces = []; broken = None }
members_from (suc n) bytes at start = members_after bytes (member_at bytes at) at start (λ m. members_from n bytes m.next (start + 254 * m.blocks))

-- the files that a directory's first lines announce
abbrev pub members_in : List ℕ → Option Header → Members
members_in bytes None = record { entries = []; pieces = []; broken = None }
members_in bytes (Some h) = members_from h.count bytes h.next (254 * h.blocks)

-- THE FILES OF AN ARCHIVE
unfoldable pub members_of : List ℕ → Members
members_of bytes = members_in bytes (lynx_header bytes)

-- the bytes of a file; none where the archive ends before they do
abbrev pub piece_told : List ℕ → Piece → FileTold
piece_told bytes p = if nat_lt (length bytes) (p.start + p.size) then Err (Cut p.start) else Ok (slice_range bytes p.start (p.start + p.size))

-- why there is no file of a number: there are no more, or the directory can't be read any more
abbrev pub text_missing : Option ℕ → Fault
text_missing None = NoFile
text_missing (Some at) = Text at

-- the bytes of a file if there is one, else why not
abbrev pub lynx_told : List ℕ → Option ℕ → Option Piece → FileTold
lynx_told bytes broken None = Err (text_missing broken)
lynx_told bytes broken (Some p) = piece_told bytes p

-- THE BYTES OF THE FILE OF A NUMBER, counted from 0
unfoldable pub lynx_file : List ℕ → ℕ → FileTold
lynx_file bytes n = lynx_told bytes (members_of bytes).broken (slice_get (members_of bytes).pieces n)
