-- The lines of a listing, which is read as a program is: each a link, a number, a text and a zero, 32 bytes together.
use Rattle.std.specs.Prelude.{ℕ, ◌-◌, ◌/◌, ◌%◌, ◌==◌, nat_lt, Bool, List, [], ◌∷◌, ◌++◌, map, length, replicate, codes, if◌then◌else◌, Option, Some, None}
use Rattle.cbm_file.specs.declared.file_type.FileType.{FileType}
use Rattle.cbm_file.specs.Types.{type_text}
use Rattle.cbm_file.specs.Padding.{before_filler}
use Rattle.cbm_file.specs.Files.{File}

-- what fills a line
abbrev pub space : ℕ
space = 32

-- what stands round a title and a name
abbrev pub quote : ℕ
quote = 34

-- what fills a title and a name on the disk
abbrev pub name_filler : ℕ
name_filler = 0xa0

-- a number as two bytes, low first
abbrev pub low_first : ℕ → List ℕ
low_first n = n % 256 ∷ n / 256 ∷ []

-- a text with spaces after it, n bytes together
abbrev pub padded_to : ℕ → List ℕ → List ℕ
padded_to n text = text ++ replicate (n - length text) space

-- a line: the link 1 1, a number, a text and a zero
abbrev pub line : ℕ → List ℕ → List ℕ
line n text = 1 ∷ 1 ∷ low_first n ++ text ++ 0 ∷ []

-- a filler is shown as a space
abbrev pub shown_byte : ℕ → ℕ
shown_byte c = if c == name_filler then space else c

-- bytes of the header as they are shown
abbrev pub shown_bytes : List ℕ → List ℕ
shown_bytes bytes = map shown_byte bytes

-- The first line, after the load address 1 4: in reverse letters the title in quotes, then the five bytes of id and version.
abbrev pub title_line : List ℕ → List ℕ → List ℕ
title_line title mark = 1 ∷ 4 ∷ line 0 (18 ∷ quote ∷ shown_bytes title ++ quote ∷ space ∷ shown_bytes mark)

-- this many spaces stand between a number and a name, so that the names stand below one another
abbrev pub indent_width : ℕ → ℕ
indent_width n = if nat_lt n 10 then 3 else if nat_lt n 100 then 2 else 1

-- these spaces
abbrev pub indent : ℕ → List ℕ
indent n = replicate (indent_width n) space

-- the letters of a type; of a number that is no type, three question marks
abbrev pub kind_text : Option FileType → List ℕ
kind_text None = codes "???"
kind_text (Some kind) = type_text kind

-- an asterisk for a file that isn't closed
abbrev pub closed_mark : Bool → ℕ
closed_mark closed = if closed then space else 42

-- `<` for a file that is locked
abbrev pub locked_mark : Bool → ℕ
locked_mark locked = if locked then 60 else space

-- The line of an entry: its blocks, its name up to the first filler in quotes, its type, and a mark before and after that.
abbrev pub entry_line : ℕ → List ℕ → Option FileType → Bool → Bool → List ℕ
entry_line blocks name kind closed locked = line blocks (padded_to 27 (
    indent blocks ++ padded_to 18 (quote ∷ before_filler name ++ quote ∷ [])
    ++ closed_mark closed ∷ kind_text kind ++ locked_mark locked ∷ []))

-- the line of a file
abbrev pub file_line : File → List ℕ
file_line f = entry_line f.shown f.name (Some f.kind) f.closed f.locked

-- the last line: the free blocks, and two zeros more that end the listing
abbrev pub last_line : ℕ → List ℕ
last_line free = line free (padded_to 25 (codes "BLOCKS FREE.")) ++ 0 ∷ 0 ∷ []
