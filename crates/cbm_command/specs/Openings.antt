-- The text of an OPEN on a channel from 0 to 14: what it asks for, or its refusal.
use Rattle.std.specs.Prelude.{ℕ, ◌==◌, nat_lt, Bool, true, false, ◌&&◌, ◌||◌, List, [], ◌∷◌, length, slice_index_or, if◌then◌else◌, Option, Some, None, is_some, Result, Ok, Err}
use Rattle.cbm_file.specs.declared.file_type.FileType.{FileType}
use Rattle.cbm_file.specs.declared.file_type.FileType.TheVariants.{Seq, Prg, Usr, Rel}
use Rattle.cbm_command.specs.declared.refusal.Refusal.{Refusal}
use Rattle.cbm_command.specs.declared.refusal.Refusal.TheVariants.{Syntax, LongText, WildName, NoName, NoChannel}
use Rattle.cbm_command.specs.declared.opening.Mode.{Mode}
use Rattle.cbm_command.specs.declared.opening.Mode.TheVariants.{Read, Write, Append}
use Rattle.cbm_command.specs.declared.opening.Wanted.{Wanted}
use Rattle.cbm_command.specs.declared.opening.Opening.{Opening}
use Rattle.cbm_command.specs.declared.opening.Opening.TheVariants.{Listing, File}
use Rattle.cbm_command.specs.Texts.{comma, colon, equals, at_sign, before_byte, after_byte, holds_byte, parts_at}
use Rattle.cbm_command.specs.Names.{name_of, is_empty, is_wild, asterisk}
use Rattle.cbm_command.specs.Refusals.{◌>>=◌, unless, drive_head}

-- A head before a name: `@`, then `0`, each of which may be missing. The answer is whether `@` is there.
abbrev pub at_in_head : List ℕ → Result Bool Refusal
at_in_head [] = Ok false
at_in_head (c ∷ rest) =
    if c == at_sign then (drive_head rest >>= λ _. Ok true) else (drive_head (c ∷ rest) >>= λ _. Ok false)

-- ---- `$`

-- one pattern, and no filter of types after it
abbrev pub pattern_asked : List ℕ → Result Opening Refusal
pattern_asked text = unless
    ((is_empty (name_of (before_byte comma text)), NoName) ∷ (holds_byte comma text || holds_byte equals text, Syntax) ∷ [])
    (Ok (Listing (name_of text)))

-- after `$`: perhaps the drive's digit, and perhaps a colon and a pattern
abbrev pub listing_asked : List ℕ → Result Opening Refusal
listing_asked text = drive_head (before_byte colon text) >>= λ _.
    if holds_byte colon text then pattern_asked (after_byte colon text) else Ok (Listing (asterisk ∷ []))

-- ---- a name and its pieces

-- the file with this type
abbrev pub set_kind : FileType → Wanted → Wanted
set_kind k w = record w { kind = Some k }

-- the file in this mode
abbrev pub set_mode : Mode → Wanted → Wanted
set_mode m w = record w { mode = m }

-- A piece counts by its first byte: a type or a mode. M is read as R.
abbrev pub with_piece : List ℕ → Wanted → Result Wanted Refusal
with_piece [] w = Err Syntax
with_piece (c ∷ rest) w =
    if c == 80 then Ok (set_kind Prg w) else
    if c == 83 then Ok (set_kind Seq w) else
    if c == 85 then Ok (set_kind Usr w) else
    if c == 76 then Ok (set_kind Rel w) else
    if c == 82 then Ok (set_mode Read w) else
    if c == 77 then Ok (set_mode Read w) else
    if c == 87 then Ok (set_mode Write w) else
    if c == 65 then Ok (set_mode Append w) else Err Syntax

-- a piece that begins with L
abbrev pub is_length_piece : List ℕ → Bool
is_length_piece p = slice_index_or p 0 0 == 76

-- The first byte of the text whose parts between commas these are, which may be a comma; 0 where there is none.
abbrev pub first_byte : List (List ℕ) → ℕ
first_byte [] = 0
first_byte ((c ∷ p) ∷ ps) = c
first_byte ([] ∷ []) = 0
first_byte ([] ∷ p ∷ ps) = comma

-- The pieces in order, so that the last of a kind counts. After L and its comma stands the record length,
-- whatever its byte is, and what follows isn't read.
abbrev pub with_pieces : List (List ℕ) → Wanted → Result Wanted Refusal
with_pieces [] w = Ok w
with_pieces (p ∷ ps) w = with_piece p w >>= λ v.
    if is_length_piece p then Ok (record v { record_length = first_byte ps }) else with_pieces ps v

-- Channel 0 reads and channel 1 writes, whatever mode is given.
abbrev pub by_channel : ℕ → Wanted → Wanted
by_channel ch w = if ch == 0 then set_mode Read w else if ch == 1 then set_mode Write w else w

-- The type that is meant where none is given: PRG on the channels 0 and 1, else any, or SEQ where it is written.
abbrev pub default_kind : ℕ → Mode → Option FileType
default_kind ch Write = Some (if ch == 1 then Prg else Seq)
default_kind ch Read = if ch == 0 then Some Prg else None
default_kind ch Append = if ch == 0 then Some Prg else None

-- the file with the type that is meant
abbrev pub or_default : ℕ → Wanted → Wanted
or_default ch w = if is_some w.kind then w else record w { kind = default_kind ch w.mode }

-- the type is the one of records
abbrev pub wants_relative : Wanted → Bool
wants_relative w = elim w.kind [ Some Rel ↦ true | _ ↦ false ]

-- the file is written, appended to or made, or may be: its name is given whole
abbrev pub is_named_whole : Wanted → Bool
is_named_whole w = elim w.mode [ Write ↦ true | Append ↦ true | Read ↦ wants_relative w ]

-- A pattern is no name that is given whole.
abbrev pub file_named : Wanted → Result Opening Refusal
file_named w = unless ((is_named_whole w && is_wild w.name, WildName) ∷ []) (Ok (File w))

-- the file before its pieces are read
abbrev pub plain_file : Bool → List ℕ → Wanted
plain_file at name = record { has_at = at; name = name; mode = Read; kind = None; record_length = 0 }

-- a name, and pieces after commas
abbrev pub file_asked : ℕ → Bool → List ℕ → Result Opening Refusal
file_asked ch at text =
    let name = name_of (before_byte comma text) in
    unless ((is_empty name, NoName) ∷ [])
    ((if holds_byte comma text then with_pieces (parts_at comma (after_byte comma text)) (plain_file at name) else Ok (plain_file at name))
    >>= λ w. file_named (or_default ch (by_channel ch w)))

-- perhaps a head and its colon, which counts only before the first comma
abbrev pub headed_file : ℕ → List ℕ → Result Opening Refusal
headed_file ch text =
    if holds_byte colon (before_byte comma text)
    then (at_in_head (before_byte colon text) >>= λ at. file_asked ch at (after_byte colon text))
    else file_asked ch false text

-- The first byte chooses: `#` is a direct channel, `$` the listing, which channel 0 alone has.
abbrev pub by_first : ℕ → List ℕ → Result Opening Refusal
by_first ch [] = Err NoName
by_first ch (c ∷ text) =
    if c == 35 then Err NoChannel else
    if c == 36 then (if ch == 0 then listing_asked text else Err Syntax) else
    headed_file ch (c ∷ text)

-- what the text of an OPEN on a channel asks for; more than 58 bytes are refused before all else
abbrev pub opening_of : ℕ → List ℕ → Result Opening Refusal
opening_of ch text = if nat_lt 58 (length text) then Err LongText else by_first ch text
