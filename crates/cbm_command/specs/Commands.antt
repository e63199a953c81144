-- The text of a command, without the return at its end: what it asks for, or its refusal.
use Rattle.std.specs.Prelude.{ℕ, ◌+◌, ◌*◌, ◌%◌, ◌==◌, nat_lt, max, ◌&&◌, ◌||◌, not, List, [], ◌∷◌, ◌++◌, length, take, slice_index_or, if◌then◌else◌, Some, None, Result, Ok, Err}
use Rattle.std.specs.List.{list_any}
use Rattle.cbm_command.specs.declared.refusal.Refusal.{Refusal}
use Rattle.cbm_command.specs.declared.refusal.Refusal.TheVariants.{Syntax, UnknownCommand, LongText, WildName, NoName, DriveNotReady}
use Rattle.cbm_command.specs.declared.command.Command.{Command}
use Rattle.cbm_command.specs.declared.command.Command.TheVariants.{New, Scratch, Rename, Copy, Validate, Initialize, Position}
use Rattle.cbm_command.specs.Texts.{comma, colon, equals, drive_digit, is_digit, is_letter, before_byte, after_byte, holds_byte, parts_at}
use Rattle.cbm_command.specs.Names.{name_of, is_empty, is_wild}
use Rattle.cbm_command.specs.Refusals.{◌>>=◌, unless, drive_head}

-- The head of a command after its first byte: letters, and perhaps the drive's digit at the end.
abbrev pub command_head : List ℕ → Result (Unit {0}) Refusal
command_head [] = Ok tt
command_head (c ∷ rest) = if is_letter c then command_head rest else drive_head (c ∷ rest)

-- A later name: the drive's digit and a colon before it are skipped, another digit there is another drive.
abbrev pub later_name : List ℕ → Result (List ℕ) Refusal
later_name [] = Ok []
later_name (d ∷ []) = Ok (name_of (d ∷ []))
later_name (d ∷ c ∷ text) =
    if is_digit d && (c == colon)
    then (if d == drive_digit then Ok (name_of text) else Err DriveNotReady)
    else Ok (name_of (d ∷ c ∷ text))

-- later names, the first that names another drive refuses
abbrev pub later_names : List (List ℕ) → Result (List (List ℕ)) Refusal
later_names [] = Ok []
later_names (t ∷ ts) = later_name t >>= λ n. later_names ts >>= λ ns. Ok (n ∷ ns)

-- the names of a list: the first, and the later ones
abbrev pub names_in : List (List ℕ) → Result (List (List ℕ)) Refusal
names_in [] = Ok []
names_in (t ∷ ts) = later_names ts >>= λ ns. Ok (name_of t ∷ ns)

-- these names, and then those that a list gives
abbrev pub names_and : List (List ℕ) → Result (List (List ℕ)) Refusal → Result (List (List ℕ)) Refusal
names_and ns more = more >>= λ ms. Ok (ns ++ ms)

-- ---- the rest after a head and its colon

-- N: a name, and perhaps a comma and an id, of which two bytes count
abbrev pub new_asked : List ℕ → Result Command Refusal
new_asked text =
    let name = name_of (before_byte comma text) in
    let id = after_byte comma text in
    unless ((is_empty name, NoName) ∷ (is_wild name, WildName) ∷ (holds_byte comma text && nat_lt (length id) 2, Syntax) ∷ [])
    (Ok (New name (if holds_byte comma text then Some (take 2 id) else None)))

-- S: patterns
abbrev pub scratch_asked : List ℕ → Result Command Refusal
scratch_asked text = names_in (parts_at comma text) >>= λ ps. unless ((list_any is_empty ps, NoName) ∷ []) (Ok (Scratch ps))

-- R: a new name, `=` and an old name
abbrev pub rename_asked : List ℕ → Result Command Refusal
rename_asked text =
    let new = name_of (before_byte equals text) in
    later_name (after_byte equals text) >>= λ old.
    unless ((not (holds_byte equals text) || is_empty new || is_empty old, NoName) ∷ (is_wild new || is_wild old, WildName) ∷ [])
    (Ok (Rename new old))

-- C: a new name, `=` and one to four old names
abbrev pub copy_asked : List ℕ → Result Command Refusal
copy_asked text =
    let new = name_of (before_byte equals text) in
    later_names (parts_at comma (after_byte equals text)) >>= λ olds.
    unless (
    (not (holds_byte equals text) || is_empty new || list_any is_empty olds, NoName)
    ∷ (is_wild new || list_any is_wild olds, WildName)
    ∷ (nat_lt 4 (length olds), Syntax) ∷ [])
    (Ok (Copy new olds))

-- ---- the whole text

-- a colon is there and the head before it is right: what stands after it
abbrev pub after_the_head : List ℕ → Result (List ℕ) Refusal
after_the_head text =
    unless ((not (holds_byte colon text), NoName) ∷ []) (command_head (before_byte colon text) >>= λ _. Ok (after_byte colon text))

-- P: a channel, a record's number low byte first, and perhaps a position; 0 means 1
abbrev pub position_asked : List ℕ → Result Command Refusal
position_asked (ch ∷ low ∷ high ∷ rest) = Ok (Position (ch % 16) (max 1 (low + 256 * high)) (max 1 (slice_index_or rest 0 0)))
position_asked _ = Err Syntax

-- The first byte chooses. V and I have a head alone, and what follows a colon isn't read.
abbrev pub by_letter : ℕ → List ℕ → Result Command Refusal
by_letter c text =
    if c == 78 then (after_the_head text >>= new_asked) else
    if c == 83 then (after_the_head text >>= scratch_asked) else
    if c == 82 then (after_the_head text >>= rename_asked) else
    if c == 67 then (after_the_head text >>= copy_asked) else
    if c == 86 then (command_head (before_byte colon text) >>= λ _. Ok Validate) else
    if c == 73 then (command_head (before_byte colon text) >>= λ _. Ok Initialize) else
    if c == 80 then position_asked text else Err UnknownCommand

-- the text of at most 58 bytes
abbrev pub command_in : List ℕ → Result Command Refusal
command_in [] = Err UnknownCommand
command_in (c ∷ text) = by_letter c text

-- what the text of a command asks for; more than 58 bytes are refused before all else
abbrev pub command_of : List ℕ → Result Command Refusal
command_of text = if nat_lt 58 (length text) then Err LongText else command_in text
