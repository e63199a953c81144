-- The types of files: their numbers in a directory entry, and the letters that a listing shows.
use Rattle.std.specs.Prelude.{ℕ, ◌==◌, Bool, true, false, List, codes, Option, Some, None, if◌then◌else◌}
use Rattle.cbm_file.specs.declared.file_type.FileType.{FileType}
use Rattle.cbm_file.specs.declared.file_type.FileType.TheVariants.{Del, Seq, Prg, Usr, Rel}

-- the number of a type
abbrev pub type_number : FileType → ℕ
type_number Del = 0
type_number Seq = 1
type_number Prg = 2
type_number Usr = 3
type_number Rel = 4

-- the type that has this number, if one has it
abbrev pub type_with : ℕ → Option FileType
type_with n =
    if n == 0 then Some Del else
    if n == 1 then Some Seq else
    if n == 2 then Some Prg else
    if n == 3 then Some Usr else
    if n == 4 then Some Rel else None

-- the letters of a type
abbrev pub type_text : FileType → List ℕ
type_text Del = codes "DEL"
type_text Seq = codes "SEQ"
type_text Prg = codes "PRG"
type_text Usr = codes "USR"
type_text Rel = codes "REL"

-- whether two types are one
abbrev pub is_same_type : FileType → FileType → Bool
is_same_type Del Del = true
is_same_type Seq Seq = true
is_same_type Prg Prg = true
is_same_type Usr Usr = true
is_same_type Rel Rel = true
is_same_type _ _ = false
