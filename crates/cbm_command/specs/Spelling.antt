-- The usual text of an OPEN: a name, a type and a mode.
use Rattle.std.specs.Prelude.{◌≡◌, ℕ, ◌<◌, ◌≤◌, ◌==◌, ◌||◌, Bool, true, false, List, [], ◌∷◌, ◌++◌, length, slice_index_or, Some}
use Rattle.cbm_file.specs.declared.file_type.FileType.{FileType}
use Rattle.cbm_file.specs.declared.file_type.FileType.TheVariants.{Del, Seq, Usr, Rel}
use Rattle.cbm_command.specs.declared.opening.Mode.{Mode}
use Rattle.cbm_command.specs.declared.opening.Mode.TheVariants.{Read, Write, Append}
use Rattle.cbm_command.specs.declared.opening.Wanted.{Wanted}
use Rattle.cbm_command.specs.Texts.{comma, colon, holds_byte}
use Rattle.cbm_command.specs.Names.{filler, is_wild}

-- `#` or `$`, which begin other texts than a file's
abbrev pub is_special : ℕ → Bool
is_special c = (c == 35) || (c == 36)

-- a name that is read as it stands
pub record IsPlain (name : List ℕ) : Type 0 where
  pub some : 0 < length name
  pub short : length name ≤ 16
  pub no_comma : holds_byte comma name ≡ false
  pub no_colon : holds_byte colon name ≡ false
  pub no_filler : holds_byte filler name ≡ false
  pub no_pattern : is_wild name ≡ false
  pub ordinary : is_special (slice_index_or name 0 0) ≡ false

-- the letter of a type that holds bytes
abbrev pub kind_letter : FileType → ℕ
kind_letter Seq = 83
kind_letter Usr = 85
kind_letter _ = 80

-- the letter of a mode
abbrev pub mode_letter : Mode → ℕ
mode_letter Read = 82
mode_letter Write = 87
mode_letter Append = 65

-- `name,type,mode`
abbrev pub spelled : List ℕ → FileType → Mode → List ℕ
spelled name kind mode = name ++ comma ∷ kind_letter kind ∷ comma ∷ mode_letter mode ∷ []

-- the type holds bytes, and a text can ask for it
abbrev pub holds_bytes : FileType → Bool
holds_bytes Del = false
holds_bytes Rel = false
holds_bytes _ = true

-- the file that is asked for so
abbrev pub usual_file : List ℕ → FileType → Mode → Wanted
usual_file name kind mode = record { has_at = false; name = name; mode = mode; kind = Some kind; record_length = 0 }
