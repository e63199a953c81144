-- What an entry of the directory is looked for by.
use Rattle.std.specs.Prelude.{ℕ, ◌%◌, ◌==◌, Bool, true, false, ◌&&◌, not, List, Option, Some, None}
use Rattle.cbm_file.specs.declared.file_type.FileType.{FileType}
use Rattle.cbm_file.specs.Types.{type_with, is_same_type}
use Rattle.cbm_command.specs.Names.{is_match}
use Rattle.cbm_directory.specs.Entries.{type_byte, name_in}

-- the type is the one that is meant, if one is
abbrev pub is_meant : Option FileType → Option FileType → Bool
is_meant None kind = true
is_meant (Some wanted) None = false
is_meant (Some wanted) (Some kind) = is_same_type wanted kind

-- the entry isn't empty, its name matches, and its type is the one that is meant
abbrev pub is_sought : List ℕ → Option FileType → List ℕ → Bool
is_sought pattern kind entry =
    not (type_byte entry == 0) && is_match pattern (name_in entry) && is_meant kind (type_with (type_byte entry % 16))
