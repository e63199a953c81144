-- Files by their names.
use Rattle.std.specs.Prelude.{ℕ, nat_lt, Bool, true, List, [], ◌∷◌, length, filter, if◌then◌else◌, Option, Some, None, Result, Ok, Err}
use Rattle.cbm_file.specs.declared.file_type.FileType.{FileType}
use Rattle.cbm_file.specs.Types.{is_same_type}
use Rattle.cbm_file.specs.Files.{Body, Bytes, File, Disk, file_at}
use Rattle.cbm_machine.specs.declared.code.Code.{Code}
use Rattle.cbm_machine.specs.declared.code.Code.TheVariants.{WrongType, FileNotFound}
use Rattle.cbm_machine.specs.Listings.{named}

-- the file is of this type
abbrev pub is_kind : FileType → File → Bool
is_kind k f = is_same_type k f.kind

-- the file is of the type that is meant, if one is
abbrev pub of_kind : Option FileType → File → Bool
of_kind None f = true
of_kind (Some k) f = is_kind k f

-- some file has the name
abbrev pub is_there : Disk → List ℕ → Bool
is_there d name = nat_lt 0 (length (named d name))

-- the first, or a refusal where there is none
abbrev pub first_or : {A : Type 0} → List A → Code → Result A Code
first_or [] e = Err e
first_or (x ∷ xs) e = Ok x

-- The first file that matches and is of the type. Where the name is there and has none of it the type is wrong.
abbrev pub found : Disk → List ℕ → Option FileType → Result (ℕ × File) Code
found d name kind =
    first_or (filter (λ (p : ℕ × File). of_kind kind p.1) (named d name)) (if is_there d name then WrongType else FileNotFound)

-- the body of the file in a slot
abbrev pub body_at : Disk → ℕ → Body
body_at d s = elim (file_at d s) [ None ↦ Bytes [] | Some f ↦ f.body ]
