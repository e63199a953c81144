-- C: what is found of its sources, beside what the machine finds.
use Rattle.std.specs.Prelude.{ℕ, ◌≡◌, true, false, List, ◌∷◌, ◌++◌, Some, Result, Ok, Err}
use Rattle.std.specs.List.{AllZip}
use Rattle.cbm_file.specs.declared.file_type.FileType.{FileType}
use Rattle.cbm_file.specs.declared.file_type.FileType.TheVariants.{Del, Rel}
use Rattle.cbm_file.specs.Types.{is_same_type}
use Rattle.cbm_file.specs.Files.{File, Disk, file_at}
use Rattle.cbm_machine.specs.declared.code.Code.{Code}
use Rattle.cbm_machine.specs.declared.status.Status.{Status}
use Rattle.cbm_machine.specs.Statuses.{plain}
use Rattle.cbm_machine.specs.Machines.{Machine}
use Rattle.cbm_machine.specs.Finding.{is_there}
use Rattle.cbm_machine.specs.Running.{copy, sources}
use Rattle.cbm_channel.specs.declared.dos.copying.Source.{Source}

-- the slot has the file, which is closed and has bytes
pub record IsSource (d : Disk) (f : File) (slot : ℕ) : Type 0 where
  pub in_slot : file_at d slot ≡ Some f
  pub closed : f.closed ≡ true
  pub kept : is_same_type Del f.kind ≡ false
  pub plain : is_same_type Rel f.kind ≡ false

-- the code found the same source, or refuses by the same code
abbrev pub SourceAs : Disk → Result File Code → Result Source Status → Type 0
SourceAs d (Ok f) (Ok s) = IsSource d f s.slot × (s.kind ≡ f.kind)
SourceAs d (Ok f) (Err status) = ⊥
SourceAs d (Err code) (Ok s) = ⊥
SourceAs d (Err code) (Err status) = status ≡ plain code

-- the slots of several sources were added, in order; or one is refused by the same code
abbrev pub AddsSources : Disk → Result (List File) Code → List ℕ → List ℕ → Result (Unit {0}) Status → Type 0
AddsSources d (Ok fs) old new (Ok _) = (slots : List ℕ) × (new ≡ old ++ slots) × AllZip (IsSource d) fs slots
AddsSources d (Ok fs) old new (Err status) = ⊥
AddsSources d (Err code) old new (Ok _) = ⊥
AddsSources d (Err code) old new (Err status) = status ≡ plain code

-- No file has the new name, and the slots have the files of the old ones, the first of them of this type.
pub record IsCopying (m : Machine) (new : List ℕ) (olds : List (List ℕ)) (kind : FileType) (slots : List ℕ) : Type 0 where
  pub fresh : is_there m.disk new ≡ false
  pub first : File
  pub others : List File
  pub all : sources m.disk olds ≡ Ok (first ∷ others)
  pub each : AllZip (IsSource m.disk) (first ∷ others) slots
  pub same_kind : kind ≡ first.kind

-- or the machine's refusal
abbrev pub RefusesCopy : Machine → List ℕ → List (List ℕ) → Status → Type 0
RefusesCopy m new olds status = (code : Code) × (copy new olds m ≡ Err code) × (status ≡ plain code)
