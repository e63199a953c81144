-- What is written of what a machine prints.
use Rattle.std.specs.Prelude.{◌≡◌, List, ℕ, ◌++◌, Option, Result, OnOk, OnErr, IfErr}
use Rattle.std.specs.Io.KnownBytes.{Appends}
use Rattle.cbm_machine.specs.Machines.{Machine}
use Rattle.cbm_program.specs.Running.{IsOfWriting}
use Rattle.cbm_program.specs.Scripts.{Printed}
use Rattle.cbm_program.specs.declared.fault.RunFault.{RunFault}

-- the known bytes grew by a beginning of these
abbrev pub AppendsPart : Option (List ℕ) → Option (List ℕ) → List ℕ → Type 0
AppendsPart old new bytes = (part : List ℕ) × (rest : List ℕ) × Appends old new part × (bytes ≡ part ++ rest)

-- known bytes only grew
abbrev pub AppendsMore : Option (List ℕ) → Option (List ℕ) → Type 0
AppendsMore old new = (more : List ℕ) × Appends old new more

-- BYTES WERE WRITTEN; at a fault, which is one of writing, a beginning of them was.
pub record Writes {A : Type 0} (result : Result A RunFault) (old new : Option (List ℕ)) (bytes : List ℕ) : Type 0 where
  pub ok : OnOk result (Appends old new bytes)
  pub err : OnErr result (AppendsPart old new bytes)
  pub grows : AppendsMore old new
  pub fault : IfErr result IsOfWriting

-- For each machine that was represented before, what it prints was written, and the machine after it is represented now.
abbrev pub Prints : Option (List ℕ) → Option (List ℕ) → (Machine → Type 0) → (Machine → Type 0) → (Machine → Printed) → Type 0
Prints old new stood stands step = (m : Machine) → stood m → Appends old new (step m).text × stands (step m).machine

-- for each machine that was represented before, a beginning of what it prints was written
abbrev pub PrintsPart : Option (List ℕ) → Option (List ℕ) → (Machine → Type 0) → (Machine → Printed) → Type 0
PrintsPart old new stood step = (m : Machine) → stood m → AppendsPart old new (step m).text
