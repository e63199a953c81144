-- Worked rows: a protected disk.
use Rattle.std.specs.Prelude.{◌≡◌, refl, [], ◌∷◌, ◌++◌, codes, map, Some}
use Rattle.std.specs.Fmt.{digits}
use Rattle.cbm_file.specs.declared.file_type.FileType.TheVariants.{Prg}
use Rattle.cbm_file.specs.Files.{with_slot}
use Rattle.cbm_machine.specs.Machines.{Machine}
use Rattle.cbm_program.specs.declared.request.ScriptRequest.TheVariants.{Get, Status}
use Rattle.cbm_program.proofs.Words.{open_by, put_by, formatted, protected, prints, status_is, small_file}
use Rattle.cbm_program.proofs.NameRows.{code_after}
use Rattle.cbm_program.proofs.RecordRows.{place_by, with_third}

-- a new file
pub no_new_file : prints (open_by 1 (codes "X") ∷ Status ∷ []) (protected (formatted 35)) ≡ status_is (codes "26,WRITE PROTECT ON")
no_new_file = refl

-- a protected disk with a program
abbrev pub with_program : Machine
with_program = protected (with_slot (formatted 35) 0 (Some (small_file Prg (codes "A"))))

-- commands and OPEN: protection comes after all other refusals
pub codes_when_protected : map (code_after with_program)
    (put_by 15 (codes "S0:Z") ∷ put_by 15 (codes "S0:A") ∷ put_by 15 (codes "R0:C=Q") ∷ put_by 15 (codes "R0:C=A") ∷ put_by 15 (codes "V0") ∷ put_by 15 (codes "I0") ∷ open_by 0 (codes "A") ∷ [])
    ≡ codes "01" ∷ codes "26" ∷ codes "62" ∷ codes "26" ∷ codes "26" ∷ codes "00" ∷ codes "00" ∷ []
codes_when_protected = refl

-- records: the place stays
pub record_kept : prints (open_by 2 (codes "R") ∷ place_by 3 0 1 ∷ put_by 2 (codes "X") ∷ Status ∷ Get 2 9 ∷ []) (protected with_third.disk)
    ≡ status_is (codes "26,WRITE PROTECT ON") ++ codes "get 2 4849 eoi\n"
unfolding digits
record_kept = refl
