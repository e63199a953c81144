-- The numbers of a run's faults.
use Rattle.std.specs.Prelude.{ℕ}
use Rattle.cbm_program.specs.declared.fault.RunFault.{RunFault}
use Rattle.cbm_program.specs.declared.fault.RunFault.TheVariants.{Script, Image, Memory, Reading, Writing}

-- the number of a fault
abbrev pub fault_number : RunFault → ℕ
fault_number (Script line) = 1
fault_number (Image number) = 2
fault_number Memory = 3
fault_number Reading = 4
fault_number Writing = 5
