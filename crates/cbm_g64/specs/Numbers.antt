-- The numbers of the faults.
use Rattle.std.specs.Prelude.{ℕ}
use Rattle.cbm_g64.specs.declared.fault.G64Fault.{G64Fault}
use Rattle.cbm_g64.specs.declared.fault.G64Fault.TheVariants.{Signature, Version, Entries, GreatestSize, OffsetOutside, TrackLength, Memory, Overlap}

-- the number of a fault, as the program shows it
abbrev pub g64_fault_number : G64Fault → ℕ
g64_fault_number Signature = 1
g64_fault_number Version = 2
g64_fault_number Entries = 3
g64_fault_number GreatestSize = 4
g64_fault_number OffsetOutside = 5
g64_fault_number TrackLength = 6
g64_fault_number Memory = 7
g64_fault_number Overlap = 8
