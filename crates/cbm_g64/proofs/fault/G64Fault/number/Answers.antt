use Rattle.std.proofs.Common.{rules, ◌≡◌, ℕ, ◌+◌, ◌-◌, ◌*◌, ◌<◌, ◌≤◌, length, ◌/◌, ◌%◌, Bool, true, false, nat_eq, nat_lt, List, [], ◌∷◌, ◌++◌, slice_index_or, slice_set, bit_and, bit_or, Fits, w8, w32, w64, Bor, MutBor}
use Rattle.cbm_g64.specs.Numbers.{g64_fault_number}
use Rattle.cbm_g64.proofs.fault.G64Fault.number.Goals as goal

pub returns-in-Signature : goal.returns-in-Signature
returns-in-Signature c = search rules

pub returns-in-Version : goal.returns-in-Version
returns-in-Version c = search rules

pub returns-in-Entries : goal.returns-in-Entries
returns-in-Entries c = search rules

pub returns-in-GreatestSize : goal.returns-in-GreatestSize
returns-in-GreatestSize c = search rules

pub returns-in-OffsetOutside : goal.returns-in-OffsetOutside
returns-in-OffsetOutside c = search rules

pub returns-in-TrackLength : goal.returns-in-TrackLength
returns-in-TrackLength c = search rules

pub returns-in-Memory : goal.returns-in-Memory
returns-in-Memory c = search rules

pub returns-in-Overlap : goal.returns-in-Overlap
returns-in-Overlap c = search rules
