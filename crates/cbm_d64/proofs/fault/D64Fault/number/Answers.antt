use Rattle.std.proofs.Common.{rules, ◌≡◌, ℕ, ◌+◌, ◌-◌, ◌*◌, ◌<◌, ◌≤◌, length, ◌/◌, ◌%◌, Bool, true, false, nat_eq, nat_lt, List, [], ◌∷◌, ◌++◌, slice_index_or, slice_set, bit_and, bit_or, Fits, w8, w32, w64, Bor, MutBor}
use Rattle.cbm_d64.proofs.fault.D64Fault.number.Goals as goal

pub returns-in-Size-clause-size : goal.returns-in-Size-clause-size
returns-in-Size-clause-size c = search rules

pub returns-in-Size-clause-memory : goal.returns-in-Size-clause-memory
returns-in-Size-clause-memory c = search rules

pub returns-in-Memory-clause-size : goal.returns-in-Memory-clause-size
returns-in-Memory-clause-size c = search rules

pub returns-in-Memory-clause-memory : goal.returns-in-Memory-clause-memory
returns-in-Memory-clause-memory c = search rules
