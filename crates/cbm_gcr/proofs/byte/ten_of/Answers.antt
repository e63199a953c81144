use Rattle.std.proofs.Common.{rules, ◌≡◌, ℕ, ◌<◌, ◌↔◌, Some, ◌+◌, ◌-◌, ◌*◌, ◌≤◌, length, ◌/◌, ◌%◌, Bool, true, false, nat_eq, nat_lt, List, [], ◌∷◌, ◌++◌, slice_index_or, slice_set, bit_and, bit_or, Fits, w8, w32, w64, Bor, MutBor}
use Rattle.cbm_gcr.specs.Code.{ten_bits}
use Rattle.cbm_gcr.proofs.byte.ten_of.Goals as goal

pub returns-clause-value : goal.returns-clause-value
returns-clause-value c = search rules

pub returns-clause-below : goal.returns-clause-below
returns-clause-below c = search rules
