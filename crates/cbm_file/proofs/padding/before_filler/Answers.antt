use Rattle.std.proofs.Common.{rules, ◌≡◌, ◌≤◌, length, ℕ, ◌+◌, ◌-◌, ◌*◌, ◌<◌, ◌/◌, ◌%◌, Bool, true, false, nat_eq, nat_lt, List, [], ◌∷◌, ◌++◌, slice_index_or, slice_set, bit_and, bit_or, Fits, w8, w32, w64, Bor, MutBor}
use Rattle.cbm_file.specs.Padding.{before_filler, padded}
use Rattle.cbm_file.proofs.padding.before_filler.Goals as goal

pub returns-then-name-i-clause-short : goal.returns-then-name-i-clause-short
returns-then-name-i-clause-short c = search rules

pub returns-clause-short : goal.returns-clause-short
returns-clause-short c = search rules
