use Rattle.std.proofs.Common.{rules, ◌≡◌, ◌≤◌, ℕ, List, [], length, ◌+◌, ◌-◌, ◌*◌, ◌<◌, ◌/◌, ◌%◌, Bool, true, false, nat_eq, nat_lt, ◌∷◌, ◌++◌, slice_index_or, slice_set, bit_and, bit_or, Fits, w8, w32, w64, Bor, MutBor}
use Rattle.cbm_command.specs.Names.{name_of, is_empty, is_wild}
use Rattle.cbm_command.proofs.name.Name.is_empty.Goals as goal

pub returns : goal.returns
returns c = search rules
