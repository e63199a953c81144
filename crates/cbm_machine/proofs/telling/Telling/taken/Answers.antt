use Rattle.std.proofs.Common.{rules, ◌≡◌, ℕ, ◌+◌, ◌-◌, ◌*◌, ◌<◌, ◌≤◌, length, ◌/◌, ◌%◌, Bool, true, false, nat_eq, nat_lt, List, [], ◌∷◌, ◌++◌, slice_index_or, slice_set, bit_and, bit_or, Fits, w8, w32, w64, Bor, MutBor}
use Rattle.cbm_machine.specs.Told.{next_told, after_the_next, told_by}
use Rattle.cbm_machine.specs.Machines.{Machine}
use Rattle.cbm_machine.specs.Talking.{peek, taken}
use Rattle.cbm_machine.proofs.telling.Telling.taken.Goals as goal

pub returns-then-self-len : goal.returns-then-self-len
returns-then-self-len c = search rules

pub returns-else-self-len : goal.returns-else-self-len
returns-else-self-len c = search rules
