use Rattle.std.proofs.Common.{rules, ◌≡◌, ℕ, ◌+◌, ◌-◌, ◌*◌, ◌<◌, ◌≤◌, length, ◌/◌, ◌%◌, Bool, true, false, nat_eq, nat_lt, List, [], ◌∷◌, ◌++◌, slice_index_or, slice_set, bit_and, bit_or, Fits, w8, w32, w64, Bor, MutBor}
use Rattle.cbm_command.specs.Names.{is_match}
use Rattle.cbm_command.proofs.pattern.+matches.Goals as goal

pub returns-in-Some-None : goal.returns-in-Some-None
returns-in-Some-None t c = search rules

pub returns-then-wanted-eq42 : goal.returns-then-wanted-eq42
returns-then-wanted-eq42 t c = search rules

pub returns-then-wanted-byte : goal.returns-then-wanted-byte
returns-then-wanted-byte t c = search rules

pub returns-else-wanted-byte : goal.returns-else-wanted-byte
returns-else-wanted-byte t c = search rules
