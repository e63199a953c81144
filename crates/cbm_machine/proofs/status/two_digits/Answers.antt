use Rattle.std.proofs.Common.{rules, ◌≡◌, ◌+◌, ◌≤◌, ◌++◌, length, ℕ, ◌-◌, ◌*◌, ◌<◌, ◌/◌, ◌%◌, Bool, true, false, nat_eq, nat_lt, List, [], ◌∷◌, slice_index_or, slice_set, bit_and, bit_or, Fits, w8, w32, w64, Bor, MutBor}
use Rattle.arrayvec.specs.ArrayVec.{array_vec_len}
use Rattle.cbm_machine.specs.Codes.{code_text}
use Rattle.cbm_machine.specs.Statuses.{two_digits, plain, status_line, trouble_gives}
use Rattle.cbm_machine.proofs.status.two_digits.Goals as goal

pub returns : goal.returns
returns c = search rules
