use Rattle.std.proofs.Common.{rules, ◌≡◌, ◌≤◌, length, ℕ, ◌+◌, ◌-◌, ◌*◌, ◌<◌, ◌/◌, ◌%◌, Bool, true, false, nat_eq, nat_lt, List, [], ◌∷◌, ◌++◌, slice_index_or, slice_set, bit_and, bit_or, Fits, w8, w32, w64, Bor, MutBor}
use Rattle.cbm_machine.specs.Codes.{code_number, code_text, code_of_refusal, code_of_fault, refusal_gives}
use Rattle.cbm_machine.proofs.code.Code.of_fault.Goals as goal

pub returns-in-20 : goal.returns-in-20
returns-in-20 c = search rules

pub returns-in-21 : goal.returns-in-21
returns-in-21 c = search rules

pub returns-in-22 : goal.returns-in-22
returns-in-22 c = search rules

pub returns-in-23 : goal.returns-in-23
returns-in-23 c = search rules

pub returns-in-24 : goal.returns-in-24
returns-in-24 c = search rules

pub returns-in-25 : goal.returns-in-25
returns-in-25 c = search rules

pub returns-in-26 : goal.returns-in-26
returns-in-26 c = search rules

pub returns-in-27 : goal.returns-in-27
returns-in-27 c = search rules

pub returns-in-28 : goal.returns-in-28
returns-in-28 c = search rules

pub returns-in-29 : goal.returns-in-29
returns-in-29 c = search rules

pub returns-in-66 : goal.returns-in-66
returns-in-66 c = search rules

pub returns-in-71 : goal.returns-in-71
returns-in-71 c = search rules

pub returns-in_default : goal.returns-in_default
returns-in_default c = search rules
