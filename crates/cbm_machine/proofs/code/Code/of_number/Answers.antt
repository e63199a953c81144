use Rattle.std.proofs.Common.{rules, ◌≡◌, ◌≤◌, length, ℕ, ◌+◌, ◌-◌, ◌*◌, ◌<◌, ◌/◌, ◌%◌, Bool, true, false, nat_eq, nat_lt, List, [], ◌∷◌, ◌++◌, slice_index_or, slice_set, bit_and, bit_or, Fits, w8, w32, w64, Bor, MutBor}
use Rattle.cbm_machine.specs.Numbered.{code_with}
use Rattle.cbm_machine.proofs.code.Code.of_number.Goals as goal

pub returns-in-0 : goal.returns-in-0
returns-in-0 c = search rules

pub returns-in-1 : goal.returns-in-1
returns-in-1 c = search rules

pub returns-in-20 : goal.returns-in-20
returns-in-20 c = search rules

pub returns-in-21 : goal.returns-in-21
returns-in-21 c = search rules

pub returns-in-22 : goal.returns-in-22
returns-in-22 c = search rules

pub returns-in-23 : goal.returns-in-23
returns-in-23 c = search rules

pub returns-in-24 : goal.returns-in-24
returns-in-24 c = search rules

pub returns-in-25 : goal.returns-in-25
returns-in-25 c = search rules

pub returns-in-26 : goal.returns-in-26
returns-in-26 c = search rules

pub returns-in-27 : goal.returns-in-27
returns-in-27 c = search rules

pub returns-in-28 : goal.returns-in-28
returns-in-28 c = search rules

pub returns-in-29 : goal.returns-in-29
returns-in-29 c = search rules

pub returns-in-30 : goal.returns-in-30
returns-in-30 c = search rules

pub returns-in-31 : goal.returns-in-31
returns-in-31 c = search rules

pub returns-in-32 : goal.returns-in-32
returns-in-32 c = search rules

pub returns-in-33 : goal.returns-in-33
returns-in-33 c = search rules

pub returns-in-34 : goal.returns-in-34
returns-in-34 c = search rules

pub returns-in-50 : goal.returns-in-50
returns-in-50 c = search rules

pub returns-in-51 : goal.returns-in-51
returns-in-51 c = search rules

pub returns-in-52 : goal.returns-in-52
returns-in-52 c = search rules

pub returns-in-60 : goal.returns-in-60
returns-in-60 c = search rules

pub returns-in-61 : goal.returns-in-61
returns-in-61 c = search rules

pub returns-in-62 : goal.returns-in-62
returns-in-62 c = search rules

pub returns-in-63 : goal.returns-in-63
returns-in-63 c = search rules

pub returns-in-64 : goal.returns-in-64
returns-in-64 c = search rules

pub returns-in-65 : goal.returns-in-65
returns-in-65 c = search rules

pub returns-in-66 : goal.returns-in-66
returns-in-66 c = search rules

pub returns-in-70 : goal.returns-in-70
returns-in-70 c = search rules

pub returns-in-71 : goal.returns-in-71
returns-in-71 c = search rules

pub returns-in-72 : goal.returns-in-72
returns-in-72 c = search rules

pub returns-in-73 : goal.returns-in-73
returns-in-73 c = search rules

pub returns-in-74 : goal.returns-in-74
returns-in-74 c = search rules

pub returns-in_default : goal.returns-in_default
returns-in_default c = search rules
