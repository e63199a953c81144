use Rattle.std.proofs.Common.{rules, ◌≡◌, ℕ, ◌+◌, ◌-◌, ◌*◌, ◌<◌, ◌≤◌, length, ◌/◌, ◌%◌, Bool, true, false, nat_eq, nat_lt, List, [], ◌∷◌, ◌++◌, slice_index_or, slice_set, bit_and, bit_or, Fits, w8, w32, w64, Bor, MutBor}
use Rattle.cbm_file.specs.Types.{type_number, type_text, type_with}
use Rattle.cbm_file.proofs.file_type.FileType.number.Goals as goal

pub returns-in-Del : goal.returns-in-Del
returns-in-Del c = search rules

pub returns-in-Seq : goal.returns-in-Seq
returns-in-Seq c = search rules

pub returns-in-Prg : goal.returns-in-Prg
returns-in-Prg c = search rules

pub returns-in-Usr : goal.returns-in-Usr
returns-in-Usr c = search rules

pub returns-in-Rel : goal.returns-in-Rel
returns-in-Rel c = search rules
