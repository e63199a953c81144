use Rattle.std.proofs.Common.{rules, ◌≡◌, ◌+◌, ◌≤◌, ◌<◌, ◌^◌, ◌∷◌, ◌++◌, length, map, replicate, ℕ, ◌-◌, ◌*◌, ◌/◌, ◌%◌, Bool, true, false, nat_eq, nat_lt, List, [], slice_index_or, slice_set, bit_and, bit_or, Fits, w8, w32, w64, Bor, MutBor}
use Rattle.arrayvec.specs.ArrayVec.{array_vec_len}
use Rattle.cbm_listing.specs.Lines.{space, low_first, shown_byte, closed_mark, locked_mark, kind_text, title_line, indent_width, entry_line, last_line}
use Rattle.cbm_listing.proofs.line.title_line.Goals as goal

pub returns-clause-full : goal.returns-clause-full
returns-clause-full c = search rules
