use Rattle.std.proofs.Common.{rules, ◌≡◌, ◌+◌, ◌≤◌, IfOk, length, ℕ, ◌-◌, ◌*◌, ◌<◌, ◌/◌, ◌%◌, Bool, true, false, nat_eq, nat_lt, List, [], ◌∷◌, ◌++◌, slice_index_or, slice_set, bit_and, bit_or, Fits, w8, w32, w64, Bor, MutBor}
use Rattle.std.specs.Result.{result_map_both}
use Rattle.cbm_command.specs.Texts.{comma, parts_at}
use Rattle.cbm_command.specs.Commands.{later_name, later_names, names_in, names_and, after_the_head, new_asked, scratch_asked, rename_asked, copy_asked, position_asked, by_letter, command_of}
use Rattle.cbm_command.proofs.command_text.position_asked.Goals as goal

pub returns-in_default : goal.returns-in_default
returns-in_default c = search rules
