use Rattle.std.proofs.Common.{rules, ◌≡◌, ℕ, ◌+◌, ◌-◌, ◌*◌, ◌<◌, ◌≤◌, length, ◌/◌, ◌%◌, Bool, true, false, nat_eq, nat_lt, List, [], ◌∷◌, ◌++◌, slice_index_or, slice_set, bit_and, bit_or, Fits, w8, w32, w64, Bor, MutBor}
use Rattle.cbm_command.specs.Refusals.{refusal_number}
use Rattle.cbm_command.proofs.refusal.Refusal.number.Goals as goal

pub returns-in-Syntax : goal.returns-in-Syntax
returns-in-Syntax c = search rules

pub returns-in-UnknownCommand : goal.returns-in-UnknownCommand
returns-in-UnknownCommand c = search rules

pub returns-in-LongText : goal.returns-in-LongText
returns-in-LongText c = search rules

pub returns-in-WildName : goal.returns-in-WildName
returns-in-WildName c = search rules

pub returns-in-NoName : goal.returns-in-NoName
returns-in-NoName c = search rules

pub returns-in-NoChannel : goal.returns-in-NoChannel
returns-in-NoChannel c = search rules

pub returns-in-DriveNotReady : goal.returns-in-DriveNotReady
returns-in-DriveNotReady c = search rules
