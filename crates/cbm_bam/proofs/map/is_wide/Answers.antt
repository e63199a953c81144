use Rattle.std.proofs.Common.{rules, ◌≡◌, ◌==◌, ℕ, true, false, ◌<◌, ◌≤◌, ◌+◌, ◌*◌, ◌/◌, ◌%◌, slice_index, ◌-◌, length, Bool, nat_eq, nat_lt, List, [], ◌∷◌, ◌++◌, slice_index_or, slice_set, bit_and, bit_or, Fits, w8, w32, w64, Bor, MutBor}
use Rattle.cbm_bam.specs.Map.{is_free_in, count_index, count_in, tally, free_in, number, unless_18, is_wide, IsClaimed, IsGiven}
use Rattle.cbm_medium.specs.Place.{Has, sectors_on}
use Rattle.cbm_bam.proofs.map.is_wide.Goals as goal

pub returns-then-is_counted-4 : goal.returns-then-is_counted-4
returns-then-is_counted-4 c = search rules

pub returns-else-is_counted-4 : goal.returns-else-is_counted-4
returns-else-is_counted-4 c = search rules
