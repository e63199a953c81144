use Rattle.std.proofs.Common.{rules, ◌≡◌, ◌==◌, ℕ, true, false, ◌<◌, ◌≤◌, ◌+◌, ◌*◌, ◌/◌, ◌%◌, slice_index, ◌-◌, length, Bool, nat_eq, nat_lt, List, [], ◌∷◌, ◌++◌, slice_index_or, slice_set, bit_and, bit_or, Fits, w8, w32, w64, Bor, MutBor}
use Rattle.cbm_bam.specs.Map.{is_free_in, count_index, count_in, tally, free_in, number, unless_18, is_wide, IsClaimed, IsGiven}
use Rattle.cbm_medium.specs.Place.{Has, sectors_on}
use Rattle.cbm_bam.proofs.map.bit_place.Goals as goal

pub returns-clause-count : goal.returns-clause-count
returns-clause-count c = search rules

pub returns-clause-byte : goal.returns-clause-byte
returns-clause-byte c = search rules

pub returns-clause-bit : goal.returns-clause-bit
returns-clause-bit c = search rules

pub returns-clause-bounds : goal.returns-clause-bounds
returns-clause-bounds c = search rules

pub returns-clause-has : goal.returns-clause-has
returns-clause-has c = search rules
