use Rattle.std.proofs.Common.{rules, ◌≡◌, ◌≢◌, ◌==◌, ◌≤◌, Ok, Err, IsOk, IfOk, IfErr, OnOk, find, is_some, ℕ, ◌+◌, ◌-◌, ◌*◌, ◌<◌, length, ◌/◌, ◌%◌, Bool, true, false, nat_eq, nat_lt, List, [], ◌∷◌, ◌++◌, slice_index_or, slice_set, bit_and, bit_or, Fits, w8, w32, w64, Bor, MutBor}
use Rattle.cbm_medium.specs.Place.{Place, directory_head, sectors_on}
use Rattle.cbm_medium.specs.Content.{IsWhole}
use Rattle.cbm_bam.specs.Orders.{directory_order}
use Rattle.cbm_bam.specs.Map.{map_of, is_free_in, count_in, tally, free_in, number, geometry_of}
use Rattle.cbm_bam.proofs.medium_map.geometry.Goals as goal

pub returns-then-tracks-lt40-clause-value : goal.returns-then-tracks-lt40-clause-value
returns-then-tracks-lt40-clause-value g c = search rules

pub returns-then-tracks-lt40-clause-room : goal.returns-then-tracks-lt40-clause-room
returns-then-tracks-lt40-clause-room g c = search rules

pub returns-then-tracks-lt40-clause-whole : goal.returns-then-tracks-lt40-clause-whole
returns-then-tracks-lt40-clause-whole g c = search rules

pub returns-in_default-clause-value : goal.returns-in_default-clause-value
returns-in_default-clause-value g c = search rules

pub returns-in_default-clause-room : goal.returns-in_default-clause-room
returns-in_default-clause-room g c = search rules

pub returns-in_default-clause-whole : goal.returns-in_default-clause-whole
returns-in_default-clause-whole g c = search rules

pub returns-then-is_wide-clause-value : goal.returns-then-is_wide-clause-value
returns-then-is_wide-clause-value g c = search rules

pub returns-then-is_wide-clause-room : goal.returns-then-is_wide-clause-room
returns-then-is_wide-clause-room g c = search rules

pub returns-then-is_wide-clause-whole : goal.returns-then-is_wide-clause-whole
returns-then-is_wide-clause-whole g c = search rules

pub returns-else-is_wide-clause-value : goal.returns-else-is_wide-clause-value
returns-else-is_wide-clause-value g c = search rules

pub returns-else-is_wide-clause-room : goal.returns-else-is_wide-clause-room
returns-else-is_wide-clause-room g c = search rules

pub returns-else-is_wide-clause-whole : goal.returns-else-is_wide-clause-whole
returns-else-is_wide-clause-whole g c = search rules
