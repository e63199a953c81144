use Rattle.std.proofs.Common.{rules, ◌≡◌, ◌≢◌, ◌==◌, ◌≤◌, Ok, Err, IsOk, IfOk, IfErr, OnOk, find, is_some, ℕ, ◌+◌, ◌-◌, ◌*◌, ◌<◌, length, ◌/◌, ◌%◌, Bool, true, false, nat_eq, nat_lt, List, [], ◌∷◌, ◌++◌, slice_index_or, slice_set, bit_and, bit_or, Fits, w8, w32, w64, Bor, MutBor}
use Rattle.cbm_medium.specs.Place.{Place, directory_head, sectors_on}
use Rattle.cbm_medium.specs.Content.{IsWhole}
use Rattle.cbm_bam.specs.Orders.{directory_order}
use Rattle.cbm_bam.specs.Map.{map_of, is_free_in, count_in, tally, free_in, number, geometry_of}
use Rattle.cbm_bam.proofs.medium_map.is_free.Goals as goal

pub returns-in_err-map-clause-ok : goal.returns-in_err-map-clause-ok
returns-in_err-map-clause-ok g c = search rules

pub returns-in_err-map-clause-read : goal.returns-in_err-map-clause-read
returns-in_err-map-clause-read g c = search rules

pub returns-in_err-map-clause-err : goal.returns-in_err-map-clause-err
returns-in_err-map-clause-err g c = search rules

pub returns-clause-ok : goal.returns-clause-ok
returns-clause-ok g c = search rules

pub returns-clause-read : goal.returns-clause-read
returns-clause-read g c = search rules

pub returns-clause-err : goal.returns-clause-err
returns-clause-err g c = search rules
