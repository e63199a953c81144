use Rattle.std.proofs.Common.{rules, ◌≡◌, ℕ, ◌<◌, ◌≤◌, List, Some, true, false, length, take, IfSome, IfNone, ◌+◌, ◌-◌, ◌*◌, ◌/◌, ◌%◌, Bool, nat_eq, nat_lt, [], ◌∷◌, ◌++◌, slice_index_or, slice_set, bit_and, bit_or, Fits, w8, w32, w64, Bor, MutBor}
use Rattle.cbm_gcr.specs.Code.{bits}
use Rattle.cbm_track.specs.Circle.{first_below, begins}
use Rattle.cbm_sector.specs.Decoding.{coded_at}
use Rattle.cbm_sector.specs.Answer.{header_at, is_header, is_right, passes, wanted_test}
use Rattle.cbm_sector.proofs.header.is_wanted.Goals as goal

pub returns-then-header-sector : goal.returns-then-header-sector
returns-then-header-sector c = search rules

pub returns-else-header-sector : goal.returns-else-header-sector
returns-else-header-sector c = search rules

pub returns-then-header-eq18 : goal.returns-then-header-eq18
returns-then-header-eq18 c = search rules

pub returns-else-header-eq18 : goal.returns-else-header-eq18
returns-else-header-eq18 c = search rules
