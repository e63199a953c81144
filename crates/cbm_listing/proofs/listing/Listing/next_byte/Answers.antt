use Rattle.std.proofs.Common.{rules, ◌≡◌, ◌+◌, ◌≤◌, ◌++◌, ◌↔◌, IsTrue, length, drop, slice_get, ℕ, ◌-◌, ◌*◌, ◌<◌, ◌/◌, ◌%◌, Bool, true, false, nat_eq, nat_lt, List, [], ◌∷◌, slice_index_or, slice_set, bit_and, bit_or, Fits, w8, w32, w64, Bor, MutBor}
use Rattle.cbm_listing.specs.Lines.{title_line, entry_line, last_line}
use Rattle.cbm_listing.specs.Listed.{ListedBytes, with_listing_line, with_next_taken}
use Rattle.cbm_listing.proofs.listing.Listing.next_byte.Goals as goal

pub returns-then-is_some-clause-moved : goal.returns-then-is_some-clause-moved
returns-then-is_some-clause-moved c = search rules

pub returns-else-is_some-clause-moved : goal.returns-else-is_some-clause-moved
returns-else-is_some-clause-moved c = search rules
