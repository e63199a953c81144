use Rattle.std.proofs.Common.{rules, ◌≡◌, ◌+◌, ◌≤◌, ◌++◌, ◌↔◌, IsTrue, length, drop, slice_get, ℕ, ◌-◌, ◌*◌, ◌<◌, ◌/◌, ◌%◌, Bool, true, false, nat_eq, nat_lt, List, [], ◌∷◌, slice_index_or, slice_set, bit_and, bit_or, Fits, w8, w32, w64, Bor, MutBor}
use Rattle.cbm_listing.specs.Lines.{title_line, entry_line, last_line}
use Rattle.cbm_listing.specs.Listed.{ListedBytes, with_listing_line, with_next_taken}
use Rattle.cbm_listing.proofs.listing.Listing.line.Goals as goal

pub returns-clause-value : goal.returns-clause-value
returns-clause-value c = search rules
