use Rattle.std.proofs.Common.{◌≡◌, ◌≤◌, ◌+◌, ℕ, length}
use Rattle.cbm_basic.specs.Links.{text_holds}
use Rattle.cbm_basic.proofs.links.next_place.Given as goal

abbrev pub invariant-codes : goal.invariant-codes
invariant-codes l = record {
  same : (link : ℕ) → text_holds l.place link l.rest ≡ text_holds l.at link l.bytes;
  shorter : length l.rest ≤ length l.bytes;
  room : l.place + length l.rest ≤ l.at + length l.bytes;
}

abbrev pub decreases-codes : goal.decreases-codes
decreases-codes l = length l.rest
