use Rattle.std.proofs.Common.{◌≡◌, ◌≤◌, ◌+◌, length}
use Rattle.cbm_basic.specs.Links.{links_hold}
use Rattle.cbm_basic.proofs.links.links_hold.Given as goal

abbrev pub invariant-lines : goal.invariant-lines
invariant-lines l = record {
  same : links_hold l.at l.rest ≡ links_hold 2049 l.bytes;
  room : l.at + length l.rest ≤ 2049 + length l.bytes;
}

abbrev pub decreases-lines : goal.decreases-lines
decreases-lines l = length l.rest
