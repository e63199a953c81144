use Rattle.std.proofs.Common.{◌≡◌, ◌≤◌, length, take}
use Rattle.bus_wires.specs.Cable.{parties_at_rest}
use Rattle.bus_wires.proofs.hands.all_free.Given as goal

abbrev pub invariant-loop-party : goal.invariant-loop-party
invariant-loop-party l = record {
  seats : l.seats.items ≡ (parties_at_rest (take l.party-index l.parties)).drives;
  few : length l.seats.items ≤ l.party-index;
}
