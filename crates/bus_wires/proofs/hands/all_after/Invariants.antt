use Rattle.std.proofs.Common.{◌≡◌, ◌≤◌, length, take, map}
use Rattle.bus_wires.specs.Cable.{seat_after}
use Rattle.bus_wires.proofs.hands.all_after.Given as goal

abbrev pub invariant-loop-seat : goal.invariant-loop-seat
invariant-loop-seat l = record {
  found : l.found.items ≡ map (λ s. seat_after l.device l.change s) (take l.seat-index l.seats);
  few : length l.found.items ≤ l.seat-index;
}
