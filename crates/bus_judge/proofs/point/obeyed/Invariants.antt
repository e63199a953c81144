use Rattle.std.proofs.Common.{◌≡◌, ◌≤◌, length, take, map}
use Rattle.cbm_session.specs.Pieces as spec
use Rattle.bus_judge.specs.Views.{seats_of}
use Rattle.bus_judge.proofs.point.obeyed.Given as goal

abbrev pub invariant-loop-seat : goal.invariant-loop-seat
invariant-loop-seat l = record {
  found : seats_of l.found.items ≡ map (λ s. spec.obeying l.byte s) (seats_of (take l.seat-index l.seats));
  few : length l.found.items ≤ l.seat-index;
}
