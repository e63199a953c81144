use Rattle.std.proofs.Common.{◌≡◌, ◌≤◌, length, take, map, true, false}
use Rattle.cbm_session.specs.Pieces as spec
use Rattle.cbm_session.specs.Seats.{lines}
use Rattle.bus_judge.specs.Views.{seats_of}
use Rattle.bus_judge.proofs.point.attending.Given as goal

abbrev pub invariant-loop-seat : goal.invariant-loop-seat
invariant-loop-seat l = record {
  found : seats_of l.found.items ≡ map (λ s. spec.seat_with s.role (lines false true) s) (seats_of (take l.seat-index l.seats));
  few : length l.found.items ≤ l.seat-index;
}
