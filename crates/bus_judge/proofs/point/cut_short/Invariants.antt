use Rattle.std.proofs.Common.{◌≡◌, ◌≤◌, length, take, map}
use Rattle.cbm_session.specs.Pieces as spec
use Rattle.bus_judge.specs.Views.{seats_of, point_of, whole_of}
use Rattle.bus_judge.proofs.point.cut_short.Given as goal

abbrev pub invariant-loop-seat : goal.invariant-loop-seat
invariant-loop-seat l = record {
  found : seats_of l.found.items ≡ map (λ s. spec.seat_with s.role (spec.held_by s.own (spec.before l.cut (spec.own_part (point_of l.point) (whole_of l.whole) s))) s) (seats_of (take l.seat-index l.seats));
  few : length l.found.items ≤ l.seat-index;
}
