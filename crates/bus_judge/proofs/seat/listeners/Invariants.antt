use Rattle.std.proofs.Common.{◌≡◌, ◌≤◌, length, take}
use Rattle.cbm_session.specs.Seats as spec
use Rattle.bus_judge.specs.Views.{seats_of}
use Rattle.bus_judge.proofs.seat.listeners.Given as goal

-- those that listen among the first
abbrev pub invariant-loop-seat : goal.invariant-loop-seat
invariant-loop-seat l = record {
  found : seats_of l.found.items ≡ spec.listeners (seats_of (take l.seat-index l.seats));
  few : length l.found.items ≤ l.seat-index;
}
