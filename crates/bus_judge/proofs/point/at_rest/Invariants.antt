use Rattle.std.proofs.Common.{◌≡◌, ◌≤◌, length, take}
use Rattle.cbm_session.specs.Sessions as sessions
use Rattle.bus_judge.specs.Views.{seats_of}
use Rattle.bus_judge.proofs.point.at_rest.Given as goal

abbrev pub invariant-loop-party : goal.invariant-loop-party
invariant-loop-party l = record {
  seats : seats_of l.seats.items ≡ (sessions.rest (take l.party-index l.parties)).seats;
  few : length l.seats.items ≤ l.party-index;
}
