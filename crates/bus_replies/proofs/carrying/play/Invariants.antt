use Rattle.std.proofs.Common.{◌≡◌, ◌≤◌, ◌+◌, [], None}
use Rattle.bus_replies.specs.Plays.{HasGivenEvents}
use Rattle.bus_replies.proofs.carrying.play.Given as goal

-- what came so far was written
abbrev pub invariant-events : goal.invariant-events
invariant-events g l = record {
  given : HasGivenEvents g.B.Plays.gave (g.W.Write.contents l.fn.writer) (g.W.Write.contents l.writer) [] l.fn.bus l.bus;
  waiting : g.B.Plays.waiting l.bus ≡ None;
  from : g.B.Plays.from l.bus ≤ l.upto + 1;
}

abbrev pub decreases-events : goal.decreases-events
decreases-events g l = g.B.Plays.most (l.upto + 1) l.bus
