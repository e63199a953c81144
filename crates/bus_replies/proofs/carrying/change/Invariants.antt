use Rattle.std.proofs.Common.{◌≡◌, ◌+◌, [], Some}
use Rattle.bus_replies.specs.Plays.{HasGivenEvents}
use Rattle.bus_replies.proofs.carrying.change.Given as goal

-- what came before the change was written
abbrev pub invariant-events : goal.invariant-events
invariant-events g l = record {
  given : HasGivenEvents g.B.Plays.gave (g.W.Write.contents l.fn.writer) (g.W.Write.contents l.writer) [] l.fn.bus l.bus;
  waiting : g.B.Plays.waiting l.bus ≡ Some l.change;
}

abbrev pub decreases-events : goal.decreases-events
decreases-events g l = g.B.Plays.most (l.change.moment + 1) l.bus
