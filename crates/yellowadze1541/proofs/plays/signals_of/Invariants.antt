use Rattle.std.proofs.Common.{◌≡◌, ◌++◌, length, map}
use Rattle.yellowadze1541.specs.Signals.{signal_of}
use Rattle.yellowadze1541.proofs.plays.signals_of.Given as goal

abbrev pub invariant-events : goal.invariant-events
invariant-events l = l.signals.items ++ map signal_of l.rest ≡ map signal_of l.events

abbrev pub decreases-events : goal.decreases-events
decreases-events l = length l.rest
