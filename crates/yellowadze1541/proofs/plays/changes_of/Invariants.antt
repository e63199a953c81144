use Rattle.std.proofs.Common.{◌≡◌, length}
use Rattle.yellowadze1541.specs.Signals.{all_before, changes_of}
use Rattle.yellowadze1541.proofs.plays.changes_of.Given as goal

abbrev pub invariant-signals : goal.invariant-signals
invariant-signals l = all_before l.changes.items (changes_of l.rest) ≡ changes_of l.signals

abbrev pub decreases-signals : goal.decreases-signals
decreases-signals l = length l.rest
