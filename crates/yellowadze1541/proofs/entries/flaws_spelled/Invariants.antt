use Rattle.std.proofs.Common.{◌≡◌, ◌++◌, length, map}
use Rattle.yellowadze1541.specs.Entries.{flaw_spelled}
use Rattle.yellowadze1541.proofs.entries.flaws_spelled.Given as goal

abbrev pub invariant-flaws : goal.invariant-flaws
invariant-flaws l = l.spelled.items ++ map flaw_spelled l.rest ≡ map flaw_spelled l.flaws

abbrev pub decreases-flaws : goal.decreases-flaws
decreases-flaws l = length l.rest
