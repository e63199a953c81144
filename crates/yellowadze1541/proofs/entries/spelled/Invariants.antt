use Rattle.std.proofs.Common.{◌≡◌, ◌++◌, length, map}
use Rattle.yellowadze1541.specs.Looks.{entry_spelled}
use Rattle.yellowadze1541.proofs.entries.spelled.Given as goal

abbrev pub invariant-entries : goal.invariant-entries
invariant-entries l = l.spelled.items ++ map entry_spelled l.rest ≡ map entry_spelled l.entries

abbrev pub decreases-entries : goal.decreases-entries
decreases-entries l = length l.rest
