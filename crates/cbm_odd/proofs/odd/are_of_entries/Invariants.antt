use Rattle.std.proofs.Common.{◌≡◌, length}
use Rattle.cbm_odd.specs.Odd.{are_of_entries}
use Rattle.cbm_odd.proofs.odd.are_of_entries.Given as goal

abbrev pub invariant-flaws : goal.invariant-flaws
invariant-flaws l = are_of_entries l.entries l.rest ≡ are_of_entries l.entries l.flaws

abbrev pub decreases-flaws : goal.decreases-flaws
decreases-flaws l = length l.rest
