use Rattle.std.proofs.Common.{◌≡◌, ◌++◌, length}
use Rattle.cbm_basic.specs.Signs.{letters}
use Rattle.cbm_basic.proofs.sign.add_letters.Given as goal

abbrev pub invariant-letters : goal.invariant-letters
invariant-letters l = l.signs.items ++ letters l.rest ≡ l.initial.signs.items ++ letters l.row

abbrev pub decreases-letters : goal.decreases-letters
decreases-letters l = length l.rest
