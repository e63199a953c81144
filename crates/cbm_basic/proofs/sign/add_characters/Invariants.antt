use Rattle.std.proofs.Common.{◌≡◌, ◌++◌, length}
use Rattle.cbm_basic.specs.Signs.{characters}
use Rattle.cbm_basic.proofs.sign.add_characters.Given as goal

abbrev pub invariant-codes : goal.invariant-codes
invariant-codes l = l.signs.items ++ characters l.rest ≡ l.initial.signs.items ++ characters l.codes

abbrev pub decreases-codes : goal.decreases-codes
decreases-codes l = length l.rest
