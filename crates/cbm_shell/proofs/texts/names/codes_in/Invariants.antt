use Rattle.std.proofs.Common.{◌≡◌, length}
use Rattle.cbm_shell.specs.Names.{codes_of}
use Rattle.cbm_shell.proofs.NameLemmas.{afterwards}
use Rattle.cbm_shell.proofs.texts.names.codes_in.Given as goal

abbrev pub invariant-codes : goal.invariant-codes
invariant-codes l = afterwards l.codes.items (codes_of l.charset l.rest) ≡ codes_of l.charset l.text

abbrev pub decreases-codes : goal.decreases-codes
decreases-codes l = length l.rest
