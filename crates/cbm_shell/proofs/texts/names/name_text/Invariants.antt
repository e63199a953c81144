use Rattle.std.proofs.Common.{◌≡◌, ◌++◌, length, string_bytes}
use Rattle.cbm_shell.specs.Names.{name_text}
use Rattle.cbm_shell.proofs.texts.names.name_text.Given as goal

abbrev pub invariant-codes : goal.invariant-codes
invariant-codes l = string_bytes l.text ++ name_text l.charset l.rest ≡ name_text l.charset l.name

abbrev pub decreases-codes : goal.decreases-codes
decreases-codes l = length l.rest
