use Rattle.std.proofs.Common.{◌≡◌, drop}
use Rattle.cbm_command.specs.Texts.{holds_byte}
use Rattle.cbm_command.proofs.text.contains.Given as goal

abbrev pub invariant-loop-here : goal.invariant-loop-here
invariant-loop-here l = holds_byte l.byte l.text ≡ holds_byte l.byte (drop l.here-index l.text)
