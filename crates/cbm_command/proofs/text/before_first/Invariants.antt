use Rattle.std.proofs.Common.{◌≡◌, ◌++◌, drop, take}
use Rattle.cbm_command.specs.Texts.{before_byte}
use Rattle.cbm_command.proofs.text.before_first.Given as goal

abbrev pub invariant-loop-i : goal.invariant-loop-i
invariant-loop-i l = before_byte l.byte l.text ≡ take l.i l.text ++ before_byte l.byte (drop l.i l.text)
