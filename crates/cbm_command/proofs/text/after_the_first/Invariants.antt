use Rattle.std.proofs.Common.{◌≡◌, length}
use Rattle.cbm_command.specs.Texts.{after_byte}
use Rattle.cbm_command.proofs.text.after_the_first.Given as goal

abbrev pub invariant-loop-first : goal.invariant-loop-first
invariant-loop-first l = after_byte l.byte l.text ≡ after_byte l.byte l.rest

abbrev pub decreases-loop-first : goal.decreases-loop-first
decreases-loop-first l = length l.rest
