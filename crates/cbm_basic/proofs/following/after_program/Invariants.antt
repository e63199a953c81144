use Rattle.std.proofs.Common.{◌≡◌, length}
use Rattle.cbm_basic.specs.Lines.{after_basic, after_program}
use Rattle.cbm_basic.proofs.following.after_program.Given as goal

abbrev pub invariant-lines : goal.invariant-lines
invariant-lines l = after_basic l.rest ≡ after_program l.program

abbrev pub decreases-lines : goal.decreases-lines
decreases-lines l = length l.rest
