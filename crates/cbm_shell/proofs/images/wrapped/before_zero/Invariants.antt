use Rattle.std.proofs.Common.{◌≡◌, ◌++◌, drop, take}
use Rattle.cbm_shell.specs.Wrapped.{before_zero}
use Rattle.cbm_shell.proofs.images.wrapped.before_zero.Given as goal

abbrev pub invariant-loop-i : goal.invariant-loop-i
invariant-loop-i l = before_zero l.name ≡ take l.i l.name ++ before_zero (drop l.i l.name)
