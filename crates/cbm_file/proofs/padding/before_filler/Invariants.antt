use Rattle.std.proofs.Common.{◌≡◌, ◌++◌, drop, take}
use Rattle.cbm_file.specs.Padding.{before_filler}
use Rattle.cbm_file.proofs.padding.before_filler.Given as goal

abbrev pub invariant-loop-i : goal.invariant-loop-i
invariant-loop-i l = before_filler l.name ≡ take l.i l.name ++ before_filler (drop l.i l.name)
