use Rattle.std.proofs.Common.{◌≡◌, ℕ, ◌<◌, true}
use Rattle.cbm_g64.specs.File.{is_sized}
use Rattle.cbm_g64.proofs.checks.are_sized.Given as goal

abbrev pub invariant-loop-i : goal.invariant-loop-i
invariant-loop-i l = (j : ℕ) → j < l.i → is_sized l.file j ≡ true
