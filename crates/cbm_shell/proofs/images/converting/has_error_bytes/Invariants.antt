use Rattle.std.proofs.Common.{◌≡◌, ℕ, ◌<◌, true}
use Rattle.cbm_shell.specs.Converting.{is_good}
use Rattle.cbm_shell.proofs.images.converting.has_error_bytes.Given as goal

abbrev pub invariant-loop-i : goal.invariant-loop-i
invariant-loop-i l = (j : ℕ) → j < l.i → is_good l.image j ≡ true
