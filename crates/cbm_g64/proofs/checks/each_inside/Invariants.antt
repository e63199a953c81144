use Rattle.std.proofs.Common.{◌≡◌, ℕ, ◌<◌, true}
use Rattle.cbm_g64.specs.File.{is_track_inside}
use Rattle.cbm_g64.proofs.checks.each_inside.Given as goal

abbrev pub invariant-loop-i : goal.invariant-loop-i
invariant-loop-i l = (j : ℕ) → j < l.i → is_track_inside l.file j ≡ true
