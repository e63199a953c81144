use Rattle.std.proofs.Common.{◌≡◌, ℕ, ◌<◌, true}
use Rattle.cbm_track.specs.Circle.{each_below}
use Rattle.cbm_g64.specs.File.{is_apart}
use Rattle.cbm_g64.proofs.checks.are_apart.Given as goal

abbrev pub invariant-loop-i : goal.invariant-loop-i
invariant-loop-i l = (j : ℕ) → j < l.i → each_below (is_apart l.file j) 35 ≡ true
