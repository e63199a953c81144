use Rattle.std.proofs.Common.{◌≡◌, ℕ, ◌<◌, true}
use Rattle.cbm_g64.specs.File.{is_apart}
use Rattle.cbm_g64.proofs.checks.is_apart_from_all.Given as goal

abbrev pub invariant-loop-j : goal.invariant-loop-j
invariant-loop-j l = (k : ℕ) → k < l.j → is_apart l.file l.i k ≡ true
