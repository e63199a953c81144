use Rattle.std.proofs.Common.{◌≡◌, ℕ, ◌+◌, ◌<◌, get_or, []}
use Rattle.cbm_sector.specs.Fresh.{fresh}
use Rattle.cbm_g64.proofs.circles.format_on.Given as goal

abbrev pub invariant-loop-i : goal.invariant-loop-i
invariant-loop-i l = (j : ℕ) → j < l.i → get_or l.tracks j [] ≡ fresh (j + 1) l.id
