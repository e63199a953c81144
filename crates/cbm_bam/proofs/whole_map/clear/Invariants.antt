use Rattle.std.proofs.Common.{ℕ, ◌≡◌, ◌≤◌, ◌<◌, ◌⊎◌}
use Rattle.std.specs.Prelude.{slice_index}
use Rattle.cbm_bam.proofs.whole_map.clear.Given as goal

-- what is before the place is zeros, and the rest as it was
abbrev pub invariant-loop-i : goal.invariant-loop-i
invariant-loop-i l =
    ((j : ℕ) → l.begin ≤ j → j < l.i → slice_index l.map j ≡ 0)
    × ((j : ℕ) → (j < l.begin) ⊎ (l.i ≤ j) → slice_index l.map j ≡ slice_index l.fn.map j)
