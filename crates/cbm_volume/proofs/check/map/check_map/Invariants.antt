use Rattle.std.proofs.Common.{◌≡◌, ℕ, ◌<◌, true}
use Rattle.cbm_bam.specs.Map.{map_of}
use Rattle.cbm_volume.specs.check.MapCounts.{is_counted_on}
use Rattle.cbm_volume.proofs.check.map.check_map.Given as goal

-- the counts of the tracks before this one are right
abbrev pub invariant-loop-track : goal.invariant-loop-track
invariant-loop-track g l = (u : ℕ) → 0 < u → u < l.track → is_counted_on u (map_of (g.M.Medium.seen l.medium).content) ≡ true
