use Rattle.std.proofs.Common.{◌≡◌, ◌≤◌, ◌*◌, ◌-◌}
use Rattle.cbm_bam.specs.Map.{count_in, summed}
use Rattle.cbm_bam.proofs.map.free_blocks.Given as goal

abbrev pub invariant-loop-track : goal.invariant-loop-track
invariant-loop-track l = (l.free ≡ summed (count_in l.map) (l.track - 1)) × (l.free ≤ 255 * l.track)
