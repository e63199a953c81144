use Rattle.std.proofs.Common.{◌≡◌, ◌≤◌, ◌*◌, ◌-◌}
use Rattle.cbm_bam.specs.Map.{is_free_in, number}
use Rattle.cbm_bam.proofs.map.free_bits.Given as goal

abbrev pub invariant-loop-track : goal.invariant-loop-track
invariant-loop-track l = (l.free ≡ number (l.track - 1) (is_free_in l.map)) × (l.free ≤ 255 * l.track)
