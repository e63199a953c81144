use Rattle.std.proofs.Common.{◌≡◌, ◌≤◌}
use Rattle.cbm_bam.specs.Map.{is_free_in, tally}
use Rattle.cbm_bam.proofs.map.free_on.Given as goal

abbrev pub invariant-loop-sector : goal.invariant-loop-sector
invariant-loop-sector l = (l.free ≡ tally (is_free_in l.map) l.track l.sector) × (l.free ≤ l.sector)
