use Rattle.std.proofs.Common.{ℕ, ◌<◌}
use Rattle.cbm_bam.specs.Map.{at}
use Rattle.cbm_volume.specs.Layouts.{IsCellWritable}
use Rattle.cbm_volume.proofs.check.headers.check_track.Given as goal

-- the sectors before this one have no fault of their header
abbrev pub invariant-loop-sector : goal.invariant-loop-sector
invariant-loop-sector g l = (r : ℕ) → r < l.sector → IsCellWritable ((g.M.Medium.seen l.medium).content (at l.track r))
