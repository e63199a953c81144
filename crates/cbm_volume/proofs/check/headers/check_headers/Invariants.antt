use Rattle.std.proofs.Common.{◌<◌}
use Rattle.cbm_medium.specs.Place.{Place, Has}
use Rattle.cbm_volume.specs.Layouts.{IsCellWritable}
use Rattle.cbm_volume.proofs.check.headers.check_headers.Given as goal

-- the sectors of the tracks before this one have no fault of their header
abbrev pub invariant-loop-track : goal.invariant-loop-track
invariant-loop-track g l = (p : Place) → Has l.fn.geometry p → p.track < l.track → IsCellWritable ((g.M.Medium.seen l.medium).content p)
