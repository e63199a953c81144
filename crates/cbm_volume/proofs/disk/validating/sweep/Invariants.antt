use Rattle.cbm_volume.proofs.mended.Walked.{AreSwept}
use Rattle.cbm_volume.proofs.disk.validating.sweep.Given as goal

-- the slots so far are swept
abbrev pub invariant-loop-number : goal.invariant-loop-number
invariant-loop-number g l = AreSwept l.geometry (g.M.Medium.seen l.initial.medium) (g.M.Medium.seen l.medium) l.number
