use Rattle.cbm_volume.proofs.copied.CopySteps.{IsCounted}
use Rattle.cbm_volume.proofs.files.copying.byte_total.Given as goal

-- the files so far are counted
abbrev pub invariant-sources : goal.invariant-sources
invariant-sources g l = IsCounted (g.M.Medium.seen l.medium) l.sources l.number-index l.total
