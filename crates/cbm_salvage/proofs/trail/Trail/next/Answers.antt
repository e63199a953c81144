use Rattle.cbm_bam.specs.Marks.{is_marked}
use Rattle.cbm_salvage.proofs.TrailLemmas.{once_end}
use Rattle.cbm_salvage.proofs.trail.Trail.next.Goals as goal

pub returns-then-is_end-clause-gives : goal.returns-then-is_end-clause-gives
returns-then-is_end-clause-gives g c =
    once_end c.args.self.now.geometry (g.M.Medium.seen c.args.medium.now).content c.args.self.now.left (is_marked c.args.self.now.seen) c.args.self.now.next (c.is_end.ensures.0 c.if-is_end.true)
