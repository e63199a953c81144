use Rattle.cbm_volume.proofs.mended.Viewed.{view_whole}
use Rattle.cbm_volume.proofs.disk.view.ClosedViewMedium.tracks.Goals as goal

pub returns-clause-whole : goal.returns-clause-whole
returns-clause-whole g c = λ p. view_whole c.args.self.now.geometry (g.M.Medium.seen c.args.self.now.medium.now).content p (c.tracks.ensures.whole p)
