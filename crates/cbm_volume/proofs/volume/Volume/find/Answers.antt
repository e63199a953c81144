use Rattle.cbm_bam.specs.Map.{geometry_of}
use Rattle.cbm_volume.proofs.layouts.Telling.{told}
use Rattle.cbm_volume.proofs.volume.Volume.find.Goals as goal

pub returns-clause-means : goal.returns-clause-means
returns-clause-means g c = λ d m.
    told (geometry_of (g.M.Medium.seen c.args.self.now).tracks (g.M.Medium.seen c.args.self.now).content) (g.M.Medium.seen c.args.self.now).content m.layout d m.stands
