use Rattle.std.proofs.Common.{rules}
use Rattle.cbm_bam.specs.Map.{geometry_of}
use Rattle.cbm_volume.proofs.layouts.Listing.{slot_shown}
use Rattle.cbm_volume.proofs.volume.Volume.slot_on.Goals as goal

pub returns-clause-means : goal.returns-clause-means
returns-clause-means g c = λ d m.
    slot_shown (geometry_of (g.M.Medium.seen c.args.self.now).tracks (g.M.Medium.seen c.args.self.now).content) (g.M.Medium.seen c.args.self.now).content m.layout d c.args.number c.slot.result m.stands
    (search rules)
