use Rattle.cbm_image.specs.AnyDisks.{any_seen}
use Rattle.cbm_bam.specs.Map.{geometry_of}
use Rattle.cbm_odd.proofs.FaultLemmas.{back_saved}
use Rattle.cbm_odd.proofs.back.image_with.Goals as goal

pub returns-clause-fault : goal.returns-clause-fault
returns-clause-fault c =
    let old = any_seen c.args.volume in
    back_saved (geometry_of old.tracks old.content) c.args.odds.now old.content c.saved.result c.saved.ensures.err
