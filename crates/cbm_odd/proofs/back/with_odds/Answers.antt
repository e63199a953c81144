use Rattle.cbm_bam.specs.Map.{geometry_of}
use Rattle.cbm_odd.proofs.FaultLemmas.{unreadable_back}
use Rattle.cbm_odd.proofs.back.with_odds.Goals as goal

pub returns-clause-fault : goal.returns-clause-fault
returns-clause-fault g c =
    let old = g.M.Medium.seen c.args.volume in
    unreadable_back (geometry_of old.tracks old.content) c.args.odds.now old.content c.marked_by.result c.marked_by.ensures.fault
