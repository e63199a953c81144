use Rattle.cbm_bam.specs.Marks.{is_marked}
use Rattle.cbm_odd.proofs.ReachLemmas.{reach_from}
use Rattle.cbm_odd.proofs.held.reached_by.Goals as goal

pub returns : goal.returns
returns g c =
    reach_from (is_marked c.new-reached.result) (is_marked c.reach_each.new.reached) c.args.geometry (g.M.Medium.seen c.args.medium.now).content c.args.odds.now
    c.new-reached.ensures c.reach_each.ensures
