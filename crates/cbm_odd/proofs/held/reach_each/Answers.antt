use Rattle.std.proofs.Common.{◌+◌, drop}
use Rattle.std.proofs.lemmas.List.{drop_all}
use Rattle.cbm_bam.specs.Marks.{is_marked}
use Rattle.cbm_odd.proofs.AwayLemmas.{one_off}
use Rattle.cbm_odd.proofs.ReachLemmas.{reach_more, reach_all}
use Rattle.cbm_odd.proofs.held.reach_each.Goals as goal

pub loop-odd-preserved : goal.loop-odd-preserved
loop-odd-preserved g c =
    reach_more (is_marked c.loop-odd.reached) (is_marked c.reach_one.new.reached) _ c.args.geometry (g.M.Medium.seen c.args.medium.now).content c.odd-item.result
    (drop (c.loop-odd.odd-index + 1) c.args.odds.now) (drop c.loop-odd.odd-index c.args.odds.now)
    (one_off c.args.odds.now c.odd-item.result c.loop-odd.odd-index c.odd-item.is c.loop-odd-test.true) c.loop-odd.invariant c.reach_one.ensures

pub returns : goal.returns
returns g c =
    reach_all (is_marked c.loop-odd.reached) _ c.args.geometry (g.M.Medium.seen c.args.medium.now).content (drop c.loop-odd.odd-index c.args.odds.now)
    (drop_all c.loop-odd.odd-index c.args.odds.now c.loop-odd-test.false) c.loop-odd.invariant
