use Rattle.std.proofs.Common.{◌+◌, drop}
use Rattle.std.proofs.lemmas.List.{drop_all}
use Rattle.cbm_medium.specs.Place.{directory_head}
use Rattle.cbm_odd.proofs.AwayLemmas.{one_off}
use Rattle.cbm_odd.proofs.MarkingLemmas.{free-all, free-more}
use Rattle.cbm_odd.proofs.marking.free_among.Goals as goal

pub loop-at-preserved : goal.loop-at-preserved
loop-at-preserved g c =
    free-more c.loop-at.free.items c.add_held.new.out.items _ ((g.M.Medium.seen c.args.medium.now).content directory_head) c.at-item.result
    (drop c.loop-at.at-index c.args.held.now) (drop (c.loop-at.at-index + 1) c.args.held.now) c.is_free_at.result
    (one_off c.args.held.now c.at-item.result c.loop-at.at-index c.at-item.is c.loop-at-test.true) c.loop-at.invariant c.is_free_at.ensures c.in_ok-add_held.ensures

pub returns : goal.returns
returns g c =
    free-all c.loop-at.free.items _ ((g.M.Medium.seen c.args.medium.now).content directory_head) (drop c.loop-at.at-index c.args.held.now)
    (drop_all c.loop-at.at-index c.args.held.now c.loop-at-test.false) c.loop-at.invariant
