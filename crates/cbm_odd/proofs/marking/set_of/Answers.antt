use Rattle.std.proofs.Common.{◌+◌, drop, refl}
use Rattle.std.proofs.lemmas.List.{drop_all}
use Rattle.cbm_bam.specs.Marks.{is_marked}
use Rattle.cbm_odd.proofs.AwayLemmas.{one_off}
use Rattle.cbm_odd.proofs.MarkingLemmas.{set-start, set-more, set-all}
use Rattle.cbm_odd.proofs.marking.set_of.Goals as goal

pub loop-at-init : goal.loop-at-init
loop-at-init c = set-start (is_marked c.new-set.result) c.args.places.now _ c.new-set.ensures refl

pub loop-at-preserved : goal.loop-at-preserved
loop-at-preserved c =
    set-more (is_marked c.loop-at.set) (is_marked c.insert.new.self) _ c.at-item.result (drop c.loop-at.at-index c.args.places.now) (drop (c.loop-at.at-index + 1) c.args.places.now)
    (one_off c.args.places.now c.at-item.result c.loop-at.at-index c.at-item.is c.loop-at-test.true) c.loop-at.invariant c.insert.ensures

pub returns : goal.returns
returns c =
    set-all (is_marked c.loop-at.set) _ (drop c.loop-at.at-index c.args.places.now) (drop_all c.loop-at.at-index c.args.places.now c.loop-at-test.false) c.loop-at.invariant
