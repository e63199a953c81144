use Rattle.std.proofs.lemmas.List.{drop_all}
use Rattle.cbm_bam.specs.Marks.{is_marked}
use Rattle.cbm_shell.specs.Mapping.{is_among}
use Rattle.cbm_place.proofs.MoveParts.{one_off, put-begins, put-more, put-all}
use Rattle.cbm_place.proofs.chain.set_of.Goals as goal

pub loop-at-init : goal.loop-at-init
loop-at-init c = put-begins _ c.args.places.now c.new-set.ensures

pub loop-at-preserved : goal.loop-at-preserved
loop-at-preserved c =
    put-more (is_marked c.loop-at.set) (is_marked c.insert.new.self) (is_among c.args.places.now) c.at-item.result _ _ c.loop-at.invariant
    (one_off c.args.places.now c.at-item.result c.loop-at.at-index c.at-item.is c.loop-at-test.true) c.insert.ensures

pub returns : goal.returns
returns c = put-all (is_marked c.loop-at.set) (is_among c.args.places.now) _ c.loop-at.invariant (drop_all c.loop-at.at-index c.args.places.now c.loop-at-test.false)
