use Rattle.cbm_medium.specs.Place.{directory_head}
use Rattle.cbm_bam.specs.Marks.{is_marked}
use Rattle.cbm_place.specs.Moves.{is_taken}
use Rattle.cbm_place.proofs.MoveParts.{taking-none, taking-more}
use Rattle.cbm_place.proofs.bam.take_on.Goals as goal

pub loop-sector-init : goal.loop-sector-init
loop-sector-init g c =
    taking-none (is_marked c.args.taken.now) (is_taken ((g.M.Medium.seen c.args.medium.now).content directory_head) (is_marked c.args.change.now.left) (is_marked c.args.change.now.claimed)) c.args.track

pub loop-sector-preserved : goal.loop-sector-preserved
loop-sector-preserved g c =
    taking-more (is_marked c.args.taken.now) (is_marked c.loop-sector.taken) (is_marked c.insert_if.new.set)
    (is_taken ((g.M.Medium.seen c.args.medium.now).content directory_head) (is_marked c.args.change.now.left) (is_marked c.args.change.now.claimed))
    c.args.track c.loop-sector.sector c.in-Some.at c.is_taken.result c.loop-sector.invariant c.is_taken.ensures c.insert_if.ensures c.in-Some.ensures.1
