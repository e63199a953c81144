use Rattle.std.proofs.Common.{arith}
use Rattle.cbm_medium.specs.Place.{directory_head}
use Rattle.cbm_bam.specs.Marks.{is_marked}
use Rattle.cbm_place.specs.Moves.{is_taken}
use Rattle.cbm_place.proofs.MoveParts.{tracks-none, tracks-more, tracks-all}
use Rattle.cbm_place.proofs.bam.taken_sectors.Goals as goal

pub loop-track-init : goal.loop-track-init
loop-track-init g c =
    tracks-none _ (is_taken ((g.M.Medium.seen c.args.medium.now).content directory_head) (is_marked c.args.change.now.left) (is_marked c.args.change.now.claimed)) c.new-taken.ensures

pub loop-track-preserved : goal.loop-track-preserved
loop-track-preserved g c =
    tracks-more (is_marked c.loop-track.taken) (is_marked c.take_on.new.taken)
    (is_taken ((g.M.Medium.seen c.args.medium.now).content directory_head) (is_marked c.args.change.now.left) (is_marked c.args.change.now.claimed))
    c.loop-track.track c.loop-track.invariant c.take_on.ensures

pub returns : goal.returns
returns g c =
    tracks-all (is_marked c.loop-track.taken)
    (is_taken ((g.M.Medium.seen c.args.medium.now).content directory_head) (is_marked c.args.change.now.left) (is_marked c.args.change.now.claimed))
    c.loop-track.track c.args.geometry c.loop-track.invariant (omega (arith, c.loop-track-test.false))
