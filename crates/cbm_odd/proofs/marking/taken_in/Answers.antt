use Rattle.std.proofs.Common.{◌∙◌}
use Rattle.cbm_medium.specs.Place.{directory_head}
use Rattle.cbm_bam.specs.Marks.{is_marked}
use Rattle.cbm_shell.proofs.PassingLemmas.{places_in-none, places_in-more}
use Rattle.cbm_odd.specs.Marking.{is_taken_now}
use Rattle.cbm_odd.proofs.marking.taken_in.Goals as goal

pub loop-track-init : goal.loop-track-init
loop-track-init g c =
    c.new-taken.ensures.items ∙ places_in-none (is_taken_now ((g.M.Medium.seen c.args.medium.now).content directory_head) (is_marked c.args.more.now) (is_marked c.args.less.now))

pub loop-track-preserved : goal.loop-track-preserved
loop-track-preserved g c =
    places_in-more c.loop-track.taken.items c.add_taken.new.out.items
    (is_taken_now ((g.M.Medium.seen c.args.medium.now).content directory_head) (is_marked c.args.more.now) (is_marked c.args.less.now)) c.loop-track.track
    c.loop-track.invariant c.in_ok-add_taken.ensures
