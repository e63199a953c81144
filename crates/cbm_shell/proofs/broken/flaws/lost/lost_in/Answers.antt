use Rattle.std.proofs.Common.{◌∙◌}
use Rattle.cbm_bam.specs.Marks.{is_marked}
use Rattle.cbm_shell.specs.Lost.{lost_at}
use Rattle.cbm_shell.proofs.PassingLemmas.{places_in-none, places_in-more}
use Rattle.cbm_shell.proofs.broken.flaws.lost.lost_in.Goals as goal

pub loop-track-init : goal.loop-track-init
loop-track-init g c = c.new-lost.ensures.items ∙ places_in-none (lost_at (g.M.Medium.seen c.args.medium.now).content (is_marked c.args.used.now) (is_marked c.args.geos.now))

pub loop-track-preserved : goal.loop-track-preserved
loop-track-preserved g c =
    places_in-more c.loop-track.lost.items c.add_track.new.out.items (lost_at (g.M.Medium.seen c.args.medium.now).content (is_marked c.args.used.now) (is_marked c.args.geos.now)) c.loop-track.track
    c.loop-track.invariant c.in_ok-add_track.ensures
