use Rattle.cbm_bam.specs.Marks.{is_marked}
use Rattle.cbm_shell.proofs.MapLemmas.{rows-none, rows-more}
use Rattle.cbm_shell.proofs.looking.mapping.add_tracks.Goals as goal

pub loop-track-init : goal.loop-track-init
loop-track-init g c = rows-none c.args.out.now.items (g.M.Medium.seen c.args.medium.now).content (is_marked c.args.used.now)

pub loop-track-preserved : goal.loop-track-preserved
loop-track-preserved g c =
    rows-more c.args.out.now.items c.loop-track.out.items c.add_track.new.out.items (g.M.Medium.seen c.args.medium.now).content (is_marked c.args.used.now) c.loop-track.track
    c.loop-track.invariant c.in_ok-add_track.ensures
