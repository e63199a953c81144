use Rattle.cbm_shell.proofs.FlawLemmas.{header_flaws-none, header_flaws-more}
use Rattle.cbm_shell.proofs.broken.flaws.headers.add_headers.Goals as goal

pub loop-track-init : goal.loop-track-init
loop-track-init g c = header_flaws-none c.args.out.now.items (g.M.Medium.seen c.args.medium.now).content

pub loop-track-preserved : goal.loop-track-preserved
loop-track-preserved g c =
    header_flaws-more c.args.out.now.items c.loop-track.out.items c.add_track.new.out.items (g.M.Medium.seen c.args.medium.now).content c.loop-track.track
    c.loop-track.invariant c.in_ok-add_track.ensures
