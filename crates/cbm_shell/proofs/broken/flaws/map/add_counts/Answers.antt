use Rattle.cbm_bam.specs.Map.{map_of}
use Rattle.cbm_shell.proofs.FlawLemmas.{count_flaws-none, count_flaws-more}
use Rattle.cbm_shell.proofs.broken.flaws.map.add_counts.Goals as goal

pub loop-track-init : goal.loop-track-init
loop-track-init g c = count_flaws-none c.args.out.now.items (map_of (g.M.Medium.seen c.args.medium.now).content)

pub loop-track-preserved : goal.loop-track-preserved
loop-track-preserved g c =
    count_flaws-more c.args.out.now.items c.loop-track.out.items c.add_count.new.out.items (map_of (g.M.Medium.seen c.args.medium.now).content) c.loop-track.track
    c.loop-track.invariant c.in_ok-add_count.ensures
