use Rattle.std.proofs.Common.{◌∙◌}
use Rattle.cbm_shell.proofs.SectorLemmas.{faults_in-none, faults_in-more}
use Rattle.cbm_shell.proofs.looking.sectors.faults_in.Goals as goal

pub loop-track-init : goal.loop-track-init
loop-track-init g c = c.new-faults.ensures.items ∙ faults_in-none (g.M.Medium.seen c.args.medium.now).content

pub loop-track-preserved : goal.loop-track-preserved
loop-track-preserved g c =
    faults_in-more c.loop-track.faults.items c.add_faults.new.faults.items (g.M.Medium.seen c.args.medium.now).content c.loop-track.track
    c.loop-track.invariant c.in_ok-add_faults.ensures
