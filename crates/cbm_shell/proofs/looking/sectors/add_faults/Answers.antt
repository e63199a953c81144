use Rattle.cbm_shell.proofs.SectorLemmas.{faults_on-none, faults_on-more}
use Rattle.cbm_shell.proofs.looking.sectors.add_faults.Goals as goal

pub loop-sector-init : goal.loop-sector-init
loop-sector-init g c = faults_on-none c.args.faults.now.items (g.M.Medium.seen c.args.medium.now).content c.args.track

pub loop-sector-preserved : goal.loop-sector-preserved
loop-sector-preserved g c =
    faults_on-more c.args.faults.now.items c.loop-sector.faults.items c.add_fault.new.faults.items (g.M.Medium.seen c.args.medium.now).content c.args.track
    c.loop-sector.sector c.in-Some.at c.loop-sector.invariant c.in_ok-add_fault-in-Some.ensures c.in-Some.ensures.1
