use Rattle.cbm_bam.specs.Marks.{is_marked}
use Rattle.cbm_shell.specs.Lost.{lost_at}
use Rattle.cbm_shell.proofs.PassingLemmas.{places_on-none, places_on-more}
use Rattle.cbm_shell.proofs.broken.flaws.lost.add_track.Goals as goal

pub loop-sector-init : goal.loop-sector-init
loop-sector-init g c = places_on-none c.args.out.now.items (lost_at (g.M.Medium.seen c.args.medium.now).content (is_marked c.args.used.now) (is_marked c.args.geos.now)) c.args.track

pub loop-sector-preserved : goal.loop-sector-preserved
loop-sector-preserved g c =
    places_on-more c.args.out.now.items c.loop-sector.out.items c.add_lost.new.out.items (lost_at (g.M.Medium.seen c.args.medium.now).content (is_marked c.args.used.now) (is_marked c.args.geos.now)) c.args.track
    c.loop-sector.sector c.in-Some.at c.is_lost.result c.loop-sector.invariant c.is_lost.ensures c.in_ok-add_lost-in-Some.ensures c.in-Some.ensures.1
