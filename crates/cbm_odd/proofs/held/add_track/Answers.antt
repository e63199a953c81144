use Rattle.cbm_bam.specs.Marks.{is_marked}
use Rattle.cbm_shell.proofs.PassingLemmas.{places_on-none, places_on-more}
use Rattle.cbm_odd.specs.Held.{is_only_in}
use Rattle.cbm_odd.proofs.held.add_track.Goals as goal

pub loop-sector-init : goal.loop-sector-init
loop-sector-init c = places_on-none c.args.out.now.items (is_only_in (is_marked c.args.reached.now) (is_marked c.args.own.now)) c.args.track

pub loop-sector-preserved : goal.loop-sector-preserved
loop-sector-preserved c =
    places_on-more c.args.out.now.items c.loop-sector.out.items c.add_held.new.out.items (is_only_in (is_marked c.args.reached.now) (is_marked c.args.own.now)) c.args.track
    c.loop-sector.sector c.in-Some.at c.is_only_in.result c.loop-sector.invariant c.is_only_in.ensures c.in_ok-add_held-in-Some.ensures c.in-Some.ensures.1
