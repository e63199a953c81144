use Rattle.cbm_medium.specs.Place.{directory_head}
use Rattle.cbm_bam.specs.Marks.{is_marked}
use Rattle.cbm_shell.proofs.PassingLemmas.{places_on-none, places_on-more}
use Rattle.cbm_odd.specs.Marking.{is_taken_now}
use Rattle.cbm_odd.proofs.marking.add_taken.Goals as goal

pub loop-sector-init : goal.loop-sector-init
loop-sector-init g c =
    places_on-none c.args.out.now.items (is_taken_now ((g.M.Medium.seen c.args.medium.now).content directory_head) (is_marked c.args.more.now) (is_marked c.args.less.now)) c.args.track

pub loop-sector-preserved : goal.loop-sector-preserved
loop-sector-preserved g c =
    places_on-more c.args.out.now.items c.loop-sector.out.items c.add_held.new.out.items
    (is_taken_now ((g.M.Medium.seen c.args.medium.now).content directory_head) (is_marked c.args.more.now) (is_marked c.args.less.now)) c.args.track
    c.loop-sector.sector c.in-Some.at c.is_taken_now.result c.loop-sector.invariant c.is_taken_now.ensures c.in_ok-add_held-in-Some.ensures c.in-Some.ensures.1
