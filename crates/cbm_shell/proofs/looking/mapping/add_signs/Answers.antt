use Rattle.cbm_bam.specs.Marks.{is_marked}
use Rattle.cbm_shell.proofs.MapLemmas.{signs-none, signs-more}
use Rattle.cbm_shell.proofs.looking.mapping.add_signs.Goals as goal

pub loop-sector-init : goal.loop-sector-init
loop-sector-init g c = signs-none c.args.out.now.items (g.M.Medium.seen c.args.medium.now).content (is_marked c.args.used.now) c.args.track

pub loop-sector-preserved : goal.loop-sector-preserved
loop-sector-preserved g c =
    signs-more c.args.out.now.items c.loop-sector.out.items c.add_sign.new.out.items (g.M.Medium.seen c.args.medium.now).content (is_marked c.args.used.now) c.args.track
    c.loop-sector.sector c.in-Some.at c.loop-sector.invariant c.in_ok-add_sign-in-Some.ensures c.in-Some.ensures.1
