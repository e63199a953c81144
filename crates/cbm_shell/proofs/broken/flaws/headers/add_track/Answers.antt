use Rattle.cbm_shell.proofs.FlawLemmas.{header_flaws_on-none, header_flaws_on-more}
use Rattle.cbm_shell.proofs.broken.flaws.headers.add_track.Goals as goal

pub loop-sector-init : goal.loop-sector-init
loop-sector-init g c = header_flaws_on-none c.args.out.now.items (g.M.Medium.seen c.args.medium.now).content c.args.track

pub loop-sector-preserved : goal.loop-sector-preserved
loop-sector-preserved g c =
    header_flaws_on-more c.args.out.now.items c.loop-sector.out.items c.add_header.new.out.items (g.M.Medium.seen c.args.medium.now).content c.args.track
    c.loop-sector.sector c.in-Some.at c.loop-sector.invariant c.in_ok-add_header-in-Some.ensures c.in-Some.ensures.1
