use Rattle.std.proofs.Common.{refl}
use Rattle.cbm_shell.specs.Freeing.{is_freed}
use Rattle.cbm_shell.proofs.PassingLemmas.{places_on-none, places_on-more}
use Rattle.cbm_shell.proofs.looking.freeing.add_freed_on.Goals as goal

pub loop-sector-init : goal.loop-sector-init
loop-sector-init g c = places_on-none c.args.out.now.items (is_freed (g.M.Medium.seen c.args.old.now).content (g.M.Medium.seen c.args.new.now).content) c.args.track

pub loop-sector-preserved : goal.loop-sector-preserved
loop-sector-preserved g c =
    places_on-more c.args.out.now.items c.loop-sector.out.items c.add_freed.new.out.items (is_freed (g.M.Medium.seen c.args.old.now).content (g.M.Medium.seen c.args.new.now).content)
    c.args.track c.loop-sector.sector c.in-Some.at _ c.loop-sector.invariant refl c.in_ok-add_freed-in-Some.ensures c.in-Some.ensures.1
