use Rattle.std.proofs.Common.{◌+◌, drop}
use Rattle.std.proofs.lemmas.List.{drop_all}
use Rattle.cbm_bam.specs.Marks.{is_marked}
use Rattle.cbm_shell.proofs.MapLemmas.{one_off}
use Rattle.cbm_shell.proofs.GeosLemmas.{geos-more, geos-all}
use Rattle.cbm_shell.proofs.looking.geos.use_all_geos.Goals as goal

pub loop-entry-preserved : goal.loop-entry-preserved
loop-entry-preserved g c =
    geos-more (is_marked c.loop-entry.used) (is_marked c.use_geos.new.used) _ c.args.geometry (g.M.Medium.seen c.args.medium.now).content c.entry-item.result
    (drop (c.loop-entry.entry-index + 1) c.args.entries.now) (drop c.loop-entry.entry-index c.args.entries.now)
    (one_off c.args.entries.now c.entry-item.result c.loop-entry.entry-index c.entry-item.is c.loop-entry-test.true) c.loop-entry.invariant c.use_geos.ensures

pub returns : goal.returns
returns g c =
    geos-all (is_marked c.loop-entry.used) _ c.args.geometry (g.M.Medium.seen c.args.medium.now).content (drop c.loop-entry.entry-index c.args.entries.now)
    (drop_all c.loop-entry.entry-index c.args.entries.now c.loop-entry-test.false) c.loop-entry.invariant
