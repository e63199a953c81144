use Rattle.std.proofs.Common.{◌≡◌, drop}
use Rattle.cbm_bam.specs.Marks.{is_marked}
use Rattle.cbm_shell.specs.Geos.{in_geos}
use Rattle.cbm_shell.specs.Marking.{with_places}
use Rattle.cbm_shell.proofs.looking.geos.use_all_geos.Given as goal

abbrev pub invariant-loop-entry : goal.invariant-loop-entry
invariant-loop-entry g l =
    let content = (g.M.Medium.seen l.medium).content in
    with_places (is_marked l.used) (in_geos l.geometry content (drop l.entry-index l.entries)) ≡ with_places (is_marked l.fn.used) (in_geos l.geometry content l.entries)
