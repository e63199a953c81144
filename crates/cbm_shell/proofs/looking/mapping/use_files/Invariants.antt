use Rattle.std.proofs.Common.{◌≡◌, drop}
use Rattle.cbm_bam.specs.Marks.{is_marked}
use Rattle.cbm_shell.specs.Mapping.{in_files}
use Rattle.cbm_shell.specs.Marking.{with_places}
use Rattle.cbm_shell.proofs.looking.mapping.use_files.Given as goal

abbrev pub invariant-loop-entry : goal.invariant-loop-entry
invariant-loop-entry g l =
    let content = (g.M.Medium.seen l.medium).content in
    with_places (is_marked l.used) (in_files l.geometry content (drop l.entry-index l.entries)) ≡ with_places (is_marked l.fn.used) (in_files l.geometry content l.entries)
