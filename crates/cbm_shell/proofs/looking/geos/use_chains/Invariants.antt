use Rattle.std.proofs.Common.{◌≡◌}
use Rattle.cbm_bam.specs.Marks.{is_marked}
use Rattle.cbm_shell.specs.Geos.{chains_in}
use Rattle.cbm_shell.specs.Marking.{with_places}
use Rattle.cbm_shell.proofs.looking.geos.use_chains.Given as goal

abbrev pub invariant-loop-number : goal.invariant-loop-number
invariant-loop-number g l =
    is_marked l.used ≡ with_places (is_marked l.fn.used) (chains_in l.geometry (g.M.Medium.seen l.medium).content l.block l.number)
