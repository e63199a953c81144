use Rattle.std.proofs.Common.{◌≡◌, drop}
use Rattle.cbm_bam.specs.Marks.{is_marked}
use Rattle.cbm_shell.specs.Marking.{with_places}
use Rattle.cbm_odd.specs.Held.{reached_by}
use Rattle.cbm_odd.proofs.held.reach_each.Given as goal

abbrev pub invariant-loop-odd : goal.invariant-loop-odd
invariant-loop-odd g l =
    let content = (g.M.Medium.seen l.medium).content in
    with_places (is_marked l.reached) (reached_by l.geometry content (drop l.odd-index l.odds)) ≡ with_places (is_marked l.fn.reached) (reached_by l.geometry content l.odds)
