use Rattle.std.proofs.Common.{◌≡◌, ◌++◌}
use Rattle.cbm_medium.specs.Place.{directory_head}
use Rattle.cbm_bam.specs.Marks.{is_marked}
use Rattle.cbm_shell.specs.Passing.{places_on}
use Rattle.cbm_odd.specs.Marking.{is_taken_now}
use Rattle.cbm_odd.proofs.marking.add_taken.Given as goal

abbrev pub invariant-loop-sector : goal.invariant-loop-sector
invariant-loop-sector g l =
    let head = (g.M.Medium.seen l.medium).content directory_head in
    l.out.items ≡ l.fn.out.items ++ places_on (is_taken_now head (is_marked l.more) (is_marked l.less)) l.track l.sector
