use Rattle.std.proofs.Common.{◌≡◌}
use Rattle.cbm_medium.specs.Place.{directory_head}
use Rattle.cbm_bam.specs.Marks.{is_marked}
use Rattle.cbm_shell.specs.Marking.{with_places}
use Rattle.cbm_shell.specs.Passing.{places_on}
use Rattle.cbm_place.specs.Moves.{is_taken}
use Rattle.cbm_place.proofs.bam.take_on.Given as goal

abbrev pub invariant-loop-sector : goal.invariant-loop-sector
invariant-loop-sector g l =
    let test = is_taken ((g.M.Medium.seen l.medium).content directory_head) (is_marked l.change.left) (is_marked l.change.claimed) in
    is_marked l.taken ≡ with_places (is_marked l.fn.taken) (places_on test l.track l.sector)
