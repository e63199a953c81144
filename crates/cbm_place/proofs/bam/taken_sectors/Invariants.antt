use Rattle.std.proofs.Common.{◌≡◌}
use Rattle.cbm_medium.specs.Place.{directory_head}
use Rattle.cbm_bam.specs.Marks.{is_marked, nothing}
use Rattle.cbm_shell.specs.Marking.{with_places}
use Rattle.cbm_shell.specs.Passing.{places_in}
use Rattle.cbm_place.specs.Moves.{is_taken}
use Rattle.cbm_place.proofs.bam.taken_sectors.Given as goal

abbrev pub invariant-loop-track : goal.invariant-loop-track
invariant-loop-track g l =
    let test = is_taken ((g.M.Medium.seen l.medium).content directory_head) (is_marked l.change.left) (is_marked l.change.claimed) in
    is_marked l.taken ≡ with_places nothing (places_in test l.track)
