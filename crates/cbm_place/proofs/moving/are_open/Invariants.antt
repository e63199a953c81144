use Rattle.std.proofs.Common.{◌≡◌, length}
use Rattle.cbm_medium.specs.Place.{directory_head}
use Rattle.cbm_bam.specs.Marks.{is_marked, nothing}
use Rattle.cbm_place.specs.Moves.{are_open}
use Rattle.cbm_place.proofs.moving.are_open.Given as goal

abbrev pub invariant-places : goal.invariant-places
invariant-places g l =
    let head = (g.M.Medium.seen l.medium).content directory_head in
    are_open l.geometry head (is_marked l.own) (is_marked l.named) l.left ≡ are_open l.geometry head (is_marked l.own) nothing l.places

abbrev pub decreases-places : goal.decreases-places
decreases-places g l = length l.left
