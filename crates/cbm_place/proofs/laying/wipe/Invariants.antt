use Rattle.std.proofs.Common.{◌≡◌, length}
use Rattle.cbm_bam.specs.Marks.{is_marked}
use Rattle.cbm_place.specs.Moves.{wiped}
use Rattle.cbm_place.proofs.laying.wipe.Given as goal

abbrev pub invariant-places : goal.invariant-places
invariant-places g l =
    let old = g.M.Medium.seen l.initial.medium in
    let now = g.M.Medium.seen l.medium in
    (wiped (is_marked l.claimed) l.rest now.content ≡ wiped (is_marked l.claimed) l.left old.content) × (now.tracks ≡ old.tracks) × (now.outside ≡ old.outside)

abbrev pub decreases-places : goal.decreases-places
decreases-places g l = length l.rest
