use Rattle.std.proofs.Common.{◌≡◌, length}
use Rattle.cbm_place.specs.Moves.{laid_out}
use Rattle.cbm_place.proofs.laying.lay.Given as goal

abbrev pub invariant-places : goal.invariant-places
invariant-places g l =
    let old = g.M.Medium.seen l.initial.medium in
    let now = g.M.Medium.seen l.medium in
    (laid_out l.places_left l.blocks_left now.content ≡ laid_out l.places l.blocks old.content) × (now.tracks ≡ old.tracks) × (now.outside ≡ old.outside)

abbrev pub decreases-places : goal.decreases-places
decreases-places g l = length l.places_left
