use Rattle.std.proofs.Common.{◌≡◌, length}
use Rattle.cbm_place.specs.Carving.{written_each}
use Rattle.cbm_place.proofs.carving.write_each.Given as goal

abbrev pub invariant-places : goal.invariant-places
invariant-places g l =
    let old = g.M.Medium.seen l.initial.medium in
    let now = g.M.Medium.seen l.medium in
    (written_each l.places_left l.blocks_left now.content ≡ written_each l.places l.blocks old.content) × (now.tracks ≡ old.tracks) × (now.outside ≡ old.outside)

abbrev pub decreases-places : goal.decreases-places
decreases-places g l = length l.places_left
