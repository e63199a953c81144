use Rattle.std.proofs.Common.{◌≡◌, ◌∷◌, ◌∙◌, rules}
use Rattle.cbm_place.proofs.MoveParts.{written-more}
use Rattle.cbm_place.proofs.carving.write_each.Goals as goal

pub places-preserved : goal.places-preserved
places-preserved g c =
    let now = g.M.Medium.seen c.places.medium in
    let begins : c.places.places_left.now ≡ c.in-Some.at.now ∷ c.in-Some.rest.now = search rules in
    let first : c.places.blocks_left.now ≡ c.in-Some-split_first.block.now ∷ c.in-Some-split_first.more.now = search rules in (
      written-more c.places.places_left.now c.in-Some.rest.now c.places.blocks_left.now c.in-Some-split_first.more.now c.in-Some.at.now c.in-Some-split_first.block.now
          now.content (g.M.Medium.seen c.write.new.medium).content _ c.places.invariant.0 begins first c.in_ok-write.ensures.written,
      c.write.ensures.tracks ∙ c.places.invariant.1,
      c.write.ensures.outside ∙ c.places.invariant.2,
    )
