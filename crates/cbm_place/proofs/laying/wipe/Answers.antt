use Rattle.std.proofs.Common.{◌≡◌, ◌∷◌, ap, ◌∙◌, rules}
use Rattle.cbm_bam.specs.Marks.{is_marked}
use Rattle.cbm_place.specs.Moves.{wiped_at}
use Rattle.cbm_place.proofs.MoveParts.{wiped-more}
use Rattle.cbm_place.proofs.laying.wipe.Goals as goal

pub places-preserved : goal.places-preserved
places-preserved g c =
    let now = g.M.Medium.seen c.places.medium in
    let begins : c.places.rest.now ≡ c.in-Some.at.now ∷ c.in-Some.more.now = search rules in (
      wiped-more (is_marked c.args.claimed.now) c.in-Some.at.now c.places.rest.now c.in-Some.more.now now.content (g.M.Medium.seen c.wipe_one.new.medium).content _ c.places.invariant.0 begins
          (c.in_ok-wipe_one.ensures.wiped ∙ ap (λ b. wiped_at b c.in-Some.at.now now.content) c.has.ensures),
      c.wipe_one.ensures.tracks ∙ c.places.invariant.1,
      c.wipe_one.ensures.outside ∙ c.places.invariant.2,
    )
