use Rattle.std.proofs.Common.{rules, ◌≡◌, ◌∷◌, [], ap, refl, suc, arith, true}
use Rattle.cbm_bam.specs.Map.{with_bit}
use Rattle.cbm_bam.specs.Marks.{is_marked}
use Rattle.cbm_volume.specs.check.Claims.{unclaimed}
use Rattle.cbm_volume.proofs.checked.Claiming.{is_right, unclaimed_less, claims_step, meets_step, link_read}
use Rattle.cbm_volume.proofs.check.claims.claim_chain.Goals as goal

pub returns-clause-ok : goal.returns-clause-ok
returns-clause-ok g c = c.loop-geometry.invariant.forth [] (is_marked c.loop-geometry.claimed) (c.loop-geometry-test.ensures.0 refl, refl)

pub returns-in_err-bytes-clause-err : goal.returns-in_err-bytes-clause-err
returns-in_err-bytes-clause-err g c = let w = c.loop-geometry.invariant.faulty [] c.in_err-bytes.field-0.0 ((λ z. let f = c.loop-geometry-test.ensures.1 z in cc), c.in_err-bytes.ensures.wrong.0, c.in_err-bytes.ensures.wrong.1) in search rules

pub loop-geometry-smaller : goal.loop-geometry-smaller
loop-geometry-smaller g c =
    let r = is_right c.args.part c.args.geometry (g.M.Medium.seen c.args.medium.now).content (is_marked c.loop-geometry.claimed) c.loop-geometry.at c.in_ok-bytes.ensures.none in
    let less : unclaimed c.args.part (is_marked c.loop-geometry.claimed) ≡ suc (unclaimed c.args.part (with_bit (is_marked c.loop-geometry.claimed) c.loop-geometry.at true))
    = unclaimed_less c.args.part c.args.geometry (is_marked c.loop-geometry.claimed) c.loop-geometry.at r.inside r.fresh in
    let same : unclaimed c.args.part (is_marked c.claim.new.claimed) ≡ unclaimed c.args.part (with_bit (is_marked c.loop-geometry.claimed) c.loop-geometry.at true) = ap (unclaimed c.args.part) c.in_ok-bytes.ensures.claimed in
    omega arith

pub loop-geometry-preserved : goal.loop-geometry-preserved
loop-geometry-preserved g c = record {
  forth = λ blocks after w. c.loop-geometry.invariant.forth (c.loop-geometry.at ∷ blocks) after
      (claims_step c.args.part c.args.geometry (g.M.Medium.seen c.args.medium.now).content (is_marked c.loop-geometry.claimed) (is_marked c.claim.new.claimed) after c.loop-geometry.at c.of-at.result blocks c.in_ok-bytes.ensures.none c.in_ok-bytes.ensures.claimed (link_read (g.M.Medium.seen c.args.medium.now).content c.loop-geometry.at c.of-at.result c.in_ok-bytes.bytes c.in_ok-bytes.ensures.read c.of-at.ensures) w);
  faulty = λ blocks u w. c.loop-geometry.invariant.faulty (c.loop-geometry.at ∷ blocks) u
      (meets_step c.args.part c.args.geometry (g.M.Medium.seen c.args.medium.now).content (is_marked c.loop-geometry.claimed) (is_marked c.claim.new.claimed) u c.loop-geometry.at c.of-at.result blocks c.in_ok-bytes.ensures.none c.in_ok-bytes.ensures.claimed (link_read (g.M.Medium.seen c.args.medium.now).content c.loop-geometry.at c.of-at.result c.in_ok-bytes.bytes c.in_ok-bytes.ensures.read c.of-at.ensures) w);
}
