use Rattle.std.proofs.Common.{rules, ◌≡◌, ◌∷◌, [], ap, refl, suc, arith, true}
use Rattle.cbm_bam.specs.Map.{with_bit}
use Rattle.cbm_bam.specs.Marks.{is_marked}
use Rattle.cbm_volume.specs.check.Claims.{unclaimed}
use Rattle.cbm_volume.specs.declared.check.unsound.Part.TheVariants.{OfDirectory}
use Rattle.cbm_volume.proofs.checked.Claiming.{is_right, unclaimed_less}
use Rattle.cbm_volume.proofs.checked.SlotSteps.{slots_step, slots_fault, slots_wrong, slots_entry}
use Rattle.cbm_volume.proofs.check.slots.check_slots.Goals as goal

pub returns-clause-ok : goal.returns-clause-ok
returns-clause-ok g c = c.loop-geometry.invariant.forth [] (is_marked c.loop-geometry.claimed) (c.loop-geometry-test.ensures.0 refl, refl)

pub returns-in_err-sector-clause-err : goal.returns-in_err-sector-clause-err
returns-in_err-sector-clause-err g c =
    let w = c.loop-geometry.invariant.faulty [] c.in_err-sector.field-0.0
    (slots_wrong c.args.geometry (g.M.Medium.seen c.args.medium.now).content (is_marked c.loop-geometry.met) (is_marked c.loop-geometry.claimed) c.in_err-sector.field-0.0 c.loop-geometry.at
    (λ z. let f = c.loop-geometry-test.ensures.1 z in cc) c.in_err-sector.ensures.wrong.0 c.in_err-sector.ensures.wrong.1) in
    search rules

pub returns-in_err-check_entries-clause-err : goal.returns-in_err-check_entries-clause-err
returns-in_err-check_entries-clause-err g c =
    let w = c.loop-geometry.invariant.faulty [] c.in_err-check_entries.field-0.0
    (slots_entry c.args.geometry (g.M.Medium.seen c.args.medium.now).content (is_marked c.loop-geometry.met) (is_marked c.loop-geometry.claimed) c.in_err-check_entries.field-0.0 c.loop-geometry.at c.in_ok-sector.sector
    c.in_ok-sector.ensures.none c.in_ok-sector.ensures.read c.in_err-check_entries.ensures.err) in
    search rules

pub loop-geometry-smaller : goal.loop-geometry-smaller
loop-geometry-smaller g c =
    let r = is_right OfDirectory c.args.geometry (g.M.Medium.seen c.args.medium.now).content (is_marked c.loop-geometry.met) c.loop-geometry.at c.in_ok-sector.ensures.none in
    let less : unclaimed OfDirectory (is_marked c.loop-geometry.met) ≡ suc (unclaimed OfDirectory (with_bit (is_marked c.loop-geometry.met) c.loop-geometry.at true))
    = unclaimed_less OfDirectory c.args.geometry (is_marked c.loop-geometry.met) c.loop-geometry.at r.inside r.fresh in
    let same : unclaimed OfDirectory (is_marked c.claim.new.claimed) ≡ unclaimed OfDirectory (with_bit (is_marked c.loop-geometry.met) c.loop-geometry.at true) = ap (unclaimed OfDirectory) c.in_ok-sector.ensures.claimed in
    omega arith

pub loop-geometry-preserved : goal.loop-geometry-preserved
loop-geometry-preserved g c = record {
  forth = λ blocks after w. c.loop-geometry.invariant.forth (c.loop-geometry.at ∷ blocks) after
      (slots_step c.args.geometry (g.M.Medium.seen c.args.medium.now).content (is_marked c.loop-geometry.met) (is_marked c.claim.new.claimed) (is_marked c.loop-geometry.claimed) (is_marked c.check_entries.new.claimed) after c.loop-geometry.at c.of-at.result c.in_ok-sector.sector blocks
      c.in_ok-sector.ensures.none c.in_ok-sector.ensures.claimed c.in_ok-sector.ensures.read c.of-at.ensures c.in_ok-check_entries.ensures.ok w);
  faulty = λ blocks u w. c.loop-geometry.invariant.faulty (c.loop-geometry.at ∷ blocks) u
      (slots_fault c.args.geometry (g.M.Medium.seen c.args.medium.now).content (is_marked c.loop-geometry.met) (is_marked c.claim.new.claimed) (is_marked c.loop-geometry.claimed) (is_marked c.check_entries.new.claimed) u c.loop-geometry.at c.of-at.result c.in_ok-sector.sector blocks
      c.in_ok-sector.ensures.none c.in_ok-sector.ensures.claimed c.in_ok-sector.ensures.read c.of-at.ensures c.in_ok-check_entries.ensures.ok w);
}
