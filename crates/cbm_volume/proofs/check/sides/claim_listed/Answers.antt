use Rattle.std.proofs.Common.{rules, ◌≡◌, ◌+◌, ◌-◌, ◌*◌, List, [], ℕ, drop, refl, sym, ap, subst, ◌∙◌, arith}
use Rattle.cbm_medium.specs.Place.{Place}
use Rattle.cbm_relfile.specs.SideSectors.{named_in}
use Rattle.cbm_bam.specs.Marks.{is_marked}
use Rattle.cbm_volume.specs.check.SideLists.{ClaimsEach}
use Rattle.cbm_volume.specs.declared.check.unsound.Part.TheVariants.{OfFile}
use Rattle.cbm_volume.proofs.checked.SidesListed.{sides_none, sides_some, each_step, among_step, among_here}
use Rattle.cbm_volume.proofs.check.sides.claim_listed.Goals as goal

pub returns-then-is_end-clause-ok : goal.returns-then-is_end-clause-ok
returns-then-is_end-clause-ok g c =
    let zero = ap (λ (p : Place). p.track) (sym c.new-at.ensures) ∙ c.if-is_end.ensures.0 refl in
    c.loop-number.invariant.forth (is_marked c.loop-number.claimed)
    (subst (λ (xs : List Place). ClaimsEach OfFile c.args.geometry (g.M.Medium.seen c.args.medium.now).content (is_marked c.loop-number.claimed) xs (is_marked c.loop-number.claimed))
    (sym (sides_none c.loop-number.number c.args.first.now c.loop-number-test.true zero)) refl)

pub returns-in_err-claim-clause-err : goal.returns-in_err-claim-clause-err
returns-in_err-claim-clause-err g c =
    let named = sides_some c.loop-number.number c.args.first.now c.new-at.result c.loop-number-test.true c.new-at.ensures (λ z. let f = c.if-is_end.ensures.1 z in cc) in
    let w = c.loop-number.invariant.faulty c.in_err-claim.field-0.0
    (among_here OfFile c.args.geometry (g.M.Medium.seen c.args.medium.now).content (is_marked c.loop-number.claimed) c.in_err-claim.field-0.0 c.new-at.result
    (named_in (6 - c.loop-number.number) (drop (4 + 2 * c.loop-number.number) c.args.first.now)) (named_in (6 - (c.loop-number.number + 1)) (drop (4 + 2 * (c.loop-number.number + 1)) c.args.first.now)) named
    c.in_err-claim.ensures.wrong.0 c.in_err-claim.ensures.wrong.1) in
    search rules

pub loop-number-preserved : goal.loop-number-preserved
loop-number-preserved g c =
    let named = sides_some c.loop-number.number c.args.first.now c.new-at.result c.loop-number-test.true c.new-at.ensures (λ z. let f = c.if-is_end.ensures.1 z in cc) in
    let whole : List Place = named_in (6 - c.loop-number.number) (drop (4 + 2 * c.loop-number.number) c.args.first.now) in
    let rest : List Place = named_in (6 - (c.loop-number.number + 1)) (drop (4 + 2 * (c.loop-number.number + 1)) c.args.first.now) in record {
      forth = λ after w. c.loop-number.invariant.forth after (each_step OfFile c.args.geometry (g.M.Medium.seen c.args.medium.now).content (is_marked c.loop-number.claimed) (is_marked c.claim.new.claimed) after c.new-at.result whole rest named c.in_ok-claim.ensures.none c.in_ok-claim.ensures.claimed w);
      faulty = λ u w. c.loop-number.invariant.faulty u (among_step OfFile c.args.geometry (g.M.Medium.seen c.args.medium.now).content (is_marked c.loop-number.claimed) (is_marked c.claim.new.claimed) u c.new-at.result whole rest named c.in_ok-claim.ensures.none c.in_ok-claim.ensures.claimed w);
    }

pub returns-clause-ok : goal.returns-clause-ok
returns-clause-ok g c =
    let end : 6 - c.loop-number.number ≡ 0 = omega (arith, c.loop-number-test.false) in
    let none : named_in (6 - c.loop-number.number) (drop (4 + 2 * c.loop-number.number) c.args.first.now) ≡ [] = ap (λ (m : ℕ). named_in m (drop (4 + 2 * c.loop-number.number) c.args.first.now)) end in
    c.loop-number.invariant.forth (is_marked c.loop-number.claimed)
    (subst (λ (xs : List Place). ClaimsEach OfFile c.args.geometry (g.M.Medium.seen c.args.medium.now).content (is_marked c.loop-number.claimed) xs (is_marked c.loop-number.claimed)) (sym none) refl)
