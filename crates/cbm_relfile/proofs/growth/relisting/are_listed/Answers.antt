use Rattle.std.proofs.Common.{◌≡◌, ℕ, ◌+◌, ◌*◌, ◌<◌, Ok, refl, List, length, get_or, take, drop, sym, ap, subst, ◌∙◌, arith, inl, inr}
use Rattle.std.proofs.lemmas.Bool.{cases_eq}
use Rattle.std.proofs.lemmas.List.{drop-drop}
use Rattle.std.specs.Prelude.{slice_index_or}
use Rattle.cbm_medium.specs.Place.{Place, directory_head}
use Rattle.cbm_medium.specs.Content.{Content}
use Rattle.cbm_medium.specs.Links.{Chain, bytes_at, or_nothing}
use Rattle.cbm_relfile.specs.SideSectors.{named_in}
use Rattle.cbm_relfile.specs.Relisting.{lists_at}
use Rattle.cbm_relfile.proofs.Relisted.{sides_read_on, both_true, true_both, side_there, listed_one, same_bytes}
use Rattle.cbm_relfile.proofs.growth.relisting.are_listed.Goals as goal

pub loop-number-init : goal.loop-number-init
loop-number-init g c = (
  λ file xs ss laid first names l. (
    λ yes i k. absurd (omega (arith, k)),
    (let z : 0 ≡ 120 * 0 = omega arith in subst (λ (m : ℕ). Chain c.args.geometry (g.M.Medium.seen c.args.medium.now).content c.args.first (drop m xs)) z (subst (λ (p : Place). Chain c.args.geometry (g.M.Medium.seen c.args.medium.now).content p xs) (sym first) laid.chain)),
    λ form. refl,
  ),
  λ i k. absurd (omega (arith, k)),
)

-- a side sector reads
pub returns-in_err-side-clause-listed : goal.returns-in_err-side-clause-listed
returns-in_err-side-clause-listed g c = λ file xs ss laid first names l.
    let there = side_there c.args.geometry (g.M.Medium.seen c.args.medium.now).content file xs ss c.loop-number.number c.args.head.now c.side_named.result laid names (omega (arith, l, c.loop-number-test.true)) c.side_named.ensures in
    let ok = c.in_err-side.ensures.readable there.1 there.2 in
    absurd (cc)

-- and so do the blocks of the chain
pub returns-in_err-new-clause-listed : goal.returns-in_err-new-clause-listed
returns-in_err-new-clause-listed g c = λ file xs ss laid first names l.
    absurd (c.in_err-new.ensures.chain (drop (120 * c.loop-number.number) xs) (c.loop-number.invariant.0 file xs ss laid first names l).1)

pub loop-number-preserved : goal.loop-number-preserved
loop-number-preserved g c = (
  λ file xs ss laid first names l.
      let now : Content = (g.M.Medium.seen c.args.medium.now).content in
      let n : ℕ = c.loop-number.number in
      let h = c.loop-number.invariant.0 file xs ss laid first names l in
      let there = side_there c.args.geometry now file xs ss n c.args.head.now c.side_named.result laid names (omega (arith, l, c.loop-number-test.true)) c.side_named.ensures in
      let r = c.in_ok-new.ensures.chain (drop (120 * n) xs) h.1 in (
        λ yes i k. elim (cases_eq i n) [
          | inl e ↦ ap (lists_at now ss) e ∙ listed_one now ss xs n c.side_named.result c.in_ok-side.side c.in_ok-new.new there.0 c.in_ok-side.ensures.ok (c.is_same_list-same.ensures.tells (both_true c.loop-number.same c.is_same_list-same.result yes).1) r.0 ∙ ap (λ (m : ℕ). take 120 (drop (120 * m) xs)) (sym e)
          | inr ne ↦ h.0 (both_true c.loop-number.same c.is_same_list-same.result yes).0 i (omega (arith, k, ne))
        ],
        subst (λ (ys : List Place). Chain c.args.geometry now c.in_ok-new.next ys) (drop-drop 120 (120 * n) xs ∙ (let e : 120 * n + 120 ≡ 120 * (n + 1) = omega arith in ap (λ (k : ℕ). drop k xs) e)) r.1,
        λ form.
            let within : n < length ss = omega (arith, l, c.loop-number-test.true) in
            let was : bytes_at now (slice_index_or ss n directory_head) ≡ c.in_ok-side.side = ap (λ (p : Place). bytes_at now p) there.0 ∙ ap or_nothing c.in_ok-side.ensures.ok in
            let right = c.is_same_list-same.ensures.same (λ i low high. same_bytes c.in_ok-new.new c.in_ok-side.side (take 120 (drop (120 * n) xs)) r.0.lists
            (ap (λ (ys : List ℕ). named_in 120 (drop 16 ys)) (sym was) ∙ form.listed n within) r.0.zeros (λ j k. ap (λ (ys : List ℕ). get_or ys j 0) (sym was) ∙ form.zeros n within j k) i low) in
            true_both c.loop-number.same c.is_same_list-same.result (h.2 form) right,
      ),
  sides_read_on (g.M.Medium.seen c.args.medium.now).content c.args.head.now c.loop-number.number c.side_named.result c.in_ok-side.side c.loop-number.invariant.1 c.side_named.ensures c.in_ok-side.ensures.ok,
)

pub returns-clause-listed : goal.returns-clause-listed
returns-clause-listed g c = λ file xs ss laid first names l.
    λ yes i k. (c.loop-number.invariant.0 file xs ss laid first names l).0 yes i (omega (arith, c.loop-number-test.false, l, k))

-- a side sector and the blocks of the chain read
pub returns-in_err-side-clause-form : goal.returns-in_err-side-clause-form
returns-in_err-side-clause-form g c = λ file xs ss laid first names l form.
    let there = side_there c.args.geometry (g.M.Medium.seen c.args.medium.now).content file xs ss c.loop-number.number c.args.head.now c.side_named.result laid names (omega (arith, l, c.loop-number-test.true)) c.side_named.ensures in
    let ok = c.in_err-side.ensures.readable there.1 there.2 in
    absurd (cc)

pub returns-in_err-new-clause-form : goal.returns-in_err-new-clause-form
returns-in_err-new-clause-form g c = λ file xs ss laid first names l form.
    absurd (c.in_err-new.ensures.chain (drop (120 * c.loop-number.number) xs) (c.loop-number.invariant.0 file xs ss laid first names l).1)

pub returns-clause-reads : goal.returns-clause-reads
returns-clause-reads g c = λ i k. c.loop-number.invariant.1 i (omega (arith, c.loop-number-test.false, k))

pub returns-clause-form : goal.returns-clause-form
returns-clause-form g c = λ file xs ss laid first names l form. ap Ok ((c.loop-number.invariant.0 file xs ss laid first names l).2 form)
