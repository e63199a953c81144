use Rattle.std.proofs.Common.{◌≡◌, ◌-◌, ◌+◌, ◌≤◌, ℕ, suc, false, IsOk, Ok, Err, refl, sym, ap, ◌∙◌, subst, arith, inl, inr}
use Rattle.std.specs.Prelude.{SomeIff}
use Rattle.cbm_medium.specs.Place.{Place, Has}
use Rattle.cbm_medium.specs.Content.{Cell, Content}
use Rattle.cbm_medium.specs.Links.{link, bytes_at}
use Rattle.cbm_bam.specs.Marks.{is_marked}
use Rattle.cbm_bam.proofs.Rings.{at_some}
use Rattle.cbm_chain.proofs.Linked.{named}
use Rattle.cbm_volume.specs.Loose.{IsOnLinks}
use Rattle.cbm_volume.proofs.checked.Claiming.{link_read}
use Rattle.cbm_volume.proofs.loosened.Linked.{off_nothing, off_unread, off_step, off_end, on_here, on_step, marked_more, unmarked}
use Rattle.cbm_volume.proofs.loose.sparing.insert_linked.Goals as goal

-- no sector is left
pub returns-clause-off : goal.returns-clause-off
returns-clause-off g c = λ p free.
    let none : c.args.most - c.loop-passed.passed ≡ 0 = omega (arith, c.loop-passed-test.false) in
    c.loop-passed.invariant.off p free (off_end c.args.geometry (g.M.Medium.seen c.args.medium.now).content c.loop-passed.at p (c.args.most - c.loop-passed.passed) none)

-- the link names no sector
pub returns-in_default-clause-off : goal.returns-in_default-clause-off
returns-in_default-clause-off g c = λ p free.
    let none = subst (λ r. SomeIff r (Has c.args.geometry c.loop-passed.at) c.loop-passed.at) c.in_default.is c.address.ensures in
    c.loop-passed.invariant.off p free (λ blocks h few. off_nothing c.args.geometry (g.M.Medium.seen c.args.medium.now).content c.loop-passed.at p none blocks h)

-- the sector doesn't read
pub returns-in_default-read-clause-off : goal.returns-in_default-read-clause-off
returns-in_default-read-clause-off g c = λ p free.
    let content : Content = (g.M.Medium.seen c.args.medium.now).content in
    let at : c.in-Some.address ≡ c.loop-passed.at = at_some c.address.result _ c.loop-passed.at c.in-Some.address c.address.ensures c.in-Some.is in
    let x = unmarked (is_marked c.loop-passed.set) c.in-Some.address p (ap (λ f. f p) (sym c.insert.ensures) ∙ free) in
    let fault : content c.loop-passed.at ≡ Err c.in_default-read.field-0.code = ap content (sym at) ∙ c.in_default-read.ensures.err.0 in
    c.loop-passed.invariant.off p x.1 (λ blocks h few. off_unread c.args.geometry content c.loop-passed.at p (λ e. x.0 (e ∙ sym at)) (λ ok. (let z = subst (λ (y : Cell). IsOk y) fault ok in (cc))) blocks h)

pub returns-in_default-read-clause-only : goal.returns-in_default-read-clause-only
returns-in_default-read-clause-only g c = λ p marked.
    let content : Content = (g.M.Medium.seen c.args.medium.now).content in
    let at : c.in-Some.address ≡ c.loop-passed.at = at_some c.address.result _ c.loop-passed.at c.in-Some.address c.address.ensures c.in-Some.is in
    let has : Has c.args.geometry c.loop-passed.at = named c.address.result _ c.loop-passed.at c.in-Some.address c.address.ensures c.in-Some.is in
    let some : 1 ≤ c.args.most - c.loop-passed.passed = omega (arith, c.loop-passed-test.true) in
    elim (marked_more (is_marked c.loop-passed.set) c.in-Some.address p (ap (λ f. f p) (sym c.insert.ensures) ∙ marked)) [
      | inl e ↦ inr (c.loop-passed.invariant.on p (subst (λ (q : Place). IsOnLinks c.args.geometry content (c.args.most - c.loop-passed.passed) c.loop-passed.at q) (sym at ∙ e)
          (on_here c.args.geometry content (c.args.most - c.loop-passed.passed) c.loop-passed.at has some)))
      | inr was ↦ c.loop-passed.invariant.only p was
    ]

pub loop-passed-preserved : goal.loop-passed-preserved
loop-passed-preserved g c =
    let content : Content = (g.M.Medium.seen c.args.medium.now).content in
    let n : ℕ = c.args.most - (c.loop-passed.passed + 1) in
    let one : c.args.most - c.loop-passed.passed ≡ suc n = omega (arith, c.loop-passed-test.true) in
    let at : c.in-Some.address ≡ c.loop-passed.at = at_some c.address.result _ c.loop-passed.at c.in-Some.address c.address.ensures c.in-Some.is in
    let has : Has c.args.geometry c.loop-passed.at = named c.address.result _ c.loop-passed.at c.in-Some.address c.address.ensures c.in-Some.is in
    let reads : content c.loop-passed.at ≡ Ok c.in-Ok.bytes = ap content (sym at) ∙ c.in-Ok.ensures.ok in
    let to : c.of-at.result ≡ link (bytes_at content c.loop-passed.at) = sym (link_read content c.loop-passed.at c.of-at.result c.in-Ok.bytes reads c.of-at.ensures) in
    let ok : IsOk (content c.loop-passed.at) = subst (λ (y : Cell). IsOk y) (sym reads) refl in
    let free = λ (p : Place) (e : is_marked c.insert.new.self p ≡ false). unmarked (is_marked c.loop-passed.set) c.in-Some.address p (ap (λ f. f p) (sym c.insert.ensures) ∙ e) in
    let on = λ (p : Place) (h : IsOnLinks c.args.geometry content n c.of-at.result p).
    c.loop-passed.invariant.on p (subst (λ (m : ℕ). IsOnLinks c.args.geometry content m c.loop-passed.at p) (sym one) (on_step c.args.geometry content n c.loop-passed.at p c.of-at.result has ok to h)) in
    record {
      off = λ p e off. c.loop-passed.invariant.off p (free p e).1
          (λ blocks h few. off_step c.args.geometry content n c.loop-passed.at p c.of-at.result (λ z. (free p e).0 (z ∙ sym at)) to off blocks h (omega (arith, few, one)));
      keeps = λ p e. c.loop-passed.invariant.keeps p (free p e).1;
      on = on;
      only = λ p marked. elim (marked_more (is_marked c.loop-passed.set) c.in-Some.address p (ap (λ f. f p) (sym c.insert.ensures) ∙ marked)) [
        | inl e ↦ inr (c.loop-passed.invariant.on p (subst (λ (q : Place). IsOnLinks c.args.geometry content (c.args.most - c.loop-passed.passed) c.loop-passed.at q) (sym at ∙ e)
            (on_here c.args.geometry content (c.args.most - c.loop-passed.passed) c.loop-passed.at has (omega (arith, c.loop-passed-test.true)))))
        | inr was ↦ c.loop-passed.invariant.only p was
      ];
    }
