use Rattle.std.proofs.Common.{ℕ, ◌+◌, ◌*◌, List, set, refl, sym, subst, ◌∙◌, arith}
use Rattle.cbm_medium.specs.Content.{Content}
use Rattle.cbm_relfile.proofs.Relisted.{Listing, one_set, listing_begins, ahead, listing_more, listing_ends, listing_full}
use Rattle.cbm_relfile.proofs.growth.relisting.listed_from.Goals as goal

pub loop-number-init : goal.loop-number-init
loop-number-init g c = (
  c.cut_at-new.ensures.whole,
  λ i l. c.cut_at-new.ensures.front i l,
  λ i l. c.cut_at-new.ensures.zeros i (omega (arith, l)),
  λ blocks h. listing_begins c.args.geometry (g.M.Medium.seen c.args.medium.now).content blocks c.cut_at-new.result c.args.first h,
)

-- the chain ends
pub returns-then-is_end-clause-chain : goal.returns-then-is_end-clause-chain
returns-then-is_end-clause-chain g c = λ blocks h.
    let i = c.loop-number.invariant in
    listing_ends c.args.geometry (g.M.Medium.seen c.args.medium.now).content blocks c.loop-number.number c.args.side.now c.loop-number.new c.ended.result c.loop-number.at (i.3 blocks h) c.loop-number-test.true (c.if-is_end.ensures.0 refl)
    c.ended.ensures.whole c.ended.ensures.ended c.ended.ensures.rest i.1 i.2

-- the next block reads
pub returns-in_err-bytes-clause-chain : goal.returns-in_err-bytes-clause-chain
returns-in_err-bytes-clause-chain g c = λ blocks h.
    let a = ahead c.args.geometry (g.M.Medium.seen c.args.medium.now).content blocks c.loop-number.number c.loop-number.at (c.loop-number.invariant.3 blocks h).chain (λ z. let f = c.if-is_end.ensures.1 z in cc) in
    let ok = c.in_err-bytes.ensures.readable a.has a.reads in
    absurd (cc)

pub loop-number-preserved : goal.loop-number-preserved
loop-number-preserved g c =
    let i = c.loop-number.invariant in
    let now : Content = (g.M.Medium.seen c.args.medium.now).content in
    let n : ℕ = c.loop-number.number in
    let new : List ℕ = c.loop-number.new in
    let s = one_set new n c.track.result c.sector.result in (
      s.size ∙ i.0,
      λ j l. s.before j (omega (arith, l)) ∙ i.1 j l,
      λ j l. s.afterwards j l ∙ i.2 j (omega (arith, l)),
      λ blocks h. subst (λ (a : ℕ). Listing c.args.geometry now blocks (n + 1) (set (set new (16 + 2 * n) a) (16 + 2 * n + 1) c.sector.result) c.of-at.result) (sym c.track.ensures)
          (subst (λ (b : ℕ). Listing c.args.geometry now blocks (n + 1) (set (set new (16 + 2 * n) c.loop-number.at.track) (16 + 2 * n + 1) b) c.of-at.result) (sym c.sector.ensures)
          (listing_more c.args.geometry now blocks n new c.loop-number.at c.of-at.result c.in_ok-bytes.bytes i.0 c.loop-number-test.true (i.3 blocks h) (λ z. let f = c.if-is_end.ensures.1 z in cc) c.in_ok-bytes.ensures.ok c.of-at.ensures)),
    )

-- the side sector is full
pub returns-clause-chain : goal.returns-clause-chain
returns-clause-chain g c = λ blocks h.
    let i = c.loop-number.invariant in
    listing_full c.args.geometry (g.M.Medium.seen c.args.medium.now).content blocks c.loop-number.number c.args.side.now c.loop-number.new c.ended-2.result c.loop-number.at (i.3 blocks h) (omega (arith, c.loop-number-test.false, c.loop-number.auto.number-end))
    c.ended-2.ensures.whole c.ended-2.ensures.ended c.ended-2.ensures.rest i.1 i.2

-- what stands before the list stays
pub returns-then-is_end-clause-front : goal.returns-then-is_end-clause-front
returns-then-is_end-clause-front g c = λ i l m. c.ended.ensures.rest i l ∙ c.loop-number.invariant.1 i m

pub returns-clause-front : goal.returns-clause-front
returns-clause-front g c = λ i l m. c.ended-2.ensures.rest i l ∙ c.loop-number.invariant.1 i m
