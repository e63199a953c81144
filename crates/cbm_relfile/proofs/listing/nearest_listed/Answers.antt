use Rattle.std.proofs.Common.{◌≡◌, ℕ, List, refl, sym, ap, ◌∙◌, subst, arith, inl}
use Rattle.std.specs.Prelude.{IsOk}
use Rattle.cbm_medium.specs.Place.{Place, Has}
use Rattle.cbm_medium.proofs.Reached.{one_of, meets_on}
use Rattle.cbm_relfile.specs.OfFile.{IsSide}
use Rattle.cbm_relfile.specs.SideSectors.{sides_listed, Numbered}
use Rattle.cbm_relfile.specs.declared.listing.Near.{Near}
use Rattle.cbm_relfile.proofs.Listed.{Nearing, near_begins, near_next, sides_next, reading_begins, reading_next, next_numbered, found_none, found_here, found_ends, looked_up, same_ok}
use Rattle.cbm_relfile.proofs.FilePlaces.{side_listed, block_listed, last_listed}
use Rattle.cbm_relfile.proofs.listing.nearest_listed.Goals as goal

pub loop-n-init : goal.loop-n-init
loop-n-init g c = record {
  nearing = subst (λ (p : Place). Nearing (g.M.Medium.seen c.args.medium.now).content c.args.file.first c.in_ok-head.head 0 c.args.number c.args.number p c.args.number) (sym c.first.ensures) (near_begins (g.M.Medium.seen c.args.medium.now).content c.args.file.first c.in_ok-head.head c.args.number);
  reading = reading_begins c.args.geometry (g.M.Medium.seen c.args.medium.now).content c.args.file.width c.in_ok-head.head c.args.number;
  place = inl c.first.ensures;
}

-- no side sector is left
pub returns-then-is_end-clause-looked : goal.returns-then-is_end-clause-looked
returns-then-is_end-clause-looked g c =
    looked_up c.args.geometry (g.M.Medium.seen c.args.medium.now).content c.args.file c.side-first.result c.in_ok-head.head c.args.number c.loop-n.near.at c.loop-n.near.left c.side-first.ensures c.in_ok-head.ensures.ok c.loop-n.invariant.place
    (found_none c.args.geometry (g.M.Medium.seen c.args.medium.now).content c.args.file.width c.args.file.first c.in_ok-head.head c.loop-n.n c.loop-n.left c.args.number c.loop-n.near.at c.loop-n.near.left c.loop-n.invariant.nearing c.loop-n.invariant.reading c.loop-n-test.true (ap (λ (p : Place). p.track) (sym c.new-at.ensures) ∙ c.if-is_end.ensures.0 refl))

-- the next one reads
pub returns-in_err-side-clause-goes : goal.returns-in_err-side-clause-goes
returns-in_err-side-clause-goes g c = λ head has at num.
    let same : c.in_ok-head.head ≡ head = same_ok c.in_ok-head.head head (sym c.in_ok-head.ensures.ok ∙ ap (g.M.Medium.seen c.args.medium.now).content c.side-first.ensures ∙ at) in
    let next = next_numbered c.args.geometry (g.M.Medium.seen c.args.medium.now).content c.args.file.width c.in_ok-head.head c.loop-n.n c.loop-n.left c.args.number c.loop-n.invariant.reading c.loop-n-test.true (λ z. let f = c.if-is_end.ensures.1 (ap (λ (p : Place). p.track) c.new-at.ensures ∙ z) in cc)
    (subst (λ (h : List ℕ). Numbered c.args.geometry (g.M.Medium.seen c.args.medium.now).content c.args.file.width 0 (sides_listed h)) (sym same) num) in
    let ok = c.in_err-side.ensures.readable (subst (λ (p : Place). Has c.args.geometry p) (sym c.new-at.ensures) next.0) (subst (λ (p : Place). IsOk ((g.M.Medium.seen c.args.medium.now).content p)) (sym c.new-at.ensures) next.1) in
    absurd (cc)

-- it lists the block
pub returns-then-left-count-clause-looked : goal.returns-then-left-count-clause-looked
returns-then-left-count-clause-looked g c =
    looked_up c.args.geometry (g.M.Medium.seen c.args.medium.now).content c.args.file c.side-first.result c.in_ok-head.head c.args.number c.block_in.result 0 c.side-first.ensures c.in_ok-head.ensures.ok
    (block_listed c.args.geometry (g.M.Medium.seen c.args.medium.now).content c.args.file c.new-at.result c.block_in.result c.in_ok-side.side c.loop-n.left (side_listed c.args.geometry (g.M.Medium.seen c.args.medium.now).content c.args.file.side c.side-first.result c.new-at.result c.in_ok-head.head c.loop-n.n c.side-first.ensures c.in_ok-head.ensures.has c.in_ok-head.ensures.ok c.loop-n-test.true c.new-at.ensures)
    (c.in_ok-side.ensures.has c.in_ok-head.ensures.has) c.in_ok-side.ensures.ok (omega (arith, c.if-left-count.true, c.listed_count-count.ensures.most)) c.block_in.ensures)
    (found_here c.args.geometry (g.M.Medium.seen c.args.medium.now).content c.args.file.width c.args.file.first c.in_ok-head.head c.loop-n.n c.loop-n.left c.args.number c.loop-n.near.at c.loop-n.near.left c.in_ok-side.side c.block_in.result 0 c.listed_count-count.result c.loop-n.invariant.nearing c.loop-n.invariant.reading c.loop-n-test.true (λ z. let f = c.if-is_end.ensures.1 (ap (λ (p : Place). p.track) c.new-at.ensures ∙ z) in cc)
    (subst (λ (p : Place). Has c.args.geometry p) c.new-at.ensures (c.in_ok-side.ensures.has c.in_ok-head.ensures.has)) (ap (g.M.Medium.seen c.args.medium.now).content (sym c.new-at.ensures) ∙ c.in_ok-side.ensures.ok) c.listed_count-count.ensures.value c.if-left-count.true c.block_in.ensures refl)

-- it doesn't
pub loop-n-preserved : goal.loop-n-preserved
loop-n-preserved g c = record {
  nearing = near_next (g.M.Medium.seen c.args.medium.now).content c.args.file.first c.in_ok-head.head c.loop-n.n c.loop-n.left c.args.number c.loop-n.near.at c.loop-n.near.left c.in_ok-side.side c.listed_count-count.result c.last_in-near.result.at c.last_in-near.result.left c.loop-n.invariant.nearing
      (sides_next c.in_ok-head.head c.loop-n.n c.loop-n-test.true (λ z. let f = c.if-is_end.ensures.1 (ap (λ (p : Place). p.track) c.new-at.ensures ∙ z) in cc))
      (ap (g.M.Medium.seen c.args.medium.now).content (sym c.new-at.ensures) ∙ c.in_ok-side.ensures.ok) c.listed_count-count.ensures.value c.if-left-count.false (λ z. let e = c.last_in-near.ensures.none z in (ap (λ (r : Near). r.at) e, ap (λ (r : Near). r.left) e)) c.last_in-near.ensures.last;
  reading = reading_next c.args.geometry (g.M.Medium.seen c.args.medium.now).content c.args.file.width c.in_ok-head.head c.loop-n.n c.loop-n.left c.args.number c.listed_count-count.result c.in_ok-side.side c.loop-n.invariant.reading c.loop-n-test.true (λ z. let f = c.if-is_end.ensures.1 (ap (λ (p : Place). p.track) c.new-at.ensures ∙ z) in cc)
      (subst (λ (p : Place). Has c.args.geometry p) c.new-at.ensures (c.in_ok-side.ensures.has c.in_ok-head.ensures.has)) (ap (g.M.Medium.seen c.args.medium.now).content (sym c.new-at.ensures) ∙ c.in_ok-side.ensures.ok) c.listed_count-count.ensures.value;
  place = last_listed c.args.geometry (g.M.Medium.seen c.args.medium.now).content c.args.file c.new-at.result c.loop-n.near.at c.last_in-near.result.at c.in_ok-side.side c.listed_count-count.result (side_listed c.args.geometry (g.M.Medium.seen c.args.medium.now).content c.args.file.side c.side-first.result c.new-at.result c.in_ok-head.head c.loop-n.n c.side-first.ensures c.in_ok-head.ensures.has c.in_ok-head.ensures.ok c.loop-n-test.true c.new-at.ensures)
      (c.in_ok-side.ensures.has c.in_ok-head.ensures.has) c.in_ok-side.ensures.ok c.listed_count-count.ensures.most (λ z. ap (λ (r : Near). r.at) (c.last_in-near.ensures.none z)) (λ h. (c.last_in-near.ensures.last h).0) c.loop-n.invariant.place;
}

pub returns-clause-looked : goal.returns-clause-looked
returns-clause-looked g c =
    looked_up c.args.geometry (g.M.Medium.seen c.args.medium.now).content c.args.file c.side-first.result c.in_ok-head.head c.args.number c.loop-n.near.at c.loop-n.near.left c.side-first.ensures c.in_ok-head.ensures.ok c.loop-n.invariant.place
    (found_ends c.args.geometry (g.M.Medium.seen c.args.medium.now).content c.args.file.width c.args.file.first c.in_ok-head.head c.loop-n.n c.loop-n.left c.args.number c.loop-n.near.at c.loop-n.near.left c.loop-n.invariant.nearing c.loop-n.invariant.reading c.loop-n-test.false)

-- ---- what the content shows

pub returns-in_err-head-clause-err : goal.returns-in_err-head-clause-err
returns-in_err-head-clause-err g c =
    meets_on c.args.geometry (g.M.Medium.seen c.args.medium.now).content (λ q. q ≡ c.side-first.result) (IsSide c.args.geometry (g.M.Medium.seen c.args.medium.now).content c.args.file.side) _ c.in_err-head.field-0.0 c.from_residual.result refl c.from_residual.ensures.1
    (one_of c.args.geometry (g.M.Medium.seen c.args.medium.now).content (IsSide c.args.geometry (g.M.Medium.seen c.args.medium.now).content c.args.file.side) c.side-first.result (inl c.side-first.ensures)) c.in_err-head.ensures.err

pub returns-in_err-side-clause-err : goal.returns-in_err-side-clause-err
returns-in_err-side-clause-err g c =
    meets_on c.args.geometry (g.M.Medium.seen c.args.medium.now).content (λ q. q ≡ c.new-at.result) (IsSide c.args.geometry (g.M.Medium.seen c.args.medium.now).content c.args.file.side) _ c.in_err-side.field-0.0 c.from_residual-in_err-side.result refl c.from_residual-in_err-side.ensures.1
    (one_of c.args.geometry (g.M.Medium.seen c.args.medium.now).content (IsSide c.args.geometry (g.M.Medium.seen c.args.medium.now).content c.args.file.side) c.new-at.result (side_listed c.args.geometry (g.M.Medium.seen c.args.medium.now).content c.args.file.side c.side-first.result c.new-at.result c.in_ok-head.head c.loop-n.n c.side-first.ensures c.in_ok-head.ensures.has c.in_ok-head.ensures.ok c.loop-n-test.true c.new-at.ensures)) c.in_err-side.ensures.err
