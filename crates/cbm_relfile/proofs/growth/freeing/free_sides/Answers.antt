use Rattle.std.proofs.Common.{◌≡◌, ◌≢◌, ℕ, List, refl, sym, ap, subst, ◌∙◌, inl}
use Rattle.cbm_medium.specs.Place.{Place}
use Rattle.cbm_medium.specs.Links.{or_nothing}
use Rattle.cbm_medium.proofs.Reached.{starts_there, one_of, meets_on}
use Rattle.cbm_bam.specs.Map.{Frees}
use Rattle.cbm_relfile.specs.OfFile.{IsSide}
use Rattle.cbm_relfile.specs.SideSectors.{AllHave, sides_listed}
use Rattle.cbm_relfile.proofs.Freed.{freeing_next, left_has, freed_listed, freed_six}
use Rattle.cbm_relfile.proofs.FilePlaces.{side_listed, off_on}
use Rattle.cbm_relfile.proofs.Listed.{same_ok}
use Rattle.cbm_relfile.proofs.growth.freeing.free_sides.Goals as goal

-- no side sector is left
pub returns-then-is_end-clause-freed : goal.returns-then-is_end-clause-freed
returns-then-is_end-clause-freed g c =
    subst (λ (head : List ℕ). Frees c.args.geometry c.args.release.now (sides_listed head) c.loop-n.release) (ap or_nothing (sym c.in_ok-head.ensures.ok))
    (freed_listed c.args.geometry c.args.release.now c.loop-n.release c.in_ok-head.head c.loop-n.n c.loop-n.invariant c.loop-n-test.true (ap (λ (p : Place). p.track) (sym c.new-at.ensures) ∙ c.if-is_end.ensures.0 refl))

-- each that is listed is a sector of the disk
pub returns-in_err-give_named-clause-goes : goal.returns-in_err-give_named-clause-goes
returns-in_err-give_named-clause-goes g c = λ head has at all.
    let same : c.in_ok-head.head ≡ head = same_ok c.in_ok-head.head head (sym c.in_ok-head.ensures.ok ∙ at) in
    let going : c.new-at.result.track ≢ 0 = λ z. let f = c.if-is_end.ensures.1 z in cc in
    let ok = c.in_err-give_named.ensures.has (left_has c.args.geometry c.args.release.now c.loop-n.release c.in_ok-head.head c.loop-n.n c.new-at.result c.loop-n.invariant c.loop-n-test.true c.new-at.ensures going
    (subst (λ (h : List ℕ). AllHave c.args.geometry (sides_listed h)) (sym same) all)) in
    absurd (cc)

-- one more
pub loop-n-preserved : goal.loop-n-preserved
loop-n-preserved g c =
    let going : c.new-at.result.track ≢ 0 = λ z. let f = c.if-is_end.ensures.1 z in cc in
    freeing_next c.args.geometry c.args.release.now c.loop-n.release c.give_named.new.release c.in_ok-head.head c.loop-n.n c.new-at.result c.loop-n.invariant c.loop-n-test.true c.new-at.ensures going c.in_ok-give_named.ensures.given

-- all six places are done
pub returns-clause-freed : goal.returns-clause-freed
returns-clause-freed g c =
    subst (λ (head : List ℕ). Frees c.args.geometry c.args.release.now (sides_listed head) c.loop-n.release) (ap or_nothing (sym c.in_ok-head.ensures.ok))
    (freed_six c.args.geometry c.args.release.now c.loop-n.release c.in_ok-head.head c.loop-n.n c.loop-n.invariant c.loop-n-test.false)

-- ---- what the content shows

pub returns-in_err-head-clause-err : goal.returns-in_err-head-clause-err
returns-in_err-head-clause-err g c =
    meets_on c.args.geometry (g.M.Medium.seen c.args.medium.now).content (λ q. q ≡ c.args.first) (IsSide c.args.geometry (g.M.Medium.seen c.args.medium.now).content c.args.first) _ c.in_err-head.field-0.0 c.from_residual.result refl c.from_residual.ensures.1
    (one_of c.args.geometry (g.M.Medium.seen c.args.medium.now).content (IsSide c.args.geometry (g.M.Medium.seen c.args.medium.now).content c.args.first) c.args.first (inl refl)) c.in_err-head.ensures.err

pub returns-in_err-give_named-clause-err : goal.returns-in_err-give_named-clause-err
returns-in_err-give_named-clause-err g c =
    let t = c.in_err-give_named.field-0.0 in
    let e = c.in_err-give_named.ensures in
    let listed = side_listed c.args.geometry (g.M.Medium.seen c.args.medium.now).content c.args.first c.args.first c.new-at.result c.in_ok-head.head c.loop-n.n refl c.in_ok-head.ensures.has c.in_ok-head.ensures.ok c.loop-n-test.true c.new-at.ensures in
    off_on c.args.geometry (g.M.Medium.seen c.args.medium.now).content (IsSide c.args.geometry (g.M.Medium.seen c.args.medium.now).content c.args.first) t c.from_residual-in_err-give_named.result c.new-at.result e.code e.off e.place (starts_there c.args.geometry (g.M.Medium.seen c.args.medium.now).content (IsSide c.args.geometry (g.M.Medium.seen c.args.medium.now).content c.args.first) c.new-at.result listed) c.from_residual-in_err-give_named.ensures.1
