use Rattle.std.proofs.Common.{◌≡◌, ◌≢◌, sym, subst, ◌∙◌, inl, inr, Ok, Some, refl, ◌≤◌, Option}
use Rattle.cbm_medium.specs.Place.{Place, Has}
use Rattle.cbm_medium.specs.Seen.{Seen}
use Rattle.cbm_bam.specs.Map.{Claims}
use Rattle.cbm_relfile.specs.Growing.{IsLengthenStopped}
use Rattle.cbm_relfile.proofs.Changed.{refused_by}
use Rattle.cbm_relfile.proofs.Lengthened.{stopped_at}
use Rattle.cbm_relfile.proofs.NewFiles.{is_claimed}
use Rattle.cbm_medium.proofs.Sequences.{only_after, only_then, write_only}
use Rattle.std.specs.Prelude.{IfSome}
use Rattle.cbm_relfile.proofs.growth.adding_sides.begin_empty_side.Goals as goal

-- the new side sector isn't written
pub returns-in_err-write-clause-begun : goal.returns-in_err-write-clause-begun
returns-in_err-write-clause-begun g c = λ head first holds off.
    let old : Seen = g.M.Medium.seen c.args.medium.now in
    let mid : Seen = g.M.Medium.seen c.claim_next.new.medium in
    let new : Seen = g.M.Medium.seen c.write.new.self in
    let at : c.args.file.side ≡ c.in-Some.at = sym (c.in-Some.ensures.1 ∙ c.side-first.ensures) in
    let k : Claims c.args.geometry old.content mid.content c.in-Some-2.side = is_claimed c.args.geometry old.content mid.content c.in_ok-side.field-0 c.in-Some-2.side c.in-Some-2.is
    (c.in_ok-side.ensures.claimed (subst (λ (p : Place). Has c.args.geometry p) at first) (subst (λ (p : Place). p.track ≢ 18) at off)) in
    refused_by c.from_residual-in_err-write.result (record { code = c.in_err-write.field-0.0.code; track = c.in_err-write.field-0.0.at.track; sector = c.in_err-write.field-0.0.at.sector })
    _ (λ t. IsLengthenStopped c.args.geometry old new c.args.file.side t.code) c.from_residual-in_err-write.ensures.1
    (stopped_at c.args.geometry old mid new c.args.file.side c.in-Some-2.side c.in_err-write.field-0.0 (inr (c.in-Some-2.side, mid.content, k, inl (λ i. mid.content))) c.claim_next.ensures.only.protected c.claim_next.ensures.only.counted k.has c.in_err-write.ensures.err.1)

-- the claim and the write, one after the other
pub returns-clause-only : goal.returns-clause-only
returns-clause-only g c =
    let old : Seen = g.M.Medium.seen c.args.medium.now in
    let mid : Seen = g.M.Medium.seen c.claim_next.new.medium in
    let new : Seen = g.M.Medium.seen c.write.new.self in
    let few : c.in-Some-2.side.track ≤ c.args.geometry = subst (λ (o : Option Place). IfSome o (λ p. p.track ≤ c.args.geometry)) c.in-Some-2.is (c.in_ok-side.ensures.bound (subst (λ (p : Place). p.track ≤ c.args.geometry) (sym c.in-Some.ensures.1) c.in-Some.ensures.0.1)) in
    only_then (Ok tt) (Ok (Some c.in-Some-2.side)) tt old new refl
    (only_after c.claim_next.result c.in_ok-side.field-0 (Ok tt) old mid new c.in_ok-side.was c.claim_next.ensures.only (write_only mid new c.in-Some-2.side c.empty_side.result few c.in_ok-write.ensures.ok)) tt tt
