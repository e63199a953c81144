use Rattle.std.proofs.Common.{inl, inr, Ok, Some, refl, ◌≤◌, Option, subst}
use Rattle.cbm_medium.specs.Seen.{Seen}
use Rattle.cbm_bam.specs.Map.{Claims}
use Rattle.cbm_relfile.specs.Growing.{IsLengthenStopped}
use Rattle.cbm_relfile.proofs.Changed.{refused_by}
use Rattle.cbm_relfile.proofs.Lengthened.{stopped_at, BeginsSide}
use Rattle.cbm_relfile.proofs.NewFiles.{is_claimed}
use Rattle.cbm_medium.proofs.Sequences.{only_after, only_then, write_only}
use Rattle.std.specs.Prelude.{IfSome}
use Rattle.cbm_medium.specs.Place.{Place}
use Rattle.cbm_relfile.proofs.growth.growing.begin_side.Goals as goal

-- the new side sector isn't written
pub returns-in_err-write-clause-begun : goal.returns-in_err-write-clause-begun
returns-in_err-write-clause-begun g c = λ head first holds has off.
    let old : Seen = g.M.Medium.seen c.args.medium.now in
    let mid : Seen = g.M.Medium.seen c.claim_next.new.medium in
    let new : Seen = g.M.Medium.seen c.write.new.self in
    let k : Claims c.args.geometry old.content mid.content c.in-Some.side = is_claimed c.args.geometry old.content mid.content c.in_ok-side.field-0 c.in-Some.side c.in-Some.is (c.in_ok-side.ensures.claimed has off) in
    refused_by c.from_residual-in_err-write.result (record { code = c.in_err-write.field-0.0.code; track = c.in_err-write.field-0.0.at.track; sector = c.in_err-write.field-0.0.at.sector })
    (BeginsSide c.args.geometry old.content new.content head c.args.sides c.args.file.width c.args.block) (λ t. IsLengthenStopped c.args.geometry old new c.args.file.side t.code) c.from_residual-in_err-write.ensures.1
    (stopped_at c.args.geometry old mid new c.args.file.side c.in-Some.side c.in_err-write.field-0.0 (inr (c.in-Some.side, mid.content, k, inl (λ i. mid.content))) c.claim_next.ensures.only.protected c.claim_next.ensures.only.counted k.has c.in_err-write.ensures.err.1)

-- the claim and the write, one after the other
pub returns-clause-only : goal.returns-clause-only
returns-clause-only g c =
    let old : Seen = g.M.Medium.seen c.args.medium.now in
    let mid : Seen = g.M.Medium.seen c.claim_next.new.medium in
    let new : Seen = g.M.Medium.seen c.write.new.self in
    let few : c.in-Some.side.track ≤ c.args.geometry = subst (λ (o : Option Place). IfSome o (λ p. p.track ≤ c.args.geometry)) c.in-Some.is (c.in_ok-side.ensures.bound c.requires.block) in
    only_then (Ok tt) (Ok (Some c.in-Some.side)) tt old new refl
    (only_after c.claim_next.result c.in_ok-side.field-0 (Ok tt) old mid new c.in_ok-side.was c.claim_next.ensures.only (write_only mid new c.in-Some.side c.last_side.result few c.in_ok-write.ensures.ok)) tt tt
