use Rattle.std.proofs.Common.{◌≡◌, ◌≤◌, Option, Some, Ok, refl, ap, subst, ◌∙◌, inl, inr, arith}
use Rattle.std.specs.Prelude.{IfSome}
use Rattle.std.proofs.lemmas.Result.{err_from_is_err_and}
use Rattle.cbm_medium.specs.Place.{Place}
use Rattle.cbm_medium.proofs.Sequences.{only_after, only_then, write_only, write_refused}
use Rattle.cbm_medium.specs.Content.{written}
use Rattle.cbm_medium.specs.Seen.{Seen}
use Rattle.cbm_bam.specs.Map.{Claims}
use Rattle.cbm_relfile.specs.Growing.{IsLengthenStopped}
use Rattle.cbm_relfile.proofs.Changed.{refused_by}
use Rattle.cbm_relfile.proofs.Lengthened.{stopped_at, LengthensBy}
use Rattle.cbm_relfile.proofs.NewFiles.{is_claimed}
use Rattle.cbm_relfile.proofs.growth.growing.lengthen.Goals as goal

-- the new block isn't written
pub returns-in_err-write-clause-lengthened : goal.returns-in_err-write-clause-lengthened
returns-in_err-write-clause-lengthened g c = λ has off.
    let old : Seen = g.M.Medium.seen c.args.medium.now in
    let mid : Seen = g.M.Medium.seen c.claim_next.new.medium in
    let new : Seen = g.M.Medium.seen c.write.new.self in
    let k : Claims c.args.geometry old.content mid.content c.in-Some.block = is_claimed c.args.geometry old.content mid.content c.in_ok-block.field-0 c.in-Some.block c.in-Some.is (c.in_ok-block.ensures.claimed has off) in
    refused_by c.from_residual-in_err-write.result (record { code = c.in_err-write.field-0.0.code; track = c.in_err-write.field-0.0.at.track; sector = c.in_err-write.field-0.0.at.sector })
    (LengthensBy c.args.geometry old.content new.content c.args.last c.args.length c.args.blocks) (λ t. IsLengthenStopped c.args.geometry old new c.args.last t.code) c.from_residual-in_err-write.ensures.1
    (stopped_at c.args.geometry old mid new c.args.last c.in-Some.block c.in_err-write.field-0.0 (inr (c.in-Some.block, mid.content, k, inl (λ i. mid.content))) c.claim_next.ensures.only.protected c.claim_next.ensures.only.counted k.has c.in_err-write.ensures.err.1)

-- the old last block isn't
pub returns-in_err-write-2-clause-lengthened : goal.returns-in_err-write-2-clause-lengthened
returns-in_err-write-2-clause-lengthened g c = λ has off.
    let old : Seen = g.M.Medium.seen c.args.medium.now in
    let one : Seen = g.M.Medium.seen c.claim_next.new.medium in
    let mid : Seen = g.M.Medium.seen c.write.new.self in
    let new : Seen = g.M.Medium.seen c.write-2.new.self in
    let k : Claims c.args.geometry old.content one.content c.in-Some.block = is_claimed c.args.geometry old.content one.content c.in_ok-block.field-0 c.in-Some.block c.in-Some.is (c.in_ok-block.ensures.claimed has off) in
    let block : mid.content ≡ written one.content c.in-Some.block c.fresh_from-fresh.result = ap (λ (s : Seen). s.content) c.in_ok-write.ensures.ok in
    let protected : mid.protected ≡ old.protected = ap (λ (s : Seen). s.protected) c.in_ok-write.ensures.ok ∙ c.claim_next.ensures.only.protected in
    let failures : mid.failures ≡ one.failures = ap (λ (s : Seen). s.failures) c.in_ok-write.ensures.ok in
    refused_by c.from_residual-in_err-write-2.result (record { code = c.in_err-write-2.field-0.0.code; track = c.in_err-write-2.field-0.0.at.track; sector = c.in_err-write-2.field-0.0.at.sector })
    (LengthensBy c.args.geometry old.content new.content c.args.last c.args.length c.args.blocks) (λ t. IsLengthenStopped c.args.geometry old new c.args.last t.code) c.from_residual-in_err-write-2.ensures.1
    (stopped_at c.args.geometry old mid new c.args.last c.args.last c.in_err-write-2.field-0.0 (inr (c.in-Some.block, one.content, k, inr (c.fresh_from-fresh.result, block))) protected
    (omega (arith, failures, c.claim_next.ensures.only.counted)) has c.in_err-write-2.ensures.err.1)

-- ---- only what the disk's sectors hold is new

pub returns-in_err-write-2-clause-only : goal.returns-in_err-write-2-clause-only
returns-in_err-write-2-clause-only g c =
    let old : Seen = g.M.Medium.seen c.args.medium.now in
    let one : Seen = g.M.Medium.seen c.claim_next.new.medium in
    let mid : Seen = g.M.Medium.seen c.write.new.self in
    let new : Seen = g.M.Medium.seen c.write-2.new.self in
    let few : c.in-Some.block.track ≤ c.args.geometry = subst (λ (o : Option Place). IfSome o (λ p. p.track ≤ c.args.geometry)) c.in-Some.is (c.in_ok-block.ensures.bound c.requires.last) in
    let p = err_from_is_err_and c.from_residual-in_err-write-2.result c.from_residual-in_err-write-2.ensures.1 in
    only_after (Ok tt) tt c.from_residual-in_err-write-2.result old mid new refl
    (only_after c.claim_next.result c.in_ok-block.field-0 (Ok tt) old one mid c.in_ok-block.was c.claim_next.ensures.only (write_only one mid c.in-Some.block c.fresh_from-fresh.result few c.in_ok-write.ensures.ok))
    (write_refused c.from_residual-in_err-write-2.result p.0 c.in_err-write-2.field-0.0 c.args.last mid new p.1 p.2 c.in_err-write-2.ensures.err.0 c.in_err-write-2.ensures.err.1)

pub returns-clause-only : goal.returns-clause-only
returns-clause-only g c =
    let old : Seen = g.M.Medium.seen c.args.medium.now in
    let one : Seen = g.M.Medium.seen c.claim_next.new.medium in
    let mid : Seen = g.M.Medium.seen c.write.new.self in
    let new : Seen = g.M.Medium.seen c.write-2.new.self in
    let few : c.in-Some.block.track ≤ c.args.geometry = subst (λ (o : Option Place). IfSome o (λ p. p.track ≤ c.args.geometry)) c.in-Some.is (c.in_ok-block.ensures.bound c.requires.last) in
    only_then (Ok tt) (Ok (Some c.in-Some.block)) tt old new refl
    (only_after (Ok tt) tt (Ok tt) old mid new refl
    (only_after c.claim_next.result c.in_ok-block.field-0 (Ok tt) old one mid c.in_ok-block.was c.claim_next.ensures.only (write_only one mid c.in-Some.block c.fresh_from-fresh.result few c.in_ok-write.ensures.ok))
    (write_only mid new c.args.last c.fresh_from-linked.result c.requires.last c.in_ok-write-2.ensures.ok)) tt tt
