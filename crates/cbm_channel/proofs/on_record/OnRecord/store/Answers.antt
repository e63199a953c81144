use Rattle.std.proofs.Common.{rules, ◌≡◌, ◌∙◌, ap, sym, subst, inl, Bool, Ok, Err}
use Rattle.std.proofs.lemmas.Result.{err_from_is_err_and}
use Rattle.std.specs.Prelude.{option_map, IsOkAnd}
use Rattle.cbm_medium.specs.Seen.{Seen}
use Rattle.cbm_channel.proofs.Elses.{else_then, else_after, else_refused}
use Rattle.cbm_volume.proofs.copied.CopySteps.{handed}
use Rattle.cbm_channel.specs.Recorded.{IsTextCut}
use Rattle.cbm_channel.proofs.Asked.{none_of}
use Rattle.cbm_channel.proofs.RecordPuts.{store_full, store_cut, store_more, store_more_cut, store_there, store_next, grown_rest, written_rest}
use Rattle.cbm_channel.specs.PlaceCalls.{GrowsToPlace}
use Rattle.cbm_channel.proofs.on_record.OnRecord.store.Goals as goal

-- the record was there
pub returns-in-Some-clause-put : goal.returns-in-Some-clause-put
returns-in-Some-clause-put g c = λ d uses b s rs can.
    let old : Seen = g.M.Medium.seen c.args.volume.now in
    let mid : Seen = g.M.Medium.seen c.write.new.volume in
    inl (rw c.in-Some.is at ((c.in_ok-written.ensures.put d uses b s rs can).put))

-- the file would be too large, or its growth was refused
pub returns-then-not-branch-clause-put : goal.returns-then-not-branch-clause-put
returns-then-not-branch-clause-put g c = λ d uses b s rs can.
    let old : Seen = g.M.Medium.seen c.args.volume.now in
    let mid : Seen = g.M.Medium.seen c.write.new.volume in
    let none = none_of c.in_ok-written.field-0 c.in_default.not-Some in
    let missing = rw none at ((c.in_ok-written.ensures.put d uses b s rs can).put) in
    store_full old mid d uses c.args.self.now b s rs c.args.bytes.now can c.write.ensures.only.tracks c.write.ensures.only.protected c.write.ensures.only.counted missing (g.M.Medium.seen c.grow.new.volume) (subst (λ (x : Bool). GrowsToPlace mid (g.M.Medium.seen c.grow.new.volume) c.args.self.now (Ok x)) c.if-not-branch.true c.in_ok-grow.ensures.grown)

pub returns-in_err-grow-clause-put : goal.returns-in_err-grow-clause-put
returns-in_err-grow-clause-put g c = λ d uses b s rs can.
    let old : Seen = g.M.Medium.seen c.args.volume.now in
    let mid : Seen = g.M.Medium.seen c.write.new.volume in
    let none = none_of c.in_ok-written.field-0 c.in_default.not-Some in
    let missing = rw none at ((c.in_ok-written.ensures.put d uses b s rs can).put) in
    let new : Seen = g.M.Medium.seen c.grow.new.volume in
    handed c.from_residual-in_err-grow.result c.in_err-grow.field-0.0 _ (IsTextCut old new d uses c.args.self.now b s rs c.args.bytes.now) c.from_residual-in_err-grow.ensures.1
    (store_cut old mid d uses c.args.self.now b s rs c.args.bytes.now can c.write.ensures.only.tracks c.write.ensures.only.protected c.write.ensures.only.counted missing new c.in_err-grow.field-0.0 c.in_err-grow.ensures.grown)

-- the record was made
pub returns-in-Some-2-clause-put : goal.returns-in-Some-2-clause-put
returns-in-Some-2-clause-put g c = λ d uses b s rs can.
    let old : Seen = g.M.Medium.seen c.args.volume.now in
    let mid : Seen = g.M.Medium.seen c.write.new.volume in
    let none = none_of c.in_ok-written.field-0 c.in_default.not-Some in
    let missing = rw none at ((c.in_ok-written.ensures.put d uses b s rs can).put) in
    let more : Seen = g.M.Medium.seen c.grow.new.volume in
    let grows = subst (λ (x : Bool). GrowsToPlace mid more c.args.self.now (Ok x)) c.if-not-branch.false c.in_ok-grow.ensures.grown in
    let new : Seen = g.M.Medium.seen c.write-2.new.volume in
    store_more old mid d uses c.args.self.now b s rs c.args.bytes.now can c.write.ensures.only.tracks c.write.ensures.only.protected c.write.ensures.only.counted missing more grows c.grow.ensures.call.medium.tracks c.grow.ensures.call.medium.protected c.grow.ensures.call.medium.counted (λ x. x.cut) new c.in-Some-2.written (λ d2 uses2 b2 s2 rs2 can2. rw c.in-Some-2.is at ((c.in_ok-written-2.ensures.put d2 uses2 b2 s2 rs2 can2).put))

pub returns-in_err-written-2-clause-put : goal.returns-in_err-written-2-clause-put
returns-in_err-written-2-clause-put g c = λ d uses b s rs can.
    let old : Seen = g.M.Medium.seen c.args.volume.now in
    let mid : Seen = g.M.Medium.seen c.write.new.volume in
    let none = none_of c.in_ok-written.field-0 c.in_default.not-Some in
    let missing = rw none at ((c.in_ok-written.ensures.put d uses b s rs can).put) in
    let more : Seen = g.M.Medium.seen c.grow.new.volume in
    let grows = subst (λ (x : Bool). GrowsToPlace mid more c.args.self.now (Ok x)) c.if-not-branch.false c.in_ok-grow.ensures.grown in
    let new : Seen = g.M.Medium.seen c.write-2.new.volume in
    handed c.from_residual-in_err-written-2.result c.in_err-written-2.field-0.0 _ (IsTextCut old new d uses c.args.self.now b s rs c.args.bytes.now) c.from_residual-in_err-written-2.ensures.1
    (store_more_cut old mid d uses c.args.self.now b s rs c.args.bytes.now can c.write.ensures.only.tracks c.write.ensures.only.protected c.write.ensures.only.counted missing more grows c.grow.ensures.call.medium.tracks c.grow.ensures.call.medium.protected c.grow.ensures.call.medium.counted (λ (x : Bool). x) new c.in_err-written-2.field-0.0 (λ d2 uses2 b2 s2 rs2 can2. (c.in_err-written-2.ensures.put d2 uses2 b2 s2 rs2 can2).put))

-- it is there then
pub returns-in-None-clause-put : goal.returns-in-None-clause-put
returns-in-None-clause-put g c = λ d uses b s rs can.
    let old : Seen = g.M.Medium.seen c.args.volume.now in
    let mid : Seen = g.M.Medium.seen c.write.new.volume in
    let none = none_of c.in_ok-written.field-0 c.in_default.not-Some in
    let missing = rw none at ((c.in_ok-written.ensures.put d uses b s rs can).put) in
    let more : Seen = g.M.Medium.seen c.grow.new.volume in
    let grows = subst (λ (x : Bool). GrowsToPlace mid more c.args.self.now (Ok x)) c.if-not-branch.false c.in_ok-grow.ensures.grown in
    let new : Seen = g.M.Medium.seen c.write-2.new.volume in
    absurd (store_there old mid d uses c.args.self.now b s rs c.args.bytes.now can c.write.ensures.only.tracks c.write.ensures.only.protected c.write.ensures.only.counted missing more grows c.grow.ensures.call.medium.tracks c.grow.ensures.call.medium.protected c.grow.ensures.call.medium.counted (λ (x : Bool). x) new (λ d2 uses2 b2 s2 rs2 can2. rw c.in-None.is at ((c.in_ok-written-2.ensures.put d2 uses2 b2 s2 rs2 can2).put)))

-- the record after it was read
pub returns-in-Some-clause-next : goal.returns-in-Some-clause-next
returns-in-Some-clause-next g c = λ d uses b s rs can. rw c.in-Some.is at ((c.in_ok-written.ensures.put d uses b s rs can).next)

pub returns-in-Some-2-clause-next : goal.returns-in-Some-2-clause-next
returns-in-Some-2-clause-next g c = λ d uses b s rs can.
    let old : Seen = g.M.Medium.seen c.args.volume.now in
    let mid : Seen = g.M.Medium.seen c.write.new.volume in
    let none = none_of c.in_ok-written.field-0 c.in_default.not-Some in
    let missing = rw none at ((c.in_ok-written.ensures.put d uses b s rs can).put) in
    let more : Seen = g.M.Medium.seen c.grow.new.volume in
    let grows = subst (λ (x : Bool). GrowsToPlace mid more c.args.self.now (Ok x)) c.if-not-branch.false c.in_ok-grow.ensures.grown in
    let new : Seen = g.M.Medium.seen c.write-2.new.volume in
    store_next old mid d uses c.args.self.now b s rs c.args.bytes.now can c.write.ensures.only.tracks c.write.ensures.only.protected c.write.ensures.only.counted missing more grows c.grow.ensures.call.medium.tracks c.grow.ensures.call.medium.protected c.grow.ensures.call.medium.counted (λ x z. IsOkAnd x.next (λ y. option_map (λ v. v.items) y ≡ z)) new c.in-Some-2.written
    (λ d2 uses2 b2 s2 rs2 can2. rw c.in-Some-2.is at ((c.in_ok-written-2.ensures.put d2 uses2 b2 s2 rs2 can2).next))

-- ---- what else the medium shows

pub returns-in_err-grow-clause-medium : goal.returns-in_err-grow-clause-medium
returns-in_err-grow-clause-medium g c =
    let p = err_from_is_err_and c.from_residual-in_err-grow.result c.from_residual-in_err-grow.ensures.1 in
    else_refused c.grow.result c.from_residual-in_err-grow.result p.0 (g.M.Medium.seen c.args.volume.now) (g.M.Medium.seen c.grow.new.volume) (c.in_err-grow.was ∙ ap Err (sym p.2)) p.1
    (else_after c.write.result c.in_ok-written.field-0 c.grow.result (g.M.Medium.seen c.args.volume.now) (g.M.Medium.seen c.write.new.volume) (g.M.Medium.seen c.grow.new.volume) c.in_ok-written.was c.write.ensures.only c.grow.ensures.call.medium)

pub returns-then-not-branch-clause-medium : goal.returns-then-not-branch-clause-medium
returns-then-not-branch-clause-medium g c = else_then c.grow.result _ c.in_ok-grow.field-0 (g.M.Medium.seen c.args.volume.now) (g.M.Medium.seen c.grow.new.volume) c.in_ok-grow.was
    (else_after c.write.result c.in_ok-written.field-0 c.grow.result (g.M.Medium.seen c.args.volume.now) (g.M.Medium.seen c.write.new.volume) (g.M.Medium.seen c.grow.new.volume) c.in_ok-written.was c.write.ensures.only c.grow.ensures.call.medium) tt tt

pub returns-in_err-written-2-clause-medium : goal.returns-in_err-written-2-clause-medium
returns-in_err-written-2-clause-medium g c =
    let p = err_from_is_err_and c.from_residual-in_err-written-2.result c.from_residual-in_err-written-2.ensures.1 in
    else_refused c.write-2.result c.from_residual-in_err-written-2.result p.0 (g.M.Medium.seen c.args.volume.now) (g.M.Medium.seen c.write-2.new.volume) (c.in_err-written-2.was ∙ ap Err (sym p.2)) p.1
    (else_after c.grow.result c.in_ok-grow.field-0 c.write-2.result (g.M.Medium.seen c.args.volume.now) (g.M.Medium.seen c.grow.new.volume) (g.M.Medium.seen c.write-2.new.volume) c.in_ok-grow.was
    (else_after c.write.result c.in_ok-written.field-0 c.grow.result (g.M.Medium.seen c.args.volume.now) (g.M.Medium.seen c.write.new.volume) (g.M.Medium.seen c.grow.new.volume) c.in_ok-written.was c.write.ensures.only c.grow.ensures.call.medium) c.write-2.ensures.only)

pub returns-in-Some-2-clause-medium : goal.returns-in-Some-2-clause-medium
returns-in-Some-2-clause-medium g c = else_then c.write-2.result _ c.in_ok-written-2.field-0 (g.M.Medium.seen c.args.volume.now) (g.M.Medium.seen c.write-2.new.volume) c.in_ok-written-2.was
    (else_after c.grow.result c.in_ok-grow.field-0 c.write-2.result (g.M.Medium.seen c.args.volume.now) (g.M.Medium.seen c.grow.new.volume) (g.M.Medium.seen c.write-2.new.volume) c.in_ok-grow.was
    (else_after c.write.result c.in_ok-written.field-0 c.grow.result (g.M.Medium.seen c.args.volume.now) (g.M.Medium.seen c.write.new.volume) (g.M.Medium.seen c.grow.new.volume) c.in_ok-written.was c.write.ensures.only c.grow.ensures.call.medium) c.write-2.ensures.only) tt tt

pub returns-in-None-clause-medium : goal.returns-in-None-clause-medium
returns-in-None-clause-medium g c = else_then c.write-2.result _ c.in_ok-written-2.field-0 (g.M.Medium.seen c.args.volume.now) (g.M.Medium.seen c.write-2.new.volume) c.in_ok-written-2.was
    (else_after c.grow.result c.in_ok-grow.field-0 c.write-2.result (g.M.Medium.seen c.args.volume.now) (g.M.Medium.seen c.grow.new.volume) (g.M.Medium.seen c.write-2.new.volume) c.in_ok-grow.was
    (else_after c.write.result c.in_ok-written.field-0 c.grow.result (g.M.Medium.seen c.args.volume.now) (g.M.Medium.seen c.write.new.volume) (g.M.Medium.seen c.grow.new.volume) c.in_ok-written.was c.write.ensures.only c.grow.ensures.call.medium) c.write-2.ensures.only) (search rules) (search rules)

-- ---- the rest of the disk

pub returns-then-not-branch-clause-rest : goal.returns-then-not-branch-clause-rest
returns-then-not-branch-clause-rest g c = λ d uses b s rs can.
    let old : Seen = g.M.Medium.seen c.args.volume.now in
    let mid : Seen = g.M.Medium.seen c.write.new.volume in
    let none = none_of c.in_ok-written.field-0 c.in_default.not-Some in
    let missing = rw none at ((c.in_ok-written.ensures.put d uses b s rs can).put) in
    let more : Seen = g.M.Medium.seen c.grow.new.volume in
    let first = c.write.ensures.rest d uses b s rs can in
    grown_rest old mid d uses c.args.self.now b s rs c.args.bytes.now can c.write.ensures.only.tracks c.write.ensures.only.protected c.write.ensures.only.counted missing more first c.grow.ensures.rest

pub returns-in_err-grow-clause-rest : goal.returns-in_err-grow-clause-rest
returns-in_err-grow-clause-rest g c = λ d uses b s rs can.
    let old : Seen = g.M.Medium.seen c.args.volume.now in
    let mid : Seen = g.M.Medium.seen c.write.new.volume in
    let none = none_of c.in_ok-written.field-0 c.in_default.not-Some in
    let missing = rw none at ((c.in_ok-written.ensures.put d uses b s rs can).put) in
    let more : Seen = g.M.Medium.seen c.grow.new.volume in
    let first = c.write.ensures.rest d uses b s rs can in
    grown_rest old mid d uses c.args.self.now b s rs c.args.bytes.now can c.write.ensures.only.tracks c.write.ensures.only.protected c.write.ensures.only.counted missing more first c.grow.ensures.rest

pub returns-in-Some-2-clause-rest : goal.returns-in-Some-2-clause-rest
returns-in-Some-2-clause-rest g c = λ d uses b s rs can.
    let old : Seen = g.M.Medium.seen c.args.volume.now in
    let mid : Seen = g.M.Medium.seen c.write.new.volume in
    let none = none_of c.in_ok-written.field-0 c.in_default.not-Some in
    let missing = rw none at ((c.in_ok-written.ensures.put d uses b s rs can).put) in
    let more : Seen = g.M.Medium.seen c.grow.new.volume in
    let first = c.write.ensures.rest d uses b s rs can in
    let grows = subst (λ (x : Bool). GrowsToPlace mid more c.args.self.now (Ok x)) c.if-not-branch.false c.in_ok-grow.ensures.grown in
    written_rest old mid d uses c.args.self.now b s rs c.args.bytes.now can c.write.ensures.only.tracks c.write.ensures.only.protected c.write.ensures.only.counted missing more grows c.grow.ensures.call.medium.tracks c.grow.ensures.call.medium.protected c.grow.ensures.call.medium.counted (g.M.Medium.seen c.write-2.new.volume) (grown_rest old mid d uses c.args.self.now b s rs c.args.bytes.now can c.write.ensures.only.tracks c.write.ensures.only.protected c.write.ensures.only.counted missing more first c.grow.ensures.rest) c.write-2.ensures.rest

pub returns-in_err-written-2-clause-rest : goal.returns-in_err-written-2-clause-rest
returns-in_err-written-2-clause-rest g c = λ d uses b s rs can.
    let old : Seen = g.M.Medium.seen c.args.volume.now in
    let mid : Seen = g.M.Medium.seen c.write.new.volume in
    let none = none_of c.in_ok-written.field-0 c.in_default.not-Some in
    let missing = rw none at ((c.in_ok-written.ensures.put d uses b s rs can).put) in
    let more : Seen = g.M.Medium.seen c.grow.new.volume in
    let first = c.write.ensures.rest d uses b s rs can in
    let grows = subst (λ (x : Bool). GrowsToPlace mid more c.args.self.now (Ok x)) c.if-not-branch.false c.in_ok-grow.ensures.grown in
    written_rest old mid d uses c.args.self.now b s rs c.args.bytes.now can c.write.ensures.only.tracks c.write.ensures.only.protected c.write.ensures.only.counted missing more grows c.grow.ensures.call.medium.tracks c.grow.ensures.call.medium.protected c.grow.ensures.call.medium.counted (g.M.Medium.seen c.write-2.new.volume) (grown_rest old mid d uses c.args.self.now b s rs c.args.bytes.now can c.write.ensures.only.tracks c.write.ensures.only.protected c.write.ensures.only.counted missing more first c.grow.ensures.rest) c.write-2.ensures.rest

pub returns-in-None-clause-rest : goal.returns-in-None-clause-rest
returns-in-None-clause-rest g c = λ d uses b s rs can.
    let old : Seen = g.M.Medium.seen c.args.volume.now in
    let mid : Seen = g.M.Medium.seen c.write.new.volume in
    let none = none_of c.in_ok-written.field-0 c.in_default.not-Some in
    let missing = rw none at ((c.in_ok-written.ensures.put d uses b s rs can).put) in
    let more : Seen = g.M.Medium.seen c.grow.new.volume in
    let first = c.write.ensures.rest d uses b s rs can in
    let grows = subst (λ (x : Bool). GrowsToPlace mid more c.args.self.now (Ok x)) c.if-not-branch.false c.in_ok-grow.ensures.grown in
    written_rest old mid d uses c.args.self.now b s rs c.args.bytes.now can c.write.ensures.only.tracks c.write.ensures.only.protected c.write.ensures.only.counted missing more grows c.grow.ensures.call.medium.tracks c.grow.ensures.call.medium.protected c.grow.ensures.call.medium.counted (g.M.Medium.seen c.write-2.new.volume) (grown_rest old mid d uses c.args.self.now b s rs c.args.bytes.now can c.write.ensures.only.tracks c.write.ensures.only.protected c.write.ensures.only.counted missing more first c.grow.ensures.rest) c.write-2.ensures.rest
