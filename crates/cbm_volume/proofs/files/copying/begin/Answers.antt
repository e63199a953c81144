use Rattle.std.proofs.Common.{ℕ, subst}
use Rattle.cbm_medium.specs.Content.{Content}
use Rattle.cbm_volume.specs.Copying.{BeginsCopyLed}
use Rattle.cbm_medium.specs.Seen.{Seen}
use Rattle.cbm_volume.specs.Copies.{IsCopyCut}
use Rattle.cbm_volume.proofs.copied.CopySteps.{handed}
use Rattle.cbm_volume.proofs.copied.CopyEnds.{begin_cut, begin_place, begin_ready, claim_cut, claim_place, claim_made}
use Rattle.cbm_volume.proofs.OneAfterAnother.{both_done}
use Rattle.cbm_volume.proofs.layouts.OnDisks.{of_tracks}
use Rattle.cbm_volume.proofs.files.copying.begin.Goals as goal

pub returns-in_err-number-clause-begun : goal.returns-in_err-number-clause-begun
returns-in_err-number-clause-begun g c = λ d uses ch h idle some room.
    let old : Seen = g.M.Medium.seen c.args.medium.now in
    let new : Seen = g.M.Medium.seen c.empty_slot.new.medium in
    handed c.from_residual.result c.in_err-number.field-0.0 _ (IsCopyCut old new old.content h.layout d uses) c.from_residual.ensures.1
    (begin_cut old new c.geometry-geometry.result c.in_err-number.field-0.0 d uses h c.geometry-geometry.ensures.value c.in_err-number.ensures.stopped c.in_err-number.ensures.cause)

pub returns-in_default-clause-begun : goal.returns-in_default-clause-begun
returns-in_default-clause-begun g c = λ d uses ch h idle some room.
    absurd (begin_place (g.M.Medium.seen c.args.medium.now) (g.M.Medium.seen c.empty_slot.new.medium) c.geometry-geometry.result c.in_ok-number.field-0 d uses h c.geometry-geometry.ensures.value c.in_default.is c.in_ok-number.ensures.taken some)

pub returns-in_err-chain-clause-begun : goal.returns-in_err-chain-clause-begun
returns-in_err-chain-clause-begun g c = λ d uses ch h idle some room.
    let old : Seen = g.M.Medium.seen c.args.medium.now in
    let mid : Seen = g.M.Medium.seen c.empty_slot.new.medium in
    let new : Seen = g.M.Medium.seen c.begin.new.medium in
    handed c.from_residual-in_err-chain.result c.in_err-chain.field-0.0 _ (IsCopyCut old new old.content h.layout d uses) c.from_residual-in_err-chain.ensures.1
    (claim_cut old mid new c.in-Some.number c.in_err-chain.field-0.0 d uses h (begin_ready old mid c.geometry-geometry.result c.in-Some.number c.in_ok-number.field-0 d uses h c.geometry-geometry.ensures.value c.in-Some.is c.in_ok-number.ensures.taken)
    c.empty_slot.ensures.only.protected c.empty_slot.ensures.only.counted c.in_err-chain.ensures.err c.in_err-chain.ensures.cause)

pub returns-in_default-2-clause-begun : goal.returns-in_default-2-clause-begun
returns-in_default-2-clause-begun g c = λ d uses ch h idle some room.
    let old : Seen = g.M.Medium.seen c.args.medium.now in
    let mid : Seen = g.M.Medium.seen c.empty_slot.new.medium in
    absurd (claim_place old mid (g.M.Medium.seen c.begin.new.medium) c.geometry-geometry.result c.in-Some.number c.in_ok-chain.field-0 d uses h
    (begin_ready old mid c.geometry-geometry.result c.in-Some.number c.in_ok-number.field-0 d uses h c.geometry-geometry.ensures.value c.in-Some.is c.in_ok-number.ensures.taken) c.geometry-geometry.ensures.value room c.in_default-2.is c.in_ok-chain.ensures.begun)

pub returns-clause-begun : goal.returns-clause-begun
returns-clause-begun g c = λ d uses ch h idle some room.
    let old : Seen = g.M.Medium.seen c.args.medium.now in
    let mid : Seen = g.M.Medium.seen c.empty_slot.new.medium in
    claim_made old mid (g.M.Medium.seen c.begin.new.medium) c.geometry-geometry.result c.in-Some.number c.in_ok-chain.field-0 c.in-Some-2.chain d uses ch h idle
    (begin_ready old mid c.geometry-geometry.result c.in-Some.number c.in_ok-number.field-0 d uses h c.geometry-geometry.ensures.value c.in-Some.is c.in_ok-number.ensures.taken) c.geometry-geometry.ensures.value c.in-Some-2.is c.in_ok-chain.ensures.begun

pub returns-clause-only : goal.returns-clause-only
returns-clause-only g c =
    of_tracks c.geometry-geometry.result _ (g.M.Medium.seen c.args.medium.now) (g.M.Medium.seen c.begin.new.medium) c.geometry-geometry.ensures.value
    (both_done _ c.in_ok-number.was c.in_ok-chain.was c.empty_slot.ensures.only c.begin.ensures.only)

-- ---- on any disk

pub returns-clause-led : goal.returns-clause-led
returns-clause-led g c =
    let old : Content = (g.M.Medium.seen c.args.medium.now).content in
    let new : Content = (g.M.Medium.seen c.begin.new.medium).content in
    let claimed = rw c.in-Some-2.is at c.in_ok-chain.ensures.begun in
    subst (λ (k : ℕ). BeginsCopyLed k old new (c.in-Some.number, c.in-Some-2.chain)) c.geometry-geometry.ensures.value
    ((g.M.Medium.seen c.empty_slot.new.medium).content, rw c.in-Some.is at c.in_ok-number.ensures.taken, claimed.0, claimed.1, claimed.2)
