use Rattle.std.proofs.Common.{◌≡◌, ◌+◌, ◌-◌, ℕ, List, Option, refl, sym, ap, ◌∙◌, subst, arith}
use Rattle.std.specs.Prelude.{IsOkAnd, option_map}
use Rattle.cbm_medium.specs.Place.{Place}
use Rattle.cbm_medium.specs.Links.{link}
use Rattle.cbm_medium.proofs.Reached.{starts_there, reached_on, one_of, one_start, meets_more, meets_on}
use Rattle.cbm_relfile.specs.Records.{EndsBefore}
use Rattle.cbm_relfile.specs.Missing.{IsStretchMissing}
use Rattle.cbm_relfile.proofs.NotThere.{none_more, none_here, none_after, none_next}
use Rattle.cbm_relfile.proofs.NextStretches.{no_next, begins_next}
use Rattle.cbm_relfile.proofs.reading.next_stretch.Goals as goal

-- the chain ends with this block
pub returns-then-is_end-clause-chain : goal.returns-then-is_end-clause-chain
returns-then-is_end-clause-chain g c = λ x xs w h k.
    no_next c.args.geometry (g.M.Medium.seen c.args.medium.now).content x xs c.args.bytes.now (c.args.place + c.args.count) c.args.count w h k (omega (arith, c.if-afterwards-lt254.false)) c.requires.count.0
    (ap (λ (p : Place). p.track) (sym c.of-next.ensures) ∙ c.if-is_end.ensures.0 refl)

-- the next block reads
pub returns-in_err-more-clause-chain : goal.returns-in_err-more-clause-chain
returns-in_err-more-clause-chain g c = λ x xs w h k.
    let next = begins_next c.args.geometry (g.M.Medium.seen c.args.medium.now).content x xs c.args.bytes.now c.of-next.result (c.args.place + c.args.count) (c.args.place + c.args.count - 254) c.args.count w h k c.of-next.ensures (omega (arith, c.if-afterwards-lt254.false)) c.requires.count.0
    (λ z. let f = c.if-is_end.ensures.1 z in cc) in
    let ok = c.in_err-more.ensures.readable next.has next.reads in
    absurd (cc)

-- the stretch begins in it
pub returns-clause-chain : goal.returns-clause-chain
returns-clause-chain g c = λ x xs w h k.
    let next = begins_next c.args.geometry (g.M.Medium.seen c.args.medium.now).content x xs c.args.bytes.now c.of-next.result (c.args.place + c.args.count) (c.args.place + c.args.count - 254) c.args.count w h k c.of-next.ensures (omega (arith, c.if-afterwards-lt254.false)) c.requires.count.0
    (λ z. let f = c.if-is_end.ensures.1 z in cc) in
    subst (λ (z : Option (List ℕ)). IsOkAnd c.stretch-2.result (λ o. option_map (λ r. r.items) o ≡ z)) next.same
    (c.stretch-2.ensures.chain c.of-next.result next.rest w c.in_ok-more.ensures.ok next.chain)

pub returns-in_err-more-clause-err : goal.returns-in_err-more-clause-err
returns-in_err-more-clause-err g c =
    meets_on c.args.geometry (g.M.Medium.seen c.args.medium.now).content (λ q. q ≡ c.of-next.result) (λ q. q ≡ link c.args.bytes.now) _ c.in_err-more.field-0.0 c.from_residual.result refl c.from_residual.ensures.1
    (one_of c.args.geometry (g.M.Medium.seen c.args.medium.now).content (λ q. q ≡ link c.args.bytes.now) c.of-next.result c.of-next.ensures) c.in_err-more.ensures.err

pub returns-clause-err : goal.returns-clause-err
returns-clause-err g c =
    meets_more c.args.geometry (g.M.Medium.seen c.args.medium.now).content (λ q. q ≡ link c.in_ok-more.more) (λ q. q ≡ link c.args.bytes.now) c.stretch-2.result
    (one_start c.args.geometry (g.M.Medium.seen c.args.medium.now).content (λ q. q ≡ link c.args.bytes.now) (link c.in_ok-more.more) (reached_on c.args.geometry (g.M.Medium.seen c.args.medium.now).content (λ q. q ≡ link c.args.bytes.now) c.of-next.result (link c.in_ok-more.more) c.in_ok-more.more (starts_there c.args.geometry (g.M.Medium.seen c.args.medium.now).content (λ q. q ≡ link c.args.bytes.now) c.of-next.result c.of-next.ensures) c.in_ok-more.ensures.has c.in_ok-more.ensures.ok refl)) c.stretch-2.ensures.err

-- ---- when the chain ends before

pub returns-then-afterwards-lt254-clause-missing : goal.returns-then-afterwards-lt254-clause-missing
returns-then-afterwards-lt254-clause-missing g c =
    none_more (EndsBefore (g.M.Medium.seen c.args.medium.now).content c.args.bytes.now (c.args.place + c.args.count + c.args.count)) (IsStretchMissing (g.M.Medium.seen c.args.medium.now).content c.args.bytes.now (c.args.place + c.args.count) c.args.count) c.stretch.result
    (none_here (g.M.Medium.seen c.args.medium.now).content c.args.bytes.now (c.args.place + c.args.count) c.args.count c.if-afterwards-lt254.true) c.stretch.ensures.short

pub returns-then-is_end-clause-missing : goal.returns-then-is_end-clause-missing
returns-then-is_end-clause-missing g c = none_after (g.M.Medium.seen c.args.medium.now).content c.args.bytes.now c.of-next.result (c.args.place + c.args.count) c.args.count c.if-afterwards-lt254.false c.of-next.ensures (c.if-is_end.ensures.0 refl)

pub returns-clause-missing : goal.returns-clause-missing
returns-clause-missing g c =
    none_more (EndsBefore (g.M.Medium.seen c.args.medium.now).content c.in_ok-more.more (c.args.place + c.args.count - 254 + c.args.count)) (IsStretchMissing (g.M.Medium.seen c.args.medium.now).content c.args.bytes.now (c.args.place + c.args.count) c.args.count) c.stretch-2.result
    (none_next (g.M.Medium.seen c.args.medium.now).content c.args.bytes.now c.in_ok-more.more c.of-next.result (c.args.place + c.args.count) c.args.count c.if-afterwards-lt254.false c.of-next.ensures c.in_ok-more.ensures.ok) c.stretch-2.ensures.short
