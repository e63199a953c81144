use Rattle.std.proofs.Common.{◌≡◌, ℕ, ◌≤◌, length, refl, sym, subst, arith, inl, inr}
use Rattle.cbm_medium.proofs.Reached.{walked_there, one_start, meets_on}
use Rattle.cbm_medium.proofs.Passed.{walks_none, walks_more}
use Rattle.cbm_relfile.proofs.Counted.{walked_none, walked_end, walked_on, walked_more, walked_all}
use Rattle.cbm_relfile.proofs.counting.block_count.Goals as goal

pub loop-passed-init : goal.loop-passed-init
loop-passed-init g c = (λ blocks h. walked_none c.args.geometry (g.M.Medium.seen c.args.medium.now).content c.args.first blocks h, walks_none c.args.geometry (g.M.Medium.seen c.args.medium.now).content c.args.first)

pub returns-then-is_end-clause-chain : goal.returns-then-is_end-clause-chain
returns-then-is_end-clause-chain g c = λ blocks h short. walked_end c.args.geometry (g.M.Medium.seen c.args.medium.now).content c.loop-passed.at blocks c.loop-passed.passed (c.loop-passed.invariant.0 blocks h) (c.if-is_end.ensures.0 refl)

pub returns-in_err-bytes-clause-chain : goal.returns-in_err-bytes-clause-chain
returns-in_err-bytes-clause-chain g c = λ blocks h short.
    let next = walked_on c.args.geometry (g.M.Medium.seen c.args.medium.now).content c.loop-passed.at blocks c.loop-passed.passed (c.loop-passed.invariant.0 blocks h) (λ z. let f = c.if-is_end.ensures.1 z in cc) in
    let ok = c.in_err-bytes.ensures.readable next.has next.reads in
    absurd (cc)

pub loop-passed-preserved : goal.loop-passed-preserved
loop-passed-preserved g c = (
  λ blocks h.
      walked_more c.args.geometry (g.M.Medium.seen c.args.medium.now).content c.loop-passed.at c.of-at.result blocks c.loop-passed.passed c.in_ok-bytes.bytes
      (c.loop-passed.invariant.0 blocks h) (λ z. let f = c.if-is_end.ensures.1 z in cc) c.in_ok-bytes.ensures.ok c.of-at.ensures,
  walks_more c.args.geometry (g.M.Medium.seen c.args.medium.now).content c.args.first c.loop-passed.at c.of-at.result c.loop-passed.passed c.in_ok-bytes.bytes c.loop-passed.invariant.1 c.in_ok-bytes.ensures.has c.in_ok-bytes.ensures.ok c.of-at.ensures,
)

pub returns-clause-chain : goal.returns-clause-chain
returns-clause-chain g c = λ blocks h short. walked_all c.args.geometry (g.M.Medium.seen c.args.medium.now).content c.loop-passed.at blocks c.loop-passed.passed c.sectors-sectors.result (c.loop-passed.invariant.0 blocks h) (subst (λ (m : ℕ). length blocks ≤ m) (sym c.sectors-sectors.ensures) short) c.loop-passed-test.false

pub returns-then-is_end-clause-walked : goal.returns-then-is_end-clause-walked
returns-then-is_end-clause-walked g c = let w = c.loop-passed.invariant.1 in record { blocks = w.blocks; afterwards = c.loop-passed.at; number = w.number; leads = w.leads; ends = inl (c.if-is_end.ensures.0 refl) }

pub returns-clause-walked : goal.returns-clause-walked
returns-clause-walked g c =
    let w = c.loop-passed.invariant.1 in
    record { blocks = w.blocks; afterwards = c.loop-passed.at; number = omega (arith, w.number, c.loop-passed-test.false, c.loop-passed.auto.passed-end); leads = w.leads; ends = inr c.sectors-sectors.ensures }

pub returns-in_err-bytes-clause-err : goal.returns-in_err-bytes-clause-err
returns-in_err-bytes-clause-err g c =
    meets_on c.args.geometry (g.M.Medium.seen c.args.medium.now).content (λ q. q ≡ c.loop-passed.at) (λ q. q ≡ c.args.first) _ c.in_err-bytes.field-0.0 c.from_residual.result refl c.from_residual.ensures.1
    (one_start c.args.geometry (g.M.Medium.seen c.args.medium.now).content (λ q. q ≡ c.args.first) c.loop-passed.at (walked_there c.args.geometry (g.M.Medium.seen c.args.medium.now).content (λ q. q ≡ c.args.first) c.args.first c.loop-passed.at c.loop-passed.passed refl c.loop-passed.invariant.1)) c.in_err-bytes.ensures.err
