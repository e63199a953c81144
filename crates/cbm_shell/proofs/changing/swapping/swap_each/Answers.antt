use Rattle.std.proofs.Common.{◌+◌, drop, refl, sym, ap, subst, ◌∙◌, inr, Err}
use Rattle.std.proofs.lemmas.List.{drop_all}
use Rattle.std.proofs.lemmas.Result.{err_from_is_err_and}
use Rattle.cbm_shell.specs.Swapping.{MissesSlot}
use Rattle.cbm_shell.proofs.RecordLemmas.{next_off}
use Rattle.cbm_shell.proofs.SwapLemmas.{swapping-start, swapping-on, swapping-end, misses_first}
use Rattle.cbm_shell.proofs.changing.swapping.swap_each.Goals as goal

pub loop-swap-init : goal.loop-swap-init
loop-swap-init g c = (swapping-start c.args.geometry _ _ _ refl, record { tracks = refl; protected = refl; outside = refl }, λ sectors h. h, λ m. m)

pub loop-swap-preserved : goal.loop-swap-preserved
loop-swap-preserved g c =
    let old = g.M.Medium.seen c.args.medium.now in
    let now = g.M.Medium.seen c.loop-swap.medium in
    let next = g.M.Medium.seen c.swap_two.new.medium in
    let inv = c.loop-swap.invariant in
    let begins = next_off c.args.swaps.now c.loop-swap.swap-index _ c.loop-swap-test.true in (
      swapping-on c.args.geometry _ _ _ _ old.content now.content next.content inv.0 begins c.in_ok-swap_two.ensures.swaps,
      record { tracks = c.swap_two.ensures.same.tracks ∙ inv.1.tracks; protected = c.swap_two.ensures.same.protected ∙ inv.1.protected; outside = c.swap_two.ensures.same.outside ∙ inv.1.outside },
      λ sectors h. c.in_ok-swap_two.ensures.directory sectors (inv.2 sectors h),
      λ m. inv.3 (subst (λ l. MissesSlot c.args.geometry old.content l) (sym begins) (inr (inr m))),
    )

pub returns-in_err-swap_two-clause-fault : goal.returns-in_err-swap_two-clause-fault
returns-in_err-swap_two-clause-fault g c = λ sectors h free.
    let old = g.M.Medium.seen c.args.medium.now in
    let now = g.M.Medium.seen c.loop-swap.medium in
    let inv = c.loop-swap.invariant in
    let p = err_from_is_err_and c.from_residual.result c.from_residual.ensures.1 in
    let begins = next_off c.args.swaps.now c.loop-swap.swap-index _ c.loop-swap-test.true in
    let none = c.in_err-swap_two.ensures.fault sectors (inv.2 sectors h) (inv.1.protected ∙ free) in
    rw (p.1 ∙ ap Err p.2) (
      none.0,
      inv.3 (subst (λ l. MissesSlot c.args.geometry old.content l) (sym begins)
          (misses_first c.args.geometry old.content now.content sectors _ (drop (c.loop-swap.swap-index + 1) c.args.swaps.now) h (inv.2 sectors h) none.1)),
    )

pub returns-clause-swapped : goal.returns-clause-swapped
returns-clause-swapped g c =
    swapping-end c.args.geometry _ _ (g.M.Medium.seen c.args.medium.now).content (g.M.Medium.seen c.loop-swap.medium).content c.loop-swap.invariant.0
    (drop_all c.loop-swap.swap-index c.args.swaps.now c.loop-swap-test.false)
