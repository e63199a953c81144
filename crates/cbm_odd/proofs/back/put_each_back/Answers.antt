use Rattle.std.proofs.Common.{refl, ap, ◌∙◌, Err}
use Rattle.std.proofs.lemmas.Result.{err_from_is_err_and}
use Rattle.std.proofs.lemmas.List.{drop_all}
use Rattle.cbm_odd.proofs.AwayLemmas.{one_off, backing-start, backing-on, backing-end, failing-on, failing-here}
use Rattle.cbm_odd.proofs.back.put_each_back.Goals as goal

pub loop-odd-init : goal.loop-odd-init
loop-odd-init g c = (backing-start c.args.geometry _ _ _ refl, refl, λ f h. h, refl)

pub loop-odd-preserved : goal.loop-odd-preserved
loop-odd-preserved g c =
    let old = g.M.Medium.seen c.args.medium.now in
    let now = g.M.Medium.seen c.loop-odd.medium in
    let next = g.M.Medium.seen c.put_one_back.new.medium in
    let inv = c.loop-odd.invariant in
    let begins = one_off c.args.odds.now c.odd-item.result c.loop-odd.odd-index c.odd-item.is c.loop-odd-test.true in (
      backing-on c.args.geometry _ _ _ _ old.content now.content next.content inv.0 begins c.in_ok-put_one_back.ensures.back,
      c.put_one_back.ensures.tracks ∙ inv.1,
      λ f h. inv.2 f (failing-on c.args.geometry _ _ c.odd-item.result now.content next.content f begins c.in_ok-put_one_back.ensures.back h),
      c.put_one_back.ensures.outside ∙ inv.3,
    )

pub returns-in_err-put_one_back-clause-fault : goal.returns-in_err-put_one_back-clause-fault
returns-in_err-put_one_back-clause-fault g c =
    let now = g.M.Medium.seen c.loop-odd.medium in
    let begins = one_off c.args.odds.now c.odd-item.result c.loop-odd.odd-index c.odd-item.is c.loop-odd-test.true in
    let p = err_from_is_err_and c.from_residual.result c.from_residual.ensures.1 in
    rw (p.1 ∙ ap Err p.2) (c.loop-odd.invariant.2 _ (failing-here c.args.geometry _ _ c.odd-item.result now.content _ begins c.in_err-put_one_back.ensures.fault))

pub returns-clause-back : goal.returns-clause-back
returns-clause-back g c =
    backing-end c.args.geometry _ _ (g.M.Medium.seen c.args.medium.now).content (g.M.Medium.seen c.loop-odd.medium).content c.loop-odd.invariant.0
    (drop_all c.loop-odd.odd-index c.args.odds.now c.loop-odd-test.false)
