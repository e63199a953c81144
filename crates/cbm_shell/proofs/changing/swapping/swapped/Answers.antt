use Rattle.std.proofs.Common.{ap, ◌∙◌, Err}
use Rattle.std.proofs.lemmas.Result.{err_from_is_err_and}
use Rattle.cbm_shell.proofs.SwapLemmas.{missed_at}
use Rattle.cbm_shell.proofs.changing.swapping.swapped.Goals as goal

pub returns-in_err-swap_each-clause-fault : goal.returns-in_err-swap_each-clause-fault
returns-in_err-swap_each-clause-fault g c = λ can.
    let p = err_from_is_err_and c.from_residual.result c.from_residual.ensures.1 in
    rw (p.1 ∙ ap Err p.2) (missed_at g.M.Medium.seen c.args.volume c.into_medium-medium.result c.geometry-geometry.result c.args.swaps.now c.in_err-swap_each.field-0.0
    c.into_medium-medium.ensures c.geometry-geometry.ensures.value can c.in_err-swap_each.ensures.fault)
