use Rattle.std.proofs.lemmas.Result.{err_from_is_err_and}
use Rattle.cbm_medium.proofs.Sequences.{only_nothing}
use Rattle.cbm_relfile.proofs.growth.filling.fill_tail.Goals as goal

-- the block isn't there
pub returns-in_err-at-clause-only : goal.returns-in_err-at-clause-only
returns-in_err-at-clause-only g c =
    let p = err_from_is_err_and c.from_residual.result c.from_residual.ensures.1 in
    only_nothing c.from_residual.result (g.M.Medium.seen c.args.medium.now) (g.M.Medium.seen c.args.medium.now) (λ i. g.M.Medium.seen c.args.medium.now)
    (rw (p.1, p.2) (λ is. absurd (c.in_err-at.ensures.never_26 is)))
    (rw (p.1, p.2) c.in_err-at.ensures.shown)
