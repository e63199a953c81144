use Rattle.std.proofs.Common.{Ok, ap, subst, arith}
use Rattle.std.proofs.lemmas.Result.{err_from_is_err_and}
use Rattle.cbm_medium.specs.Seen.{Seen, OnlyContent}
use Rattle.cbm_medium.proofs.Sequences.{write_only, write_refused}
use Rattle.cbm_volume.proofs.volume.Volume.write_raw.Goals as goal

-- ---- the medium refuses

pub returns-in_err-write-clause-only : goal.returns-in_err-write-clause-only
returns-in_err-write-clause-only g c =
    let new : Seen = g.M.Medium.seen c.write.new.self in
    let p = err_from_is_err_and c.from_residual.result c.from_residual.ensures.1 in
    subst (λ v. OnlyContent (g.M.Medium.seen v).tracks c.from_residual.result (g.M.Medium.seen v) new) c.self.view_is
    (write_refused c.from_residual.result p.0 c.in_err-write.field-0.0 c.args.at (g.M.Medium.seen c.self.inside.medium) new p.1 p.2 c.in_err-write.ensures.err.0 c.in_err-write.ensures.err.1)

-- ---- it is written

pub returns-clause-only : goal.returns-clause-only
returns-clause-only g c =
    let seen = g.M.Medium.seen in
    let new : Seen = seen c.write.new.self in
    subst (λ v. OnlyContent (seen v).tracks (Ok tt) (seen v) new) c.self.view_is
    (let few = ap (λ v. (seen v).tracks) c.self.view_is in
    write_only (seen c.self.inside.medium) new c.args.at c.args.bytes.now (omega (arith, c.requires, few)) c.in_ok-write.ensures.ok)
