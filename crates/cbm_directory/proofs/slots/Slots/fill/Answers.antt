use Rattle.std.proofs.Common.{◌-◌, ap, sym, ◌∙◌, arith}
use Rattle.std.proofs.lemmas.Result.{err_from_is_err_and}
use Rattle.cbm_medium.specs.Place.{Place}
use Rattle.cbm_directory.specs.Slots.{Cursor, listed_left, entries_from, listed_from, listed_after}
use Rattle.cbm_directory.proofs.Stepping.{filled, broken}
use Rattle.cbm_directory.proofs.slots.Slots.fill.Goals as goal

pub returns-in_err-sector-clause-err : goal.returns-in_err-sector-clause-err
unfolding listed_left
returns-in_err-sector-clause-err g c =
    let p = err_from_is_err_and c.from_residual.result c.from_residual.ensures.1 in
    rw (p.1, p.2)
    (ap (λ (r : Cursor). listed_left (g.M.Medium.seen c.args.medium.now).content r) (sym c.self.view_is)
    ∙ broken c.self.inside.geometry (g.M.Medium.seen c.args.medium.now).content c.self.inside.left c.self.inside.number c.self.inside.sector c.self.inside.next
    c.in_err-sector.field-0.0 (omega arith) c.in_err-sector.ensures.step.cut)

pub returns-clause-left : goal.returns-clause-left
unfolding listed_left
returns-clause-left g c =
    ap (λ (q : Place). listed_after (entries_from 8 c.in_ok-sector.sector 0) (listed_from c.self.inside.geometry (g.M.Medium.seen c.args.medium.now).content (c.self.inside.left - 1) q)) c.of-self-inside.ensures
    ∙ sym (filled c.self.inside.geometry (g.M.Medium.seen c.args.medium.now).content c.self.inside.left (c.self.inside.left - 1) c.self.inside.number c.self.inside.sector c.in_ok-sector.sector
    c.self.inside.next (omega arith) c.in_ok-sector.ensures.ok c.in_ok-sector.ensures.step.followed)
    ∙ ap (λ (r : Cursor). listed_left (g.M.Medium.seen c.args.medium.now).content r) c.self.view_is
