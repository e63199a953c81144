use Rattle.std.proofs.Common.{rules, ap, sym, ◌∙◌, Ok}
use Rattle.cbm_volume.proofs.mended.Viewed.{view_reads, view_faults}
use Rattle.cbm_volume.proofs.disk.view.ClosedViewMedium.read.Goals as goal

pub returns-in_err-sector-clause-err : goal.returns-in_err-sector-clause-err
returns-in_err-sector-clause-err g c =
    let fault = view_faults c.args.self.now.geometry (g.M.Medium.seen c.args.self.now.medium.now).content c.args.at _ c.in_err-sector.ensures.err.0 in search rules

pub returns-clause-ok : goal.returns-clause-ok
returns-clause-ok g c =
    view_reads c.args.self.now.geometry (g.M.Medium.seen c.args.self.now.medium.now).content c.args.at c.in_ok-sector.sector c.in_ok-sector.ensures.ok ∙ ap (λ x. Ok x) (sym c.shown.ensures)
