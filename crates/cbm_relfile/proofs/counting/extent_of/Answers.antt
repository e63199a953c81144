use Rattle.std.proofs.Common.{◌≡◌, refl, inl, inr}
use Rattle.cbm_medium.proofs.Reached.{one_of, meets_on}
use Rattle.cbm_relfile.specs.OfFile.{IsOfFile}
use Rattle.cbm_relfile.proofs.counting.extent_of.Goals as goal

pub returns-in_err-blocks-clause-err : goal.returns-in_err-blocks-clause-err
returns-in_err-blocks-clause-err g c =
    meets_on c.args.geometry (g.M.Medium.seen c.args.medium.now).content (λ q. q ≡ c.first.result) (IsOfFile c.args.geometry (g.M.Medium.seen c.args.medium.now).content c.args.file) _ c.in_err-blocks.field-0.0 c.from_residual.result refl c.from_residual.ensures.1
    (one_of c.args.geometry (g.M.Medium.seen c.args.medium.now).content (IsOfFile c.args.geometry (g.M.Medium.seen c.args.medium.now).content c.args.file) c.first.result (inl c.first.ensures)) c.in_err-blocks.ensures.err

pub returns-in_err-head-clause-err : goal.returns-in_err-head-clause-err
returns-in_err-head-clause-err g c =
    meets_on c.args.geometry (g.M.Medium.seen c.args.medium.now).content (λ q. q ≡ c.side.result) (IsOfFile c.args.geometry (g.M.Medium.seen c.args.medium.now).content c.args.file) _ c.in_err-head.field-0.0 c.from_residual-in_err-head.result refl c.from_residual-in_err-head.ensures.1
    (one_of c.args.geometry (g.M.Medium.seen c.args.medium.now).content (IsOfFile c.args.geometry (g.M.Medium.seen c.args.medium.now).content c.args.file) c.side.result (inr (inl (inl c.side.ensures)))) c.in_err-head.ensures.err
