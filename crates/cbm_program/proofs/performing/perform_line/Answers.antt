use Rattle.std.proofs.Common.{Err, ap, ◌∙◌}
use Rattle.std.proofs.lemmas.Result.{err_from_is_err_and}
use Rattle.cbm_host.specs.Hosted.{Rests}
use Rattle.cbm_volume.proofs.layouts.Calls.{ok_any}
use Rattle.cbm_program.proofs.LinePrints.{asks-prints, asks-part, asks-broken, if_err, none_ok, same_err}
use Rattle.cbm_program.proofs.OutputLemmas.{grows_kept}
use Rattle.cbm_program.proofs.performing.perform_line.Goals as goal

pub returns-in_ok-perform-in-Asks-clause-printed : goal.returns-in_ok-perform-in-Asks-clause-printed
returns-in_ok-perform-in-Asks-clause-printed g c =
    let rests = Rests g.M.Medium.seen in
    let printed = c.in_ok-perform-in-Asks.ensures.printed in
    record {
      ok = ok_any c.flush.result (asks-prints c.args.drive.now.pace _ _ _ (rests c.args.drive.now) (rests c.perform.new.drive) _ _ c.in-Asks.is printed.ok c.flush.ensures.bytes);
      err = if_err c.flush.result (asks-part c.args.drive.now.pace _ _ _ (rests c.args.drive.now) (rests c.perform.new.drive) _ _ c.in-Asks.is printed.ok c.flush.ensures.bytes);
      grows = grows_kept _ _ _ printed.grows c.flush.ensures.bytes;
      fault = c.flush.ensures.fault;
    }

pub returns-in_err-perform-in-Asks-clause-printed : goal.returns-in_err-perform-in-Asks-clause-printed
returns-in_err-perform-in-Asks-clause-printed g c =
    let rests = Rests g.M.Medium.seen in
    let printed = c.in_err-perform-in-Asks.ensures.printed in
    let p = err_from_is_err_and c.from_residual.result c.from_residual.ensures.1 in
    record {
      ok = none_ok c.from_residual.result _ _ (p.1 ∙ ap Err p.2);
      err = if_err c.from_residual.result (asks-broken c.args.drive.now.pace _ _ (rests c.args.drive.now) _ _ c.in-Asks.is printed.err);
      grows = printed.grows;
      fault = same_err c.from_residual.result _ _ (p.1 ∙ ap Err p.2) printed.fault;
    }
