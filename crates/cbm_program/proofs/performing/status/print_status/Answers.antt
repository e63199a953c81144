use Rattle.std.proofs.Common.{rules, ◌≡◌, ◌++◌, codes}
use Rattle.std.proofs.lemmas.Result.{on_ok_weaker, on_err_weaker}
use Rattle.cbm_machine.specs.Calls.{without_return}
use Rattle.cbm_talk.specs.Talks.{status_said}
use Rattle.cbm_program.proofs.StatusLemmas.{status_all, status_part}
use Rattle.cbm_program.proofs.performing.status.print_status.Goals as goal

pub returns-clause-printed : goal.returns-clause-printed
returns-clause-printed g c =
    let line : c.as_slice-2.result.now ≡ codes "status " ++ without_return c.status_line-told.result.items ++ codes "\n" = search rules in
    record {
      ok = on_ok_weaker c.print.result (λ written m r. (status_all _ _ (status_said m) c.status_line-told.result.items c.as_slice-2.result.now (c.status_line-told.ensures.told m r).0 line written, (c.status_line-told.ensures.told m r).1)) c.print.ensures.ok;
      err = on_err_weaker c.print.result (λ part m r. status_part _ _ (status_said m) c.status_line-told.result.items c.as_slice-2.result.now (c.status_line-told.ensures.told m r).0 line part) c.print.ensures.err;
      grows = c.print.ensures.grows;
      fault = c.print.ensures.fault;
    }
