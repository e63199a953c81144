use Rattle.std.proofs.Common.{◌∙◌, ap, Err}
use Rattle.std.proofs.lemmas.Result.{err_from_is_err_and}
use Rattle.cbm_shell.specs.Readable.{readable}
use Rattle.cbm_shell.proofs.looking.listing.list.Goals as goal

pub returns-in_err-bytes-clause-sent : goal.returns-in_err-bytes-clause-sent
returns-in_err-bytes-clause-sent g c = λ m s.
    let p = err_from_is_err_and c.from_residual.result c.from_residual.ensures.1 in
    rw (p.1 ∙ ap Err p.2) (c.in_err-bytes.ensures.sent m s)

pub returns-clause-sent : goal.returns-clause-sent
returns-clause-sent g c = λ m s.
    let told = c.in_ok-bytes.ensures.sent m s in
    record { fine = told.fine; same = c.in_ok-lines.ensures ∙ ap (readable c.args.charset) (c.as_slice.ensures.value ∙ told.same) }
