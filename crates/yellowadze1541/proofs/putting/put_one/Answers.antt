use Rattle.std.proofs.Common.{◌∙◌, Err, ap, inl}
use Rattle.std.proofs.lemmas.Result.{err_from_is_err_and}
use Rattle.cbm_channel.specs.Standing.{Stands}
use Rattle.cbm_channel.proofs.Steady.{steady_open, steady_close}
use Rattle.cbm_device.specs.Making.{opened_for}
use Rattle.yellowadze1541.specs.Putting.{after_file}
use Rattle.yellowadze1541.proofs.PuttingLemmas.{put_or_not}
use Rattle.yellowadze1541.proofs.putting.put_one.Goals as goal

-- it wasn't opened
pub returns-in_err-told-clause-put : goal.returns-in_err-told-clause-put
returns-in_err-told-clause-put g c = λ m s.
    let seen = g.M.Medium.seen in
    let opened = steady_open seen g.met.M.Steady.steady c.args.dos.now c.open.new.self 2 c.args.file.now.text.now c.open.ensures.goes m s in
    let p = err_from_is_err_and c.from_residual.result c.from_residual.ensures.1 in
    rw (p.1 ∙ ap Err p.2) (c.status.result, record { told = inl (c.status.ensures.status _ opened); error = c.in_err-told.ensures.1 }, c.in_err-told.ensures.0)

pub returns-clause-put : goal.returns-clause-put
returns-clause-put g c = λ m s.
    let seen = g.M.Medium.seen in
    let file = c.args.file.now in
    let opened = steady_open seen g.met.M.Steady.steady c.args.dos.now c.open.new.self 2 file.text.now c.open.ensures.goes m s in
    let closed = steady_close seen g.met.M.Steady.steady c.hear.new.dos c.close.new.self 2 c.close.ensures.goes _ (c.hear.ensures.leads _ opened) in
    put_or_not (opened_for file.text.now m) (after_file file m) (Stands seen c.close.new.self) c.told-2.result c.status-2.result closed (c.status-2.ensures.status _ closed) c.told-2.ensures
