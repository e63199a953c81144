use Rattle.std.proofs.Common.{◌∙◌, Err, ap}
use Rattle.std.specs.Prelude.{map}
use Rattle.std.proofs.lemmas.Result.{err_from_is_err_and}
use Rattle.cbm_channel.specs.Standing.{Stands}
use Rattle.cbm_channel.proofs.Steady.{steady_open, steady_close}
use Rattle.cbm_shell.proofs.RecordLemmas.{records_made, unopened, unheard}
use Rattle.cbm_channel.proofs.Goings.{keeps_then}
use Rattle.cbm_shell.proofs.changing.recording.record_on.Goals as goal

pub returns-in_err-told-clause-made : goal.returns-in_err-told-clause-made
returns-in_err-told-clause-made g c = λ m s.
    let seen = g.M.Medium.seen in
    let opened = steady_open seen g.met.M.Steady.steady c.args.dos.now c.open.new.self 2 c.args.file.text.now c.open.ensures.goes m s in
    let p = err_from_is_err_and c.from_residual.result c.from_residual.ensures.1 in
    rw (p.1 ∙ ap Err p.2) (unopened c.args.file.text.now (map (λ r. r.now) c.args.file.records.now) m _ _ (c.status.ensures.status _ opened) c.in_err-told.ensures.0 c.in_err-told.ensures.1)

pub returns-in_err-hear_each-clause-made : goal.returns-in_err-hear_each-clause-made
returns-in_err-hear_each-clause-made g c = λ m s.
    let seen = g.M.Medium.seen in
    let opened = steady_open seen g.met.M.Steady.steady c.args.dos.now c.open.new.self 2 c.args.file.text.now c.open.ensures.goes m s in
    let p = err_from_is_err_and c.from_residual-in_err-hear_each.result c.from_residual-in_err-hear_each.ensures.1 in
    rw (p.1 ∙ ap Err p.2) (unheard c.args.file.text.now (map (λ r. r.now) c.args.file.records.now) m _ (c.in_err-hear_each.ensures.stopped _ opened))

pub returns-clause-made : goal.returns-clause-made
returns-clause-made g c = λ m s.
    let seen = g.M.Medium.seen in
    let opened = steady_open seen g.met.M.Steady.steady c.args.dos.now c.open.new.self 2 c.args.file.text.now c.open.ensures.goes m s in
    let closed = steady_close seen g.met.M.Steady.steady c.hear_each.new.dos c.close.new.self 2 c.close.ensures.goes _ (c.in_ok-hear_each.ensures.leads _ opened) in
    records_made c.args.file.text.now (map (λ r. r.now) c.args.file.records.now) m (Stands seen c.close.new.self) c.told-2.result c.status-2.result closed
    (c.status-2.ensures.status _ closed) c.told-2.ensures

-- ---- what it makes of the medium

pub returns-in_err-hear_each-clause-medium : goal.returns-in_err-hear_each-clause-medium
returns-in_err-hear_each-clause-medium g c = keeps_then _ _ _ c.open.ensures.leaves.medium c.hear_each.ensures.medium

pub returns-clause-medium : goal.returns-clause-medium
returns-clause-medium g c = keeps_then _ _ _ (keeps_then _ _ _ c.open.ensures.leaves.medium c.hear_each.ensures.medium) c.close.ensures.leaves.medium
