use Rattle.std.proofs.Common.{◌∙◌, Err, ap}
use Rattle.std.proofs.lemmas.Result.{err_from_is_err_and}
use Rattle.cbm_channel.specs.Standing.{Stands}
use Rattle.cbm_channel.proofs.Steady.{steady_open, steady_close}
use Rattle.cbm_shell.specs.declared.changing.DiskChange.TheVariants.{File}
use Rattle.cbm_shell.proofs.ChangeLemmas.{made, not_begun}
use Rattle.cbm_channel.proofs.Goings.{keeps_free, keeps_then}
use Rattle.cbm_shell.proofs.changing.apply.Goals as goal

pub returns-in_ok-told-in-File-clause-made : goal.returns-in_ok-told-in-File-clause-made
returns-in_ok-told-in-File-clause-made g c = rw c.in-File.is (λ m s.
    let seen = g.M.Medium.seen in
    let opened = steady_open seen g.met.M.Steady.steady c.args.dos.now c.open-in-File.new.self 2 c.in-File.text.now c.open-in-File.ensures.goes m s in
    let closed = steady_close seen g.met.M.Steady.steady c.hear.new.dos c.close.new.self 2 c.close.ensures.goes _ (c.hear.ensures.leads _ opened) in
    made (File c.in-File.text c.in-File.bytes) m (Stands seen c.close.new.self) c.told-in-File-2.result c.status-in-File-2.result closed (c.status-in-File-2.ensures.status _ closed) c.told-in-File-2.ensures)

-- it wasn't opened
pub returns-in_err-told-in-File-clause-made : goal.returns-in_err-told-in-File-clause-made
returns-in_err-told-in-File-clause-made g c = rw c.in-File.is (λ m s.
    let seen = g.M.Medium.seen in
    let opened = steady_open seen g.met.M.Steady.steady c.args.dos.now c.open-in-File.new.self 2 c.in-File.text.now c.open-in-File.ensures.goes m s in
    let p = err_from_is_err_and c.from_residual.result c.from_residual.ensures.1 in
    not_begun (File c.in-File.text c.in-File.bytes) m (Stands seen c.open-in-File.new.self) c.from_residual.result _ _ (p.1 ∙ ap Err p.2) (c.status-in-File.ensures.status _ opened) c.in_err-told-in-File.ensures.0 c.in_err-told-in-File.ensures.1)

-- ---- what it makes of the medium

pub returns-in_ok-told-in-File-clause-medium : goal.returns-in_ok-told-in-File-clause-medium
returns-in_ok-told-in-File-clause-medium g c = keeps_free _ _ (keeps_then _ _ _ (keeps_then _ _ _ c.open-in-File.ensures.leaves.medium c.hear.ensures.medium) c.close.ensures.leaves.medium)
