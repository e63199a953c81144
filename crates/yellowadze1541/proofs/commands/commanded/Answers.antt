use Rattle.std.proofs.Common.{◌∙◌, Err, ap, sym, subst}
use Rattle.std.proofs.lemmas.Result.{err_from_is_err_and}
use Rattle.cbm_volume.specs.Holding.{HoldsDisk}
use Rattle.cbm_machine.specs.Machines.{start}
use Rattle.cbm_channel.proofs.Stands.{means_of}
use Rattle.cbm_channel.proofs.Steady.{steady_open}
use Rattle.cbm_shell.specs.Changing.{IsFine}
use Rattle.cbm_device.specs.Making.{after_command}
use Rattle.yellowadze1541.specs.Commands.{IsSaidOf}
use Rattle.yellowadze1541.proofs.CommandLemmas.{command_refused}
use Rattle.yellowadze1541.proofs.commands.commanded.Goals as goal

pub returns-in_err-told-clause-done : goal.returns-in_err-told-clause-done
returns-in_err-told-clause-done g c = λ d h.
    let seen = g.M.Medium.seen in
    let text = c.args.text.now in
    let old = seen c.args.medium in
    let m = start d old.protected old.tracks in
    let opened = steady_open seen g.met.M.Steady.steady c.new-dos.result c.open.new.self 15 text c.open.ensures.goes m (c.new-dos.ensures.stands d h) in
    let p = err_from_is_err_and c.from_residual.result c.from_residual.ensures.1 in
    rw (p.1 ∙ ap Err p.2) (command_refused (after_command text m) c.said.result c.status.result c.status-2.result c.in_err-told.field-0.0 (c.status.ensures.status _ opened)
    (c.status-2.ensures.status _ opened) c.said.ensures c.in_err-told.ensures)

pub returns-clause-done : goal.returns-clause-done
returns-clause-done g c = λ d h.
    let seen = g.M.Medium.seen in
    let text = c.args.text.now in
    let old = seen c.args.medium in
    let after = after_command text (start d old.protected old.tracks) in
    let opened = steady_open seen g.met.M.Steady.steady c.new-dos.result c.open.new.self 15 text c.open.ensures.goes _ (c.new-dos.ensures.stands d h) in (
      subst IsFine (c.status-2.ensures.status _ opened) c.in_ok-told.ensures,
      subst (λ s. IsSaidOf s c.said.result) (c.status.ensures.status _ opened) c.said.ensures,
      subst (λ k. HoldsDisk (seen k).tracks (seen k).content after.disk) (sym c.into_medium.ensures) (means_of _ _ _ _ _ _ _ opened),
    )
