use Rattle.std.proofs.Common.{sym, ap, subst, ◌∙◌}
use Rattle.std.specs.Prelude.{◌==◌, not}
use Rattle.std.proofs.lemmas.Bool.{ne_eqb}
use Rattle.cbm_volume.specs.Holding.{HoldsDisk}
use Rattle.cbm_machine.specs.Machines.{in_use}
use Rattle.cbm_channel.proofs.Stands.{means_of}
use Rattle.cbm_channel.proofs.WritePlans.{either_first, either_second, neither, open_to_replace, locked_to_replace, full_to_replace, protected_to_replace, replaced}
use Rattle.cbm_channel.proofs.dos.Dos.plan_replace.Goals as goal
use Rattle.cbm_channel.proofs.dos.Dos.plan_replace.Goals.{then-not-is_closed-via-then-not-is_closed, then-not-is_closed-via-else-not-is_closed+then-in_use}

pub returns-then-not-is_closed-clause-planned : goal.returns-then-not-is_closed-clause-planned
returns-then-not-is_closed-clause-planned g c = λ m s f st is bytes.
    open_to_replace _ _ m s f c.args.found.now is c.plain.result
    (elim c.then-not-is_closed.branch [
      | then-not-is_closed-via-then-not-is_closed w ↦ either_first _ _ (ap not (sym is.says.closed ∙ sym c.is_closed.ensures ∙ w.if-not-is_closed.true))
      | then-not-is_closed-via-else-not-is_closed+then-in_use w ↦ either_second _ _ (ap (in_use m) is.number ∙ sym (w.in_use.ensures m st) ∙ w.if-in_use.true)
    ])
    c.plain.ensures

pub returns-then-is_locked-clause-planned : goal.returns-then-is_locked-clause-planned
returns-then-is_locked-clause-planned g c = λ m s f st is bytes.
    locked_to_replace _ _ m s f c.args.found.now is
    (neither _ _ (ap not (sym is.says.closed ∙ sym c.is_closed.ensures ∙ c.if-not-is_closed.false)) (ap (in_use m) is.number ∙ sym (c.in_use.ensures m st) ∙ c.if-in_use.false))
    c.plain-then-is_locked.result (sym is.says.locked ∙ sym c.is_locked.ensures ∙ c.if-is_locked.true) c.plain-then-is_locked.ensures

-- on a disk that stands it is known how many are free
pub returns-in_err-blocks_free-clause-planned : goal.returns-in_err-blocks_free-clause-planned
returns-in_err-blocks_free-clause-planned g c = λ m s f st is bytes.
    absurd (c.in_err-blocks_free.ensures.means m.disk (subst (λ v. HoldsDisk (g.M.Medium.seen v).tracks (g.M.Medium.seen v).content m.disk) (sym c.volume.ensures) (means_of _ _ _ _ _ _ m st)))

pub returns-then-branch-eq0-clause-planned : goal.returns-then-branch-eq0-clause-planned
returns-then-branch-eq0-clause-planned g c = λ m s f st is bytes.
    let free = c.in_ok-blocks_free.ensures.means m.disk (subst (λ v. HoldsDisk (g.M.Medium.seen v).tracks (g.M.Medium.seen v).content m.disk) (sym c.volume.ensures) (means_of _ _ _ _ _ _ m st)) in
    full_to_replace _ _ m s f c.args.found.now is
    (neither _ _ (ap not (sym is.says.closed ∙ sym c.is_closed.ensures ∙ c.if-not-is_closed.false)) (ap (in_use m) is.number ∙ sym (c.in_use.ensures m st) ∙ c.if-in_use.false))
    c.plain-then-branch-eq0.result (sym is.says.locked ∙ sym c.is_locked.ensures ∙ c.if-is_locked.false)
    (ap (λ n. n == 0) (sym free ∙ c.if-branch-eq0.true)) c.plain-then-branch-eq0.ensures

pub returns-then-is_protected-clause-planned : goal.returns-then-is_protected-clause-planned
returns-then-is_protected-clause-planned g c = λ m s f st is bytes.
    let free = c.in_ok-blocks_free.ensures.means m.disk (subst (λ v. HoldsDisk (g.M.Medium.seen v).tracks (g.M.Medium.seen v).content m.disk) (sym c.volume.ensures) (means_of _ _ _ _ _ _ m st)) in
    protected_to_replace _ _ m s f c.args.found.now is
    (neither _ _ (ap not (sym is.says.closed ∙ sym c.is_closed.ensures ∙ c.if-not-is_closed.false)) (ap (in_use m) is.number ∙ sym (c.in_use.ensures m st) ∙ c.if-in_use.false))
    c.plain-then-is_protected.result (sym is.says.locked ∙ sym c.is_locked.ensures ∙ c.if-is_locked.false)
    (ne_eqb m.disk.free 0 (λ e. c.if-branch-eq0.false (free ∙ e)))
    (st.same_protection ∙ sym (ap (λ v. (g.M.Medium.seen v).protected) c.volume-2.ensures) ∙ sym c.is_protected.ensures ∙ c.if-is_protected.true)
    c.plain-then-is_protected.ensures

pub returns-clause-planned : goal.returns-clause-planned
returns-clause-planned g c = λ m s f st is bytes.
    let free = c.in_ok-blocks_free.ensures.means m.disk (subst (λ v. HoldsDisk (g.M.Medium.seen v).tracks (g.M.Medium.seen v).content m.disk) (sym c.volume.ensures) (means_of _ _ _ _ _ _ m st)) in
    replaced _ _ m s f c.args.found.now is
    (sym is.says.closed ∙ sym c.is_closed.ensures ∙ c.if-not-is_closed.false) (ap (in_use m) is.number ∙ sym (c.in_use.ensures m st) ∙ c.if-in_use.false)
    (sym is.says.locked ∙ sym c.is_locked.ensures ∙ c.if-is_locked.false)
    (ne_eqb m.disk.free 0 (λ e. c.if-branch-eq0.false (free ∙ e)))
    (st.same_protection ∙ sym (ap (λ v. (g.M.Medium.seen v).protected) c.volume-2.ensures) ∙ sym c.is_protected.ensures ∙ c.if-is_protected.false) bytes

pub returns-clause-allowed : goal.returns-clause-allowed
returns-clause-allowed g c = λ writes. sym (ap (λ v. (g.M.Medium.seen v).protected) c.volume-2.ensures) ∙ sym c.is_protected.ensures ∙ c.if-is_protected.false
