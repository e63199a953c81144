use Rattle.std.proofs.Common.{sym, ap, ◌∙◌}
use Rattle.std.specs.Prelude.{not}
use Rattle.cbm_file.specs.declared.file_type.FileType.TheVariants.{Del, Rel}
use Rattle.cbm_machine.specs.Machines.{in_use}
use Rattle.cbm_channel.proofs.WritePlans.{either_first, either_second, neither, type_tested, open_to_append, protected_to_append, appended}
use Rattle.cbm_channel.proofs.dos.Dos.plan_append.Goals as goal
use Rattle.cbm_channel.proofs.dos.Dos.plan_append.Goals.{then-not-is_closed-via-then-not-is_closed, then-not-is_closed-via-else-not-is_closed+then-in_use}

pub returns-then-not-is_closed-clause-planned : goal.returns-then-not-is_closed-clause-planned
returns-then-not-is_closed-clause-planned g c = λ m s f st is.
    let kind = c.kind-kind.ensures ∙ is.says.kind in
    open_to_append _ _ m s f c.args.found is c.plain-then-not-is_closed.result (type_tested Del f.kind c.kind-kind.result _ kind c.eq.ensures ∙ c.if-eq.false) (type_tested Rel f.kind c.kind-kind.result _ kind c.eq-2.ensures ∙ c.if-eq-2.false)
    (elim c.then-not-is_closed.branch [
      | then-not-is_closed-via-then-not-is_closed w ↦ either_first _ _ (ap not (sym is.says.closed ∙ sym c.is_closed.ensures ∙ w.if-not-is_closed.true))
      | then-not-is_closed-via-else-not-is_closed+then-in_use w ↦ either_second _ _ (ap (in_use m) is.number ∙ sym (w.in_use.ensures m st) ∙ w.if-in_use.true)
    ])
    c.plain-then-not-is_closed.ensures

pub returns-then-is_protected-clause-planned : goal.returns-then-is_protected-clause-planned
returns-then-is_protected-clause-planned g c = λ m s f st is.
    let kind = c.kind-kind.ensures ∙ is.says.kind in
    protected_to_append _ _ m s f c.args.found is c.plain-then-is_protected.result (type_tested Del f.kind c.kind-kind.result _ kind c.eq.ensures ∙ c.if-eq.false) (type_tested Rel f.kind c.kind-kind.result _ kind c.eq-2.ensures ∙ c.if-eq-2.false)
    (neither _ _ (ap not (sym is.says.closed ∙ sym c.is_closed.ensures ∙ c.if-not-is_closed.false)) (ap (in_use m) is.number ∙ sym (c.in_use.ensures m st) ∙ c.if-in_use.false))
    (st.same_protection ∙ sym (ap (λ v. (g.M.Medium.seen v).protected) c.volume.ensures) ∙ sym c.is_protected.ensures ∙ c.if-is_protected.true)
    c.plain-then-is_protected.ensures

pub returns-clause-planned : goal.returns-clause-planned
returns-clause-planned g c = λ m s f st is.
    let kind = c.kind-kind.ensures ∙ is.says.kind in
    appended _ _ m s f c.args.found is (type_tested Del f.kind c.kind-kind.result _ kind c.eq.ensures ∙ c.if-eq.false) (type_tested Rel f.kind c.kind-kind.result _ kind c.eq-2.ensures ∙ c.if-eq-2.false)
    (sym is.says.closed ∙ sym c.is_closed.ensures ∙ c.if-not-is_closed.false) (ap (in_use m) is.number ∙ sym (c.in_use.ensures m st) ∙ c.if-in_use.false)
    (st.same_protection ∙ sym (ap (λ v. (g.M.Medium.seen v).protected) c.volume.ensures) ∙ sym c.is_protected.ensures ∙ c.if-is_protected.false)

pub returns-clause-allowed : goal.returns-clause-allowed
returns-clause-allowed g c = λ writes. sym (ap (λ v. (g.M.Medium.seen v).protected) c.volume.ensures) ∙ sym c.is_protected.ensures ∙ c.if-is_protected.false
