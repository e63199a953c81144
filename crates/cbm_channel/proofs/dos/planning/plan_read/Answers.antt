use Rattle.std.proofs.Common.{sym, ◌∙◌}
use Rattle.cbm_file.specs.declared.file_type.FileType.TheVariants.{Del, Rel}
use Rattle.cbm_channel.proofs.Asking.{relatable_planned, readable_planned}
use Rattle.cbm_channel.proofs.WritePlans.{type_tested}
use Rattle.cbm_channel.proofs.dos.planning.plan_read.Goals as goal
use Rattle.cbm_channel.proofs.dos.planning.plan_read.Goals.{else-eq-2-via-then-eq-2+else-wanted, else-eq-2-via-else-eq-2}

-- a relative file has its records opened
pub returns-then-eq-3-clause-planned : goal.returns-then-eq-3-clause-planned
returns-then-eq-3-clause-planned c = λ t content m s f written is.
    let kind = c.kind-kind.ensures ∙ is.says.kind in
    relatable_planned t content m c.args.wanted.now s f (type_tested Del f.kind c.kind-kind.result _ kind c.eq.ensures ∙ c.if-eq.false) (sym is.says.closed ∙ sym c.is_closed.ensures ∙ c.if-not-is_closed.false) (written ∙ c.if-written.false)
    c.args.found is (type_tested Rel f.kind c.kind-kind.result _ kind c.eq-3.ensures ∙ c.if-eq-3.true)
    (elim c.else-eq-2.branch [
      | else-eq-2-via-then-eq-2+else-wanted x ↦ x.if-wanted.false
      | else-eq-2-via-else-eq-2 x ↦ (let bad = sym x.if-eq-2.false ∙ c.eq-2.ensures ∙ sym c.eq-3.ensures ∙ c.if-eq-3.true in absurd (cc))
    ])

pub returns-clause-planned : goal.returns-clause-planned
returns-clause-planned c = λ t content m s f written is.
    let kind = c.kind-kind.ensures ∙ is.says.kind in
    readable_planned t content m c.args.wanted.now s f (type_tested Del f.kind c.kind-kind.result _ kind c.eq.ensures ∙ c.if-eq.false) (sym is.says.closed ∙ sym c.is_closed.ensures ∙ c.if-not-is_closed.false) (written ∙ c.if-written.false)
    c.args.found is (type_tested Rel f.kind c.kind-kind.result _ kind c.eq-3.ensures ∙ c.if-eq-3.false)
