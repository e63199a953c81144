use Rattle.std.proofs.Common.{refl, sym, ap, subst, ◌∙◌}
use Rattle.cbm_channel.specs.declared.plan.Plan.TheVariants.{WriteFile, ReplaceFile}
use Rattle.cbm_channel.specs.Meant.{IsFirstOf}
use Rattle.cbm_channel.proofs.Opened.{meant_as}
use Rattle.cbm_channel.proofs.Named.{means_deleted, name_cut, kind_kept}
use Rattle.cbm_channel.proofs.Asking.{passed_refusal}
use Rattle.cbm_channel.proofs.WritePlans.{flag_in, both, not_first, not_both, relative_is, refused_replacement, replacement_planned, name_taken, new_planned}
use Rattle.cbm_channel.proofs.dos.Dos.plan_writing.Goals as goal
use Rattle.cbm_channel.proofs.dos.Dos.plan_writing.Goals.{else-wanted-via-then-wanted+else-there, else-wanted-via-else-wanted}

-- the name is there, but no file of the type
pub returns-in_err-found-clause-planned : goal.returns-in_err-found-clause-planned
returns-in_err-found-clause-planned g c = λ m text bytes s.
    passed_refusal _ _ m _ c.in_err-found.field-0.0 c.from_residual-in_err-found.result c.from_residual-in_err-found.ensures.1
    (refused_replacement _ _ m c.args.wanted c.in-Some.kind c.in-Some.is (both _ _ c.if-wanted.true (sym (ap flag_in (c.in_ok-there.ensures.there m s)) ∙ c.if-there.true)) c.in_err-found.field-0.0 (c.in_err-found.ensures.found m s))

pub returns-then-there-clause-planned : goal.returns-then-there-clause-planned
returns-then-there-clause-planned g c = λ m text bytes s.
    replacement_planned _ _ m c.args.wanted c.in-Some.kind c.in-Some.is (both _ _ c.if-wanted.true (sym (ap flag_in (c.in_ok-there.ensures.there m s)) ∙ c.if-there.true)) c.in_ok-found.found c.plan_replace.result
    (sym (relative_is c.args.wanted c.in-Some.kind c.in-Some.is) ∙ bytes) (c.in_ok-found.ensures.found m s) (λ n f is plain. c.plan_replace.ensures.planned m n f s is plain)

-- the name isn't there
pub returns-clause-planned : goal.returns-clause-planned
returns-clause-planned g c = λ m text bytes s.
    let there = sym (ap flag_in (c.in_ok-there.ensures.there m s)) ∙ c.if-there-2.false in
    new_planned _ _ m c.args.wanted c.in-Some.kind c.in-Some.is (not_both _ _ there) c.plan_write.result
    (c.plan_write.ensures.planned m c.args.wanted refl there (name_cut text.0 text.1 c.args.wanted text.2) (sym (ap means_deleted c.in-Some.is) ∙ kind_kept text.0 text.1 c.args.wanted text.2)
    (sym (relative_is c.args.wanted c.in-Some.kind c.in-Some.is) ∙ bytes) s)

-- the name is there, and isn't to be replaced
pub returns-then-there-2-clause-planned : goal.returns-then-there-2-clause-planned
returns-then-there-2-clause-planned g c = λ m text bytes s.
    let there = sym (ap flag_in (c.in_ok-there.ensures.there m s)) ∙ c.if-there-2.true in
    name_taken _ _ m c.args.wanted c.in-Some.kind c.in-Some.is
    (elim c.else-wanted.branch [
      | else-wanted-via-then-wanted+else-there w ↦ not_both _ _ (sym (ap flag_in (c.in_ok-there.ensures.there m s)) ∙ w.if-there.false)
      | else-wanted-via-else-wanted w ↦ not_first _ _ w.if-wanted.false
    ])
    c.plain-then-there-2.result there c.plain-then-there-2.ensures

-- ---- which file is meant, and what was done, on any disk

pub returns-then-there-clause-meant : goal.returns-then-there-clause-meant
returns-then-there-clause-meant g c =
    meant_as (g.M.Medium.seen c.args.self.now.medium) c.args.wanted c.plan_replace.result (ReplaceFile c.in_ok-found.found.slot) c.plan_replace.ensures.same
    (c.in_ok-found.found.entry, subst (λ kind. IsFirstOf (g.M.Medium.seen c.args.self.now.medium) c.args.wanted.name kind c.in_ok-found.found.slot c.in_ok-found.found.entry) (sym c.in-Some.is) c.in_ok-found.ensures.first)

pub returns-clause-meant : goal.returns-clause-meant
returns-clause-meant g c =
    meant_as (g.M.Medium.seen c.args.self.now.medium) c.args.wanted c.plan_write.result (WriteFile c.in-Some.kind c.args.wanted.name) c.plan_write.ensures.same (c.in-Some.is, refl, c.in_ok-there.ensures.none c.if-there-2.false)
