use Rattle.std.proofs.Common.{rules, sym, ◌∙◌}
use Rattle.cbm_channel.specs.declared.plan.Plan.TheVariants.{AppendFile}
use Rattle.cbm_channel.proofs.Opened.{meant_as}
use Rattle.cbm_channel.proofs.Asking.{is_append, is_write, passed_refusal, refused_append, append_planned, writing_planned, too_many_put}
use Rattle.cbm_channel.proofs.Refused.{only_reads}
use Rattle.cbm_channel.proofs.dos.Dos.plan_file.Goals as goal

pub returns-in_err-found-clause-planned : goal.returns-in_err-found-clause-planned
returns-in_err-found-clause-planned g c = λ m ch text bytes s.
    passed_refusal _ _ m _ c.in_err-found.field-0.0 c.from_residual.result c.from_residual.ensures.1
    (refused_append _ _ m ch c.args.wanted bytes (is_append c.args.wanted.mode c.eq-2.result c.eq-2.ensures c.if-eq-2.true) c.in_err-found.field-0.0 (sym (c.is_too_many.ensures m s) ∙ c.if-is_too_many.false) (c.in_err-found.ensures.found m s))

pub returns-then-eq-2-clause-planned : goal.returns-then-eq-2-clause-planned
returns-then-eq-2-clause-planned g c = λ m ch text bytes s.
    append_planned _ _ m ch c.args.wanted bytes (is_append c.args.wanted.mode c.eq-2.result c.eq-2.ensures c.if-eq-2.true) c.in_ok-found.found c.plan_append.result (sym (c.is_too_many.ensures m s) ∙ c.if-is_too_many.false)
    (c.in_ok-found.ensures.found m s) (λ n f is. c.plan_append.ensures.planned m n f s is)

pub returns-clause-planned : goal.returns-clause-planned
returns-clause-planned g c = λ m ch text bytes s.
    writing_planned _ _ m ch c.args.wanted bytes (is_write c.args.wanted.mode c.eq.result c.eq-2.result c.eq.ensures c.if-eq.false c.eq-2.ensures c.if-eq-2.false) c.plan_writing.result (sym (c.is_too_many.ensures m s) ∙ c.if-is_too_many.false)
    (c.plan_writing.ensures.planned m text bytes s)

pub returns-then-is_too_many-clause-planned : goal.returns-then-is_too_many-clause-planned
returns-then-is_too_many-clause-planned g c = λ m ch text bytes s.
    too_many_put _ _ m ch c.args.wanted bytes c.plain.result c.eq.result c.eq.ensures c.if-eq.false (sym (c.is_too_many.ensures m s) ∙ c.if-is_too_many.true) c.plain.ensures

pub returns-then-eq-clause-sound : goal.returns-then-eq-clause-sound
returns-then-eq-clause-sound g c = record {
  ground = (search rules);
  denied = (search rules);
  allowed = only_reads c.plan_reading.result _ c.plan_reading.ensures.reads;
  sized = (search rules);
}

-- ---- which file is meant, and what was done, on any disk

pub returns-then-eq-2-clause-meant : goal.returns-then-eq-2-clause-meant
returns-then-eq-2-clause-meant g c = meant_as (g.M.Medium.seen c.args.self.now.medium) c.args.wanted c.plan_append.result (AppendFile c.in_ok-found.found) c.plan_append.ensures.same c.in_ok-found.ensures.first
