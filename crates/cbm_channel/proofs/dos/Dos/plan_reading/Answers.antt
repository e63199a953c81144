use Rattle.std.proofs.Common.{sym, ap, subst, ◌∙◌}
use Rattle.std.specs.Prelude.{IfOk}
use Rattle.cbm_channel.specs.Meant.{IsFirstOf}
use Rattle.cbm_channel.proofs.Opened.{meant_found}
use Rattle.cbm_machine.specs.Machines.{in_writing}
use Rattle.cbm_machine.specs.Finding.{found}
use Rattle.cbm_channel.specs.Planned.{FoundAs}
use Rattle.cbm_channel.proofs.Asking.{too_many_planned, refused_planned, read_planned}
use Rattle.cbm_channel.proofs.dos.Dos.plan_reading.Goals as goal

pub returns-then-is_too_many-clause-planned : goal.returns-then-is_too_many-clause-planned
returns-then-is_too_many-clause-planned g c = λ m ch mode bytes s.
    too_many_planned _ _ m ch c.args.wanted.now bytes mode c.cost_of.result c.plain.result (c.cost_of.ensures.cost _ _ m.disk _ (c.found-found.ensures.found m s)) (sym (c.is_too_many.ensures m s) ∙ c.if-is_too_many.true) c.plain.ensures

pub returns-in-Ok-clause-planned : goal.returns-in-Ok-clause-planned
returns-in-Ok-clause-planned g c = λ m ch mode bytes s.
    let met = c.found-found.ensures.found m s in
    read_planned (g.M.Medium.seen c.args.self.now.medium).tracks (g.M.Medium.seen c.args.self.now.medium).content m ch c.args.wanted.now bytes mode c.cost_of.result c.in-Ok.found c.plan_read.result (c.cost_of.ensures.cost _ _ m.disk _ met) (sym (c.is_too_many.ensures m s) ∙ c.if-is_too_many.false)
    (subst (FoundAs (g.M.Medium.seen c.args.self.now.medium).tracks (g.M.Medium.seen c.args.self.now.medium).content m.disk (found m.disk c.args.wanted.now.name c.args.wanted.now.kind)) c.in-Ok.is met)
    (λ n f is. c.plan_read.ensures.planned _ _ m n f (ap (in_writing m) is.number ∙ sym (c.in_writing-written.ensures m s)) is)

pub returns-in-Err-clause-planned : goal.returns-in-Err-clause-planned
returns-in-Err-clause-planned g c = λ m ch mode bytes s.
    let met = c.found-found.ensures.found m s in
    refused_planned (g.M.Medium.seen c.args.self.now.medium).tracks (g.M.Medium.seen c.args.self.now.medium).content m ch c.args.wanted.now bytes mode c.cost_of.result c.in-Err.status (c.cost_of.ensures.cost _ _ m.disk _ met) (sym (c.is_too_many.ensures m s) ∙ c.if-is_too_many.false)
    (subst (FoundAs (g.M.Medium.seen c.args.self.now.medium).tracks (g.M.Medium.seen c.args.self.now.medium).content m.disk (found m.disk c.args.wanted.now.name c.args.wanted.now.kind)) c.in-Err.is met)

-- ---- which file is meant, and what was done, on any disk

pub returns-in-Ok-clause-meant : goal.returns-in-Ok-clause-meant
returns-in-Ok-clause-meant g c = meant_found (g.M.Medium.seen c.args.self.now.medium) c.args.wanted.now c.plan_read.result c.in-Ok.found c.plan_read.ensures.same
    (subst (λ r. IfOk r (λ f. IsFirstOf (g.M.Medium.seen c.args.self.now.medium) c.args.wanted.now.name c.args.wanted.now.kind f.slot f.entry)) c.in-Ok.is c.found-found.ensures.first)
