use Rattle.std.proofs.Common.{sym, ap, subst, ◌∙◌}
use Rattle.cbm_channel.proofs.Opened.{meant_file}
use Rattle.cbm_machine.specs.Plans as plans
use Rattle.cbm_channel.specs.Planned.{PlannedAs, IsOfText, is_for_writing}
use Rattle.cbm_channel.proofs.Planning.{reads_mode, relative_writes}
use Rattle.cbm_channel.proofs.RelativePlans.{not_relative, relative_if}
use Rattle.cbm_channel.proofs.dos.Dos.plan.Goals as goal

pub returns-then-eq-clause-planned : goal.returns-then-eq-clause-planned
returns-then-eq-clause-planned g c = λ m text s.
    subst (λ o. PlannedAs (g.M.Medium.seen c.args.self.now.medium).tracks (g.M.Medium.seen c.args.self.now.medium).content m (plans.plan c.args.channel o m) c.plan_relative.result) (sym c.in-File.is)
    (c.plan_relative.ensures.planned m (subst IsOfText c.in-File.is text) (relative_if c.in-File.wanted c.eq.result c.eq.ensures c.if-eq.true) s)

pub returns-else-eq-clause-planned : goal.returns-else-eq-clause-planned
returns-else-eq-clause-planned g c = λ m text s.
    subst (λ o. PlannedAs (g.M.Medium.seen c.args.self.now.medium).tracks (g.M.Medium.seen c.args.self.now.medium).content m (plans.plan c.args.channel o m) c.plan_file.result) (sym c.in-File.is)
    (c.plan_file.ensures.planned m c.args.channel (subst IsOfText c.in-File.is text) (not_relative c.in-File.wanted c.eq.result c.eq.ensures c.if-eq.false) s)

-- a relative file may be made
pub returns-then-eq-clause-reads : goal.returns-then-eq-clause-reads
returns-then-eq-clause-reads g c = λ none. absurd (relative_writes c.args.opening c.in-File.wanted c.in-File.is (relative_if c.in-File.wanted c.eq.result c.eq.ensures c.if-eq.true) none)

pub returns-else-eq-clause-reads : goal.returns-else-eq-clause-reads
returns-else-eq-clause-reads g c = λ none. c.plan_file.ensures.reads (reads_mode c.in-File.wanted (not_relative c.in-File.wanted c.eq.result c.eq.ensures c.if-eq.false) (sym (ap is_for_writing c.in-File.is) ∙ none))

-- ---- which file is meant, and what was done, on any disk

pub returns-then-eq-clause-meant : goal.returns-then-eq-clause-meant
returns-then-eq-clause-meant g c =
    meant_file (g.M.Medium.seen c.args.self.now.medium) c.args.opening c.in-File.wanted c.plan_relative.result c.in-File.is (c.plan_relative.ensures.meant (relative_if c.in-File.wanted c.eq.result c.eq.ensures c.if-eq.true))

pub returns-else-eq-clause-meant : goal.returns-else-eq-clause-meant
returns-else-eq-clause-meant g c = meant_file (g.M.Medium.seen c.args.self.now.medium) c.args.opening c.in-File.wanted c.plan_file.result c.in-File.is c.plan_file.ensures.meant
