use Rattle.std.proofs.Common.{refl, sym, ap, subst, ◌∙◌, arith}
use Rattle.cbm_channel.specs.declared.plan.Plan.TheVariants.{OpenRecords, MakeRecords}
use Rattle.cbm_channel.specs.Meant.{IsFirstOf}
use Rattle.cbm_channel.proofs.Opened.{meant_as, kind_relative}
use Rattle.std.proofs.lemmas.Bool.{le-ltb}
use Rattle.cbm_machine.specs.Machines.{in_writing}
use Rattle.cbm_channel.proofs.Asking.{passed_refusal}
use Rattle.cbm_channel.proofs.RelativePlans.{missing_planned, refused_there, there_planned}
use Rattle.cbm_channel.proofs.Named.{name_cut}
use Rattle.cbm_channel.proofs.WritePlans.{flag_in}
use Rattle.cbm_channel.proofs.dos.Dos.plan_relative.Goals as goal

pub returns-in_err-found-clause-planned : goal.returns-in_err-found-clause-planned
returns-in_err-found-clause-planned g c = λ m bytes relative s.
    passed_refusal _ _ m _ c.in_err-found.field-0.0 c.from_residual-in_err-found.result c.from_residual-in_err-found.ensures.1
    (refused_there _ _ m c.args.channel c.args.wanted relative (sym (c.is_too_many.ensures m s) ∙ c.if-is_too_many.false) c.if-wanted.false (le-ltb c.args.channel 2 (omega (arith, c.if-channel-lt2.false)))
    (sym (ap flag_in (c.in_ok-is_there.ensures.there m s)) ∙ c.if-not-branch.false) c.in_err-found.field-0.0 (c.in_err-found.ensures.found m s))

pub returns-clause-planned : goal.returns-clause-planned
returns-clause-planned g c = λ m bytes relative s.
    there_planned _ _ m c.args.channel c.args.wanted relative (sym (c.is_too_many.ensures m s) ∙ c.if-is_too_many.false) c.if-wanted.false (le-ltb c.args.channel 2 (omega (arith, c.if-channel-lt2.false)))
    (sym (ap flag_in (c.in_ok-is_there.ensures.there m s)) ∙ c.if-not-branch.false) c.in_ok-found.found c.plan_there.result (c.in_ok-found.ensures.found m s)
    (λ n f is kind. c.plan_there.ensures.planned _ _ m n f (ap (in_writing m) is.number ∙ sym (c.in_writing-written.ensures m s)) is kind)

pub returns-then-not-branch-clause-planned : goal.returns-then-not-branch-clause-planned
returns-then-not-branch-clause-planned g c = λ m bytes relative s.
    missing_planned _ _ m c.args.channel c.args.wanted relative (sym (c.is_too_many.ensures m s) ∙ c.if-is_too_many.false) c.if-wanted.false (le-ltb c.args.channel 2 (omega (arith, c.if-channel-lt2.false)))
    (sym (ap flag_in (c.in_ok-is_there.ensures.there m s)) ∙ c.if-not-branch.true) c.plan_missing.result (c.plan_missing.ensures.planned m (name_cut bytes.0 bytes.1 c.args.wanted bytes.2) s)

-- ---- which file is meant, and what was done, on any disk

pub returns-clause-meant : goal.returns-clause-meant
returns-clause-meant g c = λ relative.
    meant_as (g.M.Medium.seen c.args.self.now.medium) c.args.wanted c.plan_there.result (OpenRecords c.in_ok-found.found) c.plan_there.ensures.same
    (subst (λ kind. IsFirstOf (g.M.Medium.seen c.args.self.now.medium) c.args.wanted.name kind c.in_ok-found.found.slot c.in_ok-found.found.entry) (sym (kind_relative c.args.wanted relative)) c.in_ok-found.ensures.first)

pub returns-then-not-branch-clause-meant : goal.returns-then-not-branch-clause-meant
returns-then-not-branch-clause-meant g c = λ relative.
    meant_as (g.M.Medium.seen c.args.self.now.medium) c.args.wanted c.plan_missing.result (MakeRecords c.args.wanted.name c.args.wanted.record_length) c.plan_missing.ensures.same (refl, refl, c.in_ok-is_there.ensures.none c.if-not-branch.true)
