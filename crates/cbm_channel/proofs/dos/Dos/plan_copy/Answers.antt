use Rattle.std.proofs.Common.{◌≡◌, ℕ, false, List, [], ◌∷◌, ◌++◌, sym, ap, subst, ◌∙◌}
use Rattle.cbm_machine.specs.Finding.{is_there}
use Rattle.cbm_channel.specs.Joined.{IsCopying, RefusesCopy}
use Rattle.cbm_channel.proofs.Commanding.{answer_of}
use Rattle.cbm_channel.proofs.Copies.{copy_unsourced, copy_unadded, copying_is}
use Rattle.cbm_channel.proofs.Troubles.{passed_on}
use Rattle.cbm_channel.proofs.dos.Dos.plan_copy.Goals as goal

pub returns-in_err-source-clause-refused : goal.returns-in_err-source-clause-refused
returns-in_err-source-clause-refused g c = λ m s.
    let fresh : is_there m.disk c.args.new.now ≡ false = sym (ap answer_of (c.in_ok-is_there.ensures.there m s)) ∙ c.if-branch.false in
    let all : c.args.olds.now ≡ c.in-Some.first.now ∷ c.in-Some.others.now = sym c.as_slice.ensures.names ∙ c.in-Some.ensures.cases.0 in
    passed_on c.from_residual-in_err-source.result c.in_err-source.field-0.0 (RefusesCopy m c.args.new.now c.args.olds.now) c.from_residual-in_err-source.ensures.1
    (subst (λ (xs : List (List ℕ)). RefusesCopy m c.args.new.now xs c.in_err-source.field-0.0) (sym all)
    (copy_unsourced m c.args.new.now fresh c.in-Some.first.now c.in-Some.others.now c.in_err-source.field-0.0 (c.in_err-source.ensures.source m s)))

pub returns-in_err-add_sources-clause-refused : goal.returns-in_err-add_sources-clause-refused
returns-in_err-add_sources-clause-refused g c = λ m s.
    let fresh : is_there m.disk c.args.new.now ≡ false = sym (ap answer_of (c.in_ok-is_there.ensures.there m s)) ∙ c.if-branch.false in
    let all : c.args.olds.now ≡ c.in-Some.first.now ∷ c.in-Some.others.now = sym c.as_slice.ensures.names ∙ c.in-Some.ensures.cases.0 in
    passed_on c.from_residual-in_err-add_sources.result c.in_err-add_sources.field-0.0 (RefusesCopy m c.args.new.now c.args.olds.now) c.from_residual-in_err-add_sources.ensures.1
    (subst (λ (xs : List (List ℕ)). RefusesCopy m c.args.new.now xs c.in_err-add_sources.field-0.0) (sym all)
    (copy_unadded m c.args.new.now fresh c.in-Some.first.now c.in-Some.others.now c.in_ok-source.source (c.in_ok-source.ensures.source m s) _ _ c.in_err-add_sources.field-0.0 (c.in_err-add_sources.ensures.added m s)))

pub returns-clause-planned : goal.returns-clause-planned
returns-clause-planned g c = λ m s.
    let fresh : is_there m.disk c.args.new.now ≡ false = sym (ap answer_of (c.in_ok-is_there.ensures.there m s)) ∙ c.if-branch.false in
    let all : c.args.olds.now ≡ c.in-Some.first.now ∷ c.in-Some.others.now = sym c.as_slice.ensures.names ∙ c.in-Some.ensures.cases.0 in
    subst (λ (xs : List (List ℕ)). IsCopying m c.args.new.now xs c.in_ok-source.source.kind c.add_sources.new.slots.items) (sym all)
    (copying_is m c.args.new.now fresh c.in-Some.first.now c.in-Some.others.now c.in_ok-source.source (c.in_ok-source.ensures.source m s) _ c.add_sources.new.slots.items tt (c.push.ensures.items ∙ ap (λ (xs : List ℕ). xs ++ c.in_ok-source.source.slot ∷ []) c.new-slots.ensures) (c.in_ok-add_sources.ensures.added m s))
