use Rattle.std.proofs.Common.{rules, sym, ◌∙◌}
use Rattle.cbm_basic.proofs.LinkLemmas.{holds-more, holds-zero, holds-none}
use Rattle.cbm_basic.proofs.links.next_place.Goals as goal

pub codes-preserved : goal.codes-preserved
codes-preserved c = record {
  same = λ link. sym (holds-more c.codes.place link _ c.codes.rest.now c.in-Some.afterwards.now c.in-Some.ensures.cases.0 c.if-code-eq0.false) ∙ c.codes.invariant.same link;
  shorter = search rules;
  room = search rules;
}

pub returns-then-code-eq0-clause-holds : goal.returns-then-code-eq0-clause-holds
returns-then-code-eq0-clause-holds c = λ link.
    sym (c.codes.invariant.same link) ∙ holds-zero c.codes.place link _ c.codes.rest.now c.in-Some.afterwards.now c.in-Some.ensures.cases.0 c.if-code-eq0.true

pub returns-clause-holds : goal.returns-clause-holds
returns-clause-holds c = λ link. sym (c.codes.invariant.same link) ∙ holds-none c.codes.place link c.codes.rest.now c.in_default.ensures.cases
