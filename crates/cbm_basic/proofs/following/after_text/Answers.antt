use Rattle.std.proofs.Common.{rules, sym, ◌∙◌}
use Rattle.cbm_basic.proofs.FollowingLemmas.{after-more, after-zero, after-none}
use Rattle.cbm_basic.proofs.following.after_text.Goals as goal

pub codes-preserved : goal.codes-preserved
codes-preserved c = record {
  same = sym (after-more _ c.codes.rest.now c.in-Some.afterwards.now c.in-Some.ensures.cases.0 c.if-code-eq0.false) ∙ c.codes.invariant.same;
  shorter = search rules;
}

pub returns-then-code-eq0-clause-lines : goal.returns-then-code-eq0-clause-lines
returns-then-code-eq0-clause-lines c = sym (after-zero _ c.codes.rest.now c.in-Some.afterwards.now c.in-Some.ensures.cases.0 c.if-code-eq0.true) ∙ c.codes.invariant.same

pub returns-clause-lines : goal.returns-clause-lines
returns-clause-lines c = after-none c.codes.rest.now c.in_default.ensures.cases ∙ c.codes.invariant.same
