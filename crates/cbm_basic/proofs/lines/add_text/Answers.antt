use Rattle.std.proofs.Common.{rules}
use Rattle.std.proofs.lemmas.Result.{IfOk-weaker}
use Rattle.cbm_basic.proofs.LineLemmas.{text-more, text-zero, text-end}
use Rattle.cbm_basic.proofs.lines.add_text.Goals as goal

pub returns-then-code-eq0-clause-text : goal.returns-then-code-eq0-clause-text
returns-then-code-eq0-clause-text c = IfOk-weaker c.end_line.result _ _ (λ rest e.
    text-zero c.codes.signs.items _ _ c.codes.rest.now c.in-Some.afterwards.now rest.now c.codes.is_quoted _ c.codes.invariant.same c.in-Some.ensures.cases.0 c.if-code-eq0.true e.0 e.1)
    c.end_line.ensures

pub codes-preserved : goal.codes-preserved
codes-preserved c = record {
  same = text-more c.codes.signs.items _ _ c.codes.rest.now c.in-Some.afterwards.now c.codes.is_quoted _ _ c.codes.invariant.same c.in-Some.ensures.cases.0 c.if-code-eq0.false c.quoted_after-is_quoted.ensures c.in_ok-add_code.ensures;
  shorter = search rules;
}

pub returns-clause-text : goal.returns-clause-text
returns-clause-text c = IfOk-weaker c.end_line-2.result _ _ (λ rest e.
    text-end c.codes.signs.items _ _ c.codes.rest.now rest.now c.codes.is_quoted c.codes.invariant.same c.in_default.ensures.cases e.0 e.1)
    c.end_line-2.ensures
