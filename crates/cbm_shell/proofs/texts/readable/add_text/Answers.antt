use Rattle.std.proofs.Common.{rules, sym, string_bytes}
use Rattle.std.proofs.lemmas.Result.{IfOk-weaker}
use Rattle.cbm_shell.proofs.ReadableLemmas.{text-more, text-zero, text-end}
use Rattle.cbm_shell.proofs.texts.readable.add_text.Goals as goal

pub returns-then-ends-clause-text : goal.returns-then-ends-clause-text
returns-then-ends-clause-text c = IfOk-weaker c.end_line.result _ _ (λ rest e.
    text-zero (string_bytes c.codes.out) _ _ c.codes.rest.now c.in-Some.afterwards.now rest.now c.args.charset c.codes.left _ c.codes.invariant.same c.in-Some.ensures.cases.0 (sym c.if-ends.ensures) e.0 e.1)
    c.end_line.ensures

pub codes-preserved : goal.codes-preserved
codes-preserved c = record {
  same = text-more (string_bytes c.codes.out) _ _ c.codes.rest.now c.in-Some.afterwards.now c.args.charset c.codes.left _ _ c.codes.invariant.same c.in-Some.ensures.cases.0 (sym c.if-ends.ensures) (search rules) c.in_ok-add_code.ensures;
  shorter = search rules;
}

pub returns-clause-text : goal.returns-clause-text
returns-clause-text c = IfOk-weaker c.end_line-2.result _ _ (λ rest e.
    text-end (string_bytes c.codes.out) _ _ c.codes.rest.now rest.now c.args.charset c.codes.left c.codes.invariant.same c.in_default.ensures.cases e.0 e.1)
    c.end_line-2.ensures
