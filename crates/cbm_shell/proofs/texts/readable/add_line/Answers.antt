use Rattle.std.proofs.lemmas.Result.{IfOk-weaker}
use Rattle.std.proofs.Common.{string_bytes}
use Rattle.cbm_shell.proofs.ReadableLemmas.{opening-more, opening-none}
use Rattle.cbm_shell.proofs.texts.readable.add_line.Goals as goal

pub returns-in_default-clause-text : goal.returns-in_default-clause-text
returns-in_default-clause-text c = IfOk-weaker c.end_line.result _ _ (λ rest e.
    opening-none (string_bytes c.args.out.now) _ c.args.bytes.now rest.now c.args.charset c.in_default.ensures.cases e.0 e.1)
    c.end_line.ensures

pub returns-clause-text : goal.returns-clause-text
returns-clause-text c = IfOk-weaker c.add_text.result _ _ (λ rest e.
    opening-more (string_bytes c.args.out.now) _ _ c.args.bytes.now c.in-Some.afterwards.now rest.now c.args.charset _ c.in-Some.ensures.cases.0 c.in_ok-open_line.ensures e)
    c.add_text.ensures.text
