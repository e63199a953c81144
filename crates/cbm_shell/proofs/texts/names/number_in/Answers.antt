use Rattle.std.proofs.Common.{◌≡◌, Some, None, sym, subst}
use Rattle.std.specs.Prelude.{MatchOption}
use Rattle.cbm_shell.specs.Names.{with_code, codes_of, number_in}
use Rattle.cbm_shell.proofs.NameLemmas.{number-whole, number-open}
use Rattle.cbm_shell.proofs.texts.names.number_in.Goals as goal

pub returns-then-brace-ne125-clause-read : goal.returns-then-brace-ne125-clause-read
returns-then-brace-ne125-clause-read c = λ charset.
    number-open charset _ _ _ _ _ _ _ c.in_ok-high.ensures.cases.0 c.in_ok-low.ensures.cases.0 c.in_ok-brace.ensures.cases.0 c.if-brace-ne125.true

pub returns-in_err-byte_of-clause-read : goal.returns-in_err-byte_of-clause-read
returns-in_err-byte_of-clause-read c = λ charset.
    subst (λ r. MatchOption r (number_in charset c.args.text.now ≡ None) (λ p. number_in charset c.args.text.now ≡ with_code (Some p.0) (codes_of charset p.1.now)))
    (sym c.from_residual-in_err-byte_of.ensures)
    (number-whole charset _ _ _ _ _ _ _ None c.in_ok-high.ensures.cases.0 c.in_ok-low.ensures.cases.0 c.in_ok-brace.ensures.cases.0 c.if-brace-ne125.false (sym c.in_err-byte_of.ensures))

pub returns-clause-read : goal.returns-clause-read
returns-clause-read c = λ charset.
    number-whole charset _ _ _ _ _ _ _ _ c.in_ok-high.ensures.cases.0 c.in_ok-low.ensures.cases.0 c.in_ok-brace.ensures.cases.0 c.if-brace-ne125.false (sym c.in_ok-byte_of.ensures)
