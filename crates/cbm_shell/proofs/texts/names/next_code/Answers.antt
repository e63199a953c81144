use Rattle.std.proofs.Common.{◌≡◌, ◌∷◌, Some, None, sym, subst, rules}
use Rattle.std.specs.Prelude.{MatchOption}
use Rattle.cbm_shell.specs.Names.{with_code, codes_of}
use Rattle.cbm_shell.proofs.NameLemmas.{begins_number, begins_key}
use Rattle.cbm_shell.proofs.texts.names.next_code.Goals as goal

pub returns-then-first-eq-BY_NUMBER-clause-read : goal.returns-then-first-eq-BY_NUMBER-clause-read
returns-then-first-eq-BY_NUMBER-clause-read c =
    subst (λ whole. MatchOption c.number_in.result (whole ≡ None) (λ p. whole ≡ with_code (Some p.0) (codes_of c.args.charset p.1.now)))
    (sym (begins_number c.args.charset c.args.first c.args.rest.now (search rules))) (c.number_in.ensures.read c.args.charset)

pub returns-in_err-code_of-clause-read : goal.returns-in_err-code_of-clause-read
returns-in_err-code_of-clause-read c =
    subst (λ r. MatchOption r (codes_of c.args.charset (c.args.first ∷ c.args.rest.now) ≡ None)
    (λ p. codes_of c.args.charset (c.args.first ∷ c.args.rest.now) ≡ with_code (Some p.0) (codes_of c.args.charset p.1.now)))
    (sym c.from_residual.ensures) (begins_key c.args.charset c.args.first c.args.rest.now None (search rules) (sym c.in_err-code_of.ensures))

pub returns-clause-read : goal.returns-clause-read
returns-clause-read c = begins_key c.args.charset c.args.first c.args.rest.now (Some c.in_ok-code_of.field-0) (search rules) (sym c.in_ok-code_of.ensures)
