-- The search for the key of a character, code by code.
use Rattle.std.proofs.Common.{◌≡◌, ◌≢◌, ℕ, suc, ◌+◌, Bool, Some, None, ap, ◌∙◌}
use Rattle.std.specs.Prelude.{if◌then◌else◌}
use Rattle.std.proofs.lemmas.Bool.{eq-eqb, ne_eqb}
use Rattle.cbm_shell.specs.declared.texts.petscii.Charset.{Charset}
use Rattle.cbm_shell.specs.Petscii.{key_of, code_from}

-- no code is left
pub code_from-none : (charset : Charset) (key n code : ℕ) → n ≡ 0 → code_from charset key n code ≡ None
unfolding code_from
code_from-none charset key n code e = ap (λ m. code_from charset key m code) e

-- the next code is the key's
pub code_from-here : (charset : Charset) (key n left code : ℕ) → n ≡ suc left → key_of charset code ≡ key → code_from charset key n code ≡ Some code
unfolding code_from
code_from-here charset key n left code e same =
    ap (λ m. code_from charset key m code) e
    ∙ ap (λ (b : Bool). if b then Some code else code_from charset key left (code + 1)) (eq-eqb (key_of charset code) key same)

-- the next code is another key's
pub code_from-later : (charset : Charset) (key n left code : ℕ) → n ≡ suc left → key_of charset code ≢ key
    → code_from charset key n code ≡ code_from charset key left (code + 1)
unfolding code_from
code_from-later charset key n left code e other =
    ap (λ m. code_from charset key m code) e
    ∙ ap (λ (b : Bool). if b then Some code else code_from charset key left (code + 1)) (ne_eqb (key_of charset code) key other)
