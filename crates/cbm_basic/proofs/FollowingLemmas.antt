-- What follows a program, a code or a line at a time.
use Rattle.std.proofs.Common.{◌≡◌, ◌≢◌, ℕ, List, [], ◌∷◌, length, Bool, true, false, ap, ◌∙◌, refl, arith}
use Rattle.std.specs.Prelude.{◌==◌, if◌then◌else◌}
use Rattle.cbm_basic.specs.Lines.{after_basic, after_text}

-- a code that doesn't end the text
pub after-more : (code : ℕ) (rest afterwards : List ℕ) → rest ≡ code ∷ afterwards → code ≢ 0 → after_text rest ≡ after_text afterwards
unfolding after_text
after-more code rest afterwards r o =
    let other : code == 0 ≡ false = grind (arith, o) in
    ap after_text r ∙ ap (λ (b : Bool). if b then after_basic afterwards else after_text afterwards) other

-- the 0 of a text
pub after-zero : (code : ℕ) (rest afterwards : List ℕ) → rest ≡ code ∷ afterwards → code ≡ 0 → after_text rest ≡ after_basic afterwards
unfolding after_text
after-zero code rest afterwards r z =
    let zero : code == 0 ≡ true = grind (arith, z) in
    ap after_text r ∙ ap (λ (b : Bool). if b then after_basic afterwards else after_text afterwards) zero

-- no 0 ends the text
pub after-none : (rest : List ℕ) → length rest ≡ 0 → after_basic rest ≡ after_text rest
unfolding after_text after_basic
after-none [] n = refl
after-none (x ∷ rest) n = absurd (omega arith)
