-- Characters and letters, one at a time.
use Rattle.std.proofs.Common.{◌≡◌, ◌≢◌, ℕ, List, [], ◌∷◌, ◌++◌, length, Bool, true, false, ap, sym, ◌∙◌, append_assoc, append-nil, arith}
use Rattle.std.specs.Prelude.{◌==◌, if◌then◌else◌}
use Rattle.cbm_basic.specs.Signs.{characters, letters}
use Rattle.cbm_basic.specs.declared.sign.Sign.{Sign}
use Rattle.cbm_basic.specs.declared.sign.Sign.TheVariants.{Character}

-- a code, and what stands after it
pub characters-more : (out new target : List Sign) (rest afterwards : List ℕ) (code : ℕ) → out ++ characters rest ≡ target → rest ≡ code ∷ afterwards
    → new ≡ out ++ Character code ∷ [] → new ++ characters afterwards ≡ target
unfolding characters
characters-more out new target rest afterwards code h r e =
    ap (λ t. t ++ characters afterwards) e ∙ (append_assoc out (Character code ∷ []) (characters afterwards)
    ∙ (sym (ap (λ t. out ++ characters t) r) ∙ h))

-- no code is left
pub characters-none : (out target : List Sign) (rest : List ℕ) → out ++ characters rest ≡ target → length rest ≡ 0 → out ≡ target
unfolding characters
characters-none out target [] h n = sym (append-nil out) ∙ h
characters-none out target (x ∷ rest) h n = absurd (omega arith)

-- a letter, and what stands after it
pub letters-more : (out new target : List Sign) (rest afterwards : List ℕ) (letter : ℕ) → out ++ letters rest ≡ target → rest ≡ letter ∷ afterwards
    → letter ≢ 32 → new ≡ out ++ Character letter ∷ [] → new ++ letters afterwards ≡ target
unfolding letters
letters-more out new target rest afterwards letter h r n e =
    let other : letter == 32 ≡ false = grind (arith, n) in
    ap (λ t. t ++ letters afterwards) e ∙ (append_assoc out (Character letter ∷ []) (letters afterwards)
    ∙ (sym (ap (λ (b : Bool). out ++ (if b then [] else Character letter ∷ letters afterwards)) other)
    ∙ (sym (ap (λ t. out ++ letters t) r) ∙ h)))

-- the first space
pub letters-space : (out target : List Sign) (rest afterwards : List ℕ) (letter : ℕ) → out ++ letters rest ≡ target → rest ≡ letter ∷ afterwards
    → letter ≡ 32 → out ≡ target
unfolding letters
letters-space out target rest afterwards letter h r n =
    let space : letter == 32 ≡ true = grind (arith, n) in
    sym (append-nil out)
    ∙ (sym (ap (λ (b : Bool). out ++ (if b then [] else Character letter ∷ letters afterwards)) space)
    ∙ (sym (ap (λ t. out ++ letters t) r) ∙ h))

-- no letter is left
pub letters-none : (out target : List Sign) (rest : List ℕ) → out ++ letters rest ≡ target → length rest ≡ 0 → out ≡ target
unfolding letters
letters-none out target [] h n = sym (append-nil out) ∙ h
letters-none out target (x ∷ rest) h n = absurd (omega arith)
