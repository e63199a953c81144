-- Lines and texts, a code or a line at a time.
use Rattle.std.proofs.Common.{◌≡◌, ◌≢◌, ℕ, ◌+◌, ◌*◌, List, [], ◌∷◌, ◌++◌, length, Bool, true, false, ap, sym, ◌∙◌, append_assoc, append-nil, arith}
use Rattle.std.specs.Prelude.{◌==◌, if◌then◌else◌}
use Rattle.cbm_basic.specs.Signs.{signs_of, quoted_after}
use Rattle.cbm_basic.specs.Lines.{listed_lines, listed_text, number_signs}
use Rattle.cbm_basic.specs.declared.sign.Sign.{Sign}
use Rattle.cbm_basic.specs.declared.sign.Sign.TheVariants.{LineEnd}

-- a code that doesn't end its line, and what stands after it
pub text-more : (out new target : List Sign) (rest afterwards : List ℕ) (quoted next : Bool) (code : ℕ) → out ++ listed_text quoted rest ≡ target → rest ≡ code ∷ afterwards
    → code ≢ 0 → next ≡ quoted_after quoted code → new ≡ out ++ signs_of quoted code → new ++ listed_text next afterwards ≡ target
unfolding listed_text
text-more out new target rest afterwards quoted next code h r o n e =
    let other : code == 0 ≡ false = grind (arith, o) in
    ap (λ k. new ++ listed_text k afterwards) n
    ∙ (ap (λ t. t ++ listed_text (quoted_after quoted code) afterwards) e ∙ (append_assoc out (signs_of quoted code) (listed_text (quoted_after quoted code) afterwards)
    ∙ (sym (ap (λ (b : Bool). out ++ (if b then LineEnd ∷ listed_lines afterwards else signs_of quoted code ++ listed_text (quoted_after quoted code) afterwards)) other)
    ∙ (sym (ap (λ t. out ++ listed_text quoted t) r) ∙ h))))

-- the 0 of a line
pub text-zero : (out new target : List Sign) (rest afterwards after : List ℕ) (quoted : Bool) (code : ℕ) → out ++ listed_text quoted rest ≡ target → rest ≡ code ∷ afterwards
    → code ≡ 0 → new ≡ out ++ LineEnd ∷ [] → after ≡ afterwards → new ++ listed_lines after ≡ target
unfolding listed_text
text-zero out new target rest afterwards after quoted code h r z e a =
    let zero : code == 0 ≡ true = grind (arith, z) in
    ap (λ t. new ++ listed_lines t) a ∙ (ap (λ t. t ++ listed_lines afterwards) e ∙ (append_assoc out (LineEnd ∷ []) (listed_lines afterwards)
    ∙ (sym (ap (λ (b : Bool). out ++ (if b then LineEnd ∷ listed_lines afterwards else signs_of quoted code ++ listed_text (quoted_after quoted code) afterwards)) zero)
    ∙ (sym (ap (λ t. out ++ listed_text quoted t) r) ∙ h))))

-- a text that ends without a 0
pub text-end : (out new target : List Sign) (rest after : List ℕ) (quoted : Bool) → out ++ listed_text quoted rest ≡ target → length rest ≡ 0
    → new ≡ out ++ LineEnd ∷ [] → after ≡ rest → new ++ listed_lines after ≡ target
unfolding listed_text listed_lines
text-end out new target [] after quoted h r e a = ap (λ t. new ++ listed_lines t) a ∙ (append-nil new ∙ (e ∙ h))
text-end out new target (x ∷ rest) after quoted h r e a = absurd (omega arith)

-- a line whose link goes on
pub lines-more : (first second low high : ℕ) (bytes a b c rest : List ℕ) → bytes ≡ first ∷ a → a ≡ second ∷ b → b ≡ low ∷ c → c ≡ high ∷ rest
    → second ≢ 0 → listed_lines bytes ≡ number_signs (low + 256 * high) ++ listed_text false rest
unfolding listed_lines
lines-more first second low high bytes a b c rest e f g h n =
    let other : second == 0 ≡ false = grind (arith, n) in
    ap listed_lines (e ∙ ap (λ t. first ∷ t) (f ∙ ap (λ t. second ∷ t) (g ∙ ap (λ t. low ∷ t) h)))
    ∙ ap (λ (b : Bool). if b then [] else number_signs (low + 256 * high) ++ listed_text false rest) other
