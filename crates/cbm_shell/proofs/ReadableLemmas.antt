-- Lines and texts, a code or a line at a time.
use Rattle.std.proofs.Common.{◌≡◌, ◌≢◌, ℕ, ◌+◌, ◌-◌, ◌*◌, List, [], ◌∷◌, ◌++◌, length, codes, decimal, Bool, true, false, ap, sym, ◌∙◌, append_assoc, append-nil, arith}
use Rattle.std.specs.Prelude.{◌==◌, if◌then◌else◌}
use Rattle.cbm_shell.specs.declared.texts.petscii.Charset.{Charset}
use Rattle.cbm_shell.specs.Names.{shown_as}
use Rattle.cbm_shell.specs.Readable.{opened_as, ends, readable_lines, opening, text}

-- a code that doesn't end its line, and what stands after it
pub text-more : (out new target rest afterwards : List ℕ) (charset : Charset) (left next code : ℕ) → out ++ text charset left rest ≡ target → rest ≡ code ∷ afterwards
    → ends left code ≡ false → next ≡ left - 1 → new ≡ out ++ shown_as charset code → new ++ text charset next afterwards ≡ target
unfolding text
text-more out new target rest afterwards charset left next code h r other n e =
    ap (λ k. new ++ text charset k afterwards) n
    ∙ (ap (λ t. t ++ text charset (left - 1) afterwards) e ∙ (append_assoc out (shown_as charset code) (text charset (left - 1) afterwards)
    ∙ (sym (ap (λ (b : Bool). out ++ (if b then codes "\n" ++ readable_lines charset afterwards else shown_as charset code ++ text charset (left - 1) afterwards)) other)
    ∙ (sym (ap (λ t. out ++ text charset left t) r) ∙ h))))

-- the 0 of a line
pub text-zero : (out new target rest afterwards after : List ℕ) (charset : Charset) (left code : ℕ) → out ++ text charset left rest ≡ target → rest ≡ code ∷ afterwards
    → ends left code ≡ true → new ≡ out ++ codes "\n" → after ≡ afterwards → new ++ readable_lines charset after ≡ target
unfolding text
text-zero out new target rest afterwards after charset left code h r zero e a =
    ap (λ t. new ++ readable_lines charset t) a ∙ (ap (λ t. t ++ readable_lines charset afterwards) e ∙ (append_assoc out (codes "\n") (readable_lines charset afterwards)
    ∙ (sym (ap (λ (b : Bool). out ++ (if b then codes "\n" ++ readable_lines charset afterwards else shown_as charset code ++ text charset (left - 1) afterwards)) zero)
    ∙ (sym (ap (λ t. out ++ text charset left t) r) ∙ h))))

-- a text that ends without a 0
pub text-end : (out new target rest after : List ℕ) (charset : Charset) (left : ℕ) → out ++ text charset left rest ≡ target → length rest ≡ 0
    → new ≡ out ++ codes "\n" → after ≡ rest → new ++ readable_lines charset after ≡ target
unfolding text readable_lines
text-end out new target [] after charset left h r e a = ap (λ t. new ++ readable_lines charset t) a ∙ (append-nil new ∙ (e ∙ h))
text-end out new target (x ∷ rest) after charset left h r e a = absurd (omega arith)

-- a text's first code, and what is added of the rest
pub opening-more : (out first new bytes afterwards after : List ℕ) (charset : Charset) (code : ℕ) → bytes ≡ code ∷ afterwards → first ≡ out ++ opened_as charset code
    → new ++ readable_lines charset after ≡ first ++ text charset 24 afterwards → new ++ readable_lines charset after ≡ out ++ opening charset bytes
unfolding opening
opening-more out first new bytes afterwards after charset code r e h =
    h ∙ (ap (λ t. t ++ text charset 24 afterwards) e ∙ (append_assoc out (opened_as charset code) (text charset 24 afterwards)
    ∙ sym (ap (λ t. out ++ opening charset t) r)))

-- a text without a code
pub opening-none : (out new bytes after : List ℕ) (charset : Charset) → length bytes ≡ 0 → new ≡ out ++ codes "\n" → after ≡ bytes
    → new ++ readable_lines charset after ≡ out ++ opening charset bytes
unfolding opening readable_lines
opening-none out new [] after charset r e a = ap (λ t. new ++ readable_lines charset t) a ∙ (append-nil new ∙ e)
opening-none out new (x ∷ bytes) after charset r e a = absurd (omega arith)

-- a line whose link goes on
pub lines-more : (charset : Charset) (first second low high : ℕ) (bytes a b c rest : List ℕ) → bytes ≡ first ∷ a → a ≡ second ∷ b → b ≡ low ∷ c → c ≡ high ∷ rest
    → second ≢ 0 → readable_lines charset bytes ≡ decimal (low + 256 * high) ++ codes " " ++ opening charset rest
unfolding readable_lines
lines-more charset first second low high bytes a b c rest e f g h n =
    let other : second == 0 ≡ false = grind (arith, n) in
    ap (readable_lines charset) (e ∙ ap (λ t. first ∷ t) (f ∙ ap (λ t. second ∷ t) (g ∙ ap (λ t. low ∷ t) h)))
    ∙ ap (λ (b : Bool). if b then [] else decimal (low + 256 * high) ++ codes " " ++ opening charset rest) other
