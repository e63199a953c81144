-- Programs, a code or a line at a time.
use Rattle.std.proofs.Common.{◌≡◌, ◌≢◌, ℕ, ◌+◌, ◌*◌, ◌/◌, ◌%◌, ◌≤◌, List, [], ◌∷◌, ◌++◌, length, Bool, true, false, ap, sym, ◌∙◌, refl, append_assoc, arith}
use Rattle.std.proofs.Math.Nat.{mod-add-div}
use Rattle.std.specs.Prelude.{◌==◌, ◌&&◌, if◌then◌else◌}
use Rattle.cbm_basic.specs.Signs.{signs_of, quoted_after}
use Rattle.cbm_basic.specs.Lines.{listed_lines, listed_text, number_signs, after_basic, after_number, after_text}
use Rattle.cbm_basic.specs.Links.{links_hold, number_holds, text_holds}
use Rattle.cbm_basic.specs.Programs.{BasicLine, line_after, kept_from, HasNoZero, AreBasicLines, code_signs, lines_shown}
use Rattle.cbm_basic.specs.declared.sign.Sign.TheVariants.{LineEnd}

-- the two bytes of a number
two_bytes : (n : ℕ) → n % 256 + 256 * (n / 256) ≡ n
two_bytes n = mod-add-div n 256

-- the second byte of an address isn't 0
high_byte : (n : ℕ) → 256 ≤ n → n / 256 ≢ 0
high_byte n r e = let all : n % 256 + 256 * (n / 256) ≡ n = two_bytes n in absurd (omega arith)

-- the text of a line, up to its 0
text-whole : (quoted : Bool) (codes more : List ℕ) → HasNoZero codes → listed_text quoted (codes ++ 0 ∷ more) ≡ code_signs quoted codes ++ (LineEnd ∷ listed_lines more)
unfolding listed_text
text-whole quoted [] more h = refl
text-whole quoted (code ∷ codes) more h =
    let other : code == 0 ≡ false = grind (arith, h.0) in
    ap (λ (b : Bool). if b then LineEnd ∷ listed_lines (codes ++ 0 ∷ more) else signs_of quoted code ++ listed_text (quoted_after quoted code) (codes ++ 0 ∷ more)) other
    ∙ (ap (λ t. signs_of quoted code ++ t) (text-whole (quoted_after quoted code) codes more h.1)
    ∙ sym (append_assoc (signs_of quoted code) (code_signs (quoted_after quoted code) codes) (LineEnd ∷ listed_lines more)))

-- the links of a text, up to its 0
text-links : (at link : ℕ) (codes more : List ℕ) → HasNoZero codes
    → text_holds at link (codes ++ 0 ∷ more) ≡ (link == at + length codes + 1) && links_hold (at + length codes + 1) more
unfolding text_holds
text-links at link [] more h = ap (λ k. (link == k) && links_hold k more) (omega arith)
text-links at link (code ∷ codes) more h =
    let other : code == 0 ≡ false = grind (arith, h.0) in
    ap (λ (b : Bool). if b then (link == at + 1) && links_hold (at + 1) (codes ++ 0 ∷ more) else text_holds (at + 1) link (codes ++ 0 ∷ more)) other
    ∙ (text-links (at + 1) link codes more h.1 ∙ ap (λ k. (link == k) && links_hold k more) (omega arith))

-- what follows the end isn't listed
end-listed : (more : List ℕ) → listed_lines (0 ∷ 0 ∷ more) ≡ []
unfolding listed_lines
end-listed [] = refl
end-listed (x ∷ []) = refl
end-listed (x ∷ y ∷ more) = refl

-- ALL LINES of a program are listed
pub lines-whole : (at : ℕ) (lines : List BasicLine) (more : List ℕ) → 256 ≤ at → AreBasicLines at lines → listed_lines (kept_from at lines more) ≡ lines_shown lines
unfolding listed_lines
lines-whole at [] more r h = end-listed more
lines-whole at (line ∷ lines) more r h =
    let next = line_after at line.codes in
    let text = line.codes ++ 0 ∷ kept_from next lines more in
    let other : next / 256 == 0 ≡ false = grind (arith, high_byte next (omega arith)) in
    ap (λ (b : Bool). if b then [] else number_signs (line.number % 256 + 256 * (line.number / 256)) ++ listed_text false text) other
    ∙ (ap (λ n. number_signs n ++ listed_text false text) (two_bytes line.number)
    ∙ ap (λ t. number_signs line.number ++ t) (text-whole false line.codes (kept_from next lines more) h.1
    ∙ ap (λ t. code_signs false line.codes ++ (LineEnd ∷ t)) (lines-whole next lines more (omega arith) h.3)))

-- ALL LINKS of a program hold
pub links-whole : (at : ℕ) (lines : List BasicLine) (more : List ℕ) → 256 ≤ at → AreBasicLines at lines → links_hold at (kept_from at lines more) ≡ true
unfolding links_hold number_holds
links-whole at [] more r h = refl
links-whole at (line ∷ lines) more r h =
    let next = line_after at line.codes in
    let after = kept_from next lines more in
    let other : next / 256 == 0 ≡ false = grind (arith, high_byte next (omega arith)) in
    let same : next == next ≡ true = grind arith in
    ap (λ (b : Bool). if b then true else text_holds (at + 4) (next % 256 + 256 * (next / 256)) (line.codes ++ 0 ∷ after)) other
    ∙ (ap (λ n. text_holds (at + 4) n (line.codes ++ 0 ∷ after)) (two_bytes next)
    ∙ (text-links (at + 4) next line.codes after h.1
    ∙ (ap (λ (b : Bool). b && links_hold next after) same
    ∙ links-whole next lines more (omega arith) h.3)))

-- the text of a line is passed over
text-after : (codes more : List ℕ) → HasNoZero codes → after_text (codes ++ 0 ∷ more) ≡ after_basic more
unfolding after_text
text-after [] more h = refl
text-after (code ∷ codes) more h =
    let other : code == 0 ≡ false = grind (arith, h.0) in
    ap (λ (b : Bool). if b then after_basic (codes ++ 0 ∷ more) else after_text (codes ++ 0 ∷ more)) other ∙ text-after codes more h.1

-- WHAT FOLLOWS a program is what stands after its end
pub after-whole : (at : ℕ) (lines : List BasicLine) (more : List ℕ) → 256 ≤ at → AreBasicLines at lines → after_basic (kept_from at lines more) ≡ more
unfolding after_basic after_number
after-whole at [] more r h = refl
after-whole at (line ∷ lines) more r h =
    let next = line_after at line.codes in
    let after = kept_from next lines more in
    let other : next / 256 == 0 ≡ false = grind (arith, high_byte next (omega arith)) in
    ap (λ (b : Bool). if b then line.number % 256 ∷ line.number / 256 ∷ (line.codes ++ 0 ∷ after) else after_text (line.codes ++ 0 ∷ after)) other
    ∙ (text-after line.codes after h.1 ∙ after-whole next lines more (omega arith) h.3)
