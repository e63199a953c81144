-- What is written reads back.
use Rattle.std.proofs.Common.{◌≡◌, ℕ, ◌+◌, ◌*◌, ◌/◌, ◌%◌, ◌<◌, List, [], ◌∷◌, Some, refl, ap, ◌∙◌, arith, true}
use Rattle.std.specs.Prelude.{◌≢◌}
use Rattle.std.proofs.lemmas.List.Elements.{All-head, All-tail}
use Rattle.bus_traces.specs.Lines.{lines_of}
use Rattle.cbm_program.specs.Texts.{is_hex, is_plain, hex_value, with_text_front, text_of}
use Rattle.cbm_program.specs.Scripts.{hex_digit}
use Rattle.cbm_program.specs.Spelling.{ended_lines, IsLine, AreLines, escapes, AreByteValues, ArePlain}
use Rattle.bus_traces.proofs.LineLemmas.{IsUnbroken, broken}
use Rattle.cbm_program.proofs.TextLemmas.{text_of-plain, text_of-escape}

unbroken : (line : List ℕ) → IsLine line → IsUnbroken line
unbroken [] h = tt
unbroken (b ∷ line) h = (All-head (λ x. x ≢ 10) b line h, unbroken line (All-tail (λ x. x ≢ 10) b line h))

pub lines_back : (lines : List (List ℕ)) → AreLines lines → lines_of (ended_lines lines) ≡ lines
lines_back [] h = refl
lines_back (line ∷ lines) h =
    broken line (ended_lines lines) (unbroken line (All-head IsLine line lines h)) ∙ ap (λ ls. line ∷ ls) (lines_back lines (All-tail IsLine line lines h))

digit_is : (n : ℕ) → n < 16 → is_hex (hex_digit n) ≡ true
digit_is n h = grind (arith, h)

digit_value : (n : ℕ) → n < 16 → hex_value (hex_digit n) ≡ n
digit_value n h = grind (arith, h)

pub escapes_back : (bytes : List ℕ) → AreByteValues bytes → text_of (escapes bytes) ≡ Some bytes
escapes_back [] h = refl
escapes_back (b ∷ bytes) h =
    let small = All-head (λ x. x < 256) b bytes h in
    let high : b / 16 < 16 = omega (arith, small) in
    let low : b % 16 < 16 = omega arith in
    let whole : 16 * (b / 16) + b % 16 ≡ b = omega arith in
    let hi = digit_is (b / 16) high in
    let lo = digit_is (b % 16) low in
    let hv = digit_value (b / 16) high in
    let lv = digit_value (b % 16) low in
    let rest = escapes_back bytes (All-tail (λ x. x < 256) b bytes h) in
    text_of-escape (escapes (b ∷ bytes)) 92 (hex_digit (b / 16)) (hex_digit (b % 16)) (escapes bytes) refl refl
    ∙ (simp (hi, lo, hv, lv, whole, rest))

pub plain_back : (bytes : List ℕ) → ArePlain bytes → text_of bytes ≡ Some bytes
plain_back [] h = refl
plain_back (b ∷ bytes) h =
    let first = All-head (λ x. (x ≢ 92) × (is_plain x ≡ true)) b bytes h in
    let rest = All-tail (λ x. (x ≢ 92) × (is_plain x ≡ true)) b bytes h in
    text_of-plain (b ∷ bytes) b bytes refl first.0 first.1 ∙ ap (λ o. with_text_front (b ∷ []) o) (plain_back bytes rest)
