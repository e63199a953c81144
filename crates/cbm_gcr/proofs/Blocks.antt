use Rattle.std.proofs.Common.{◌≡◌, ℕ, zero, suc, ◌+◌, ◌*◌, ◌/◌, ◌%◌, ◌<◌, List, [], ◌∷◌, length, get_or, refl, sym, ap, ◌∙◌, arith}
use Rattle.std.proofs.Common.{inl, inr}
use Rattle.std.proofs.lemmas.Bool.{cases_lt}
use Rattle.std.proofs.lemmas.List.{get_or_past}
use Rattle.std.proofs.lemmas.List.Elements.{All-get_or}
use Rattle.cbm_gcr.specs.Code.{bits_of, code, ten_bits, IsFourBytes}
use Rattle.cbm_gcr.proofs.Bits.{value, same_bits, value_of_four, value_of_five, ten_below}

abbrev pub at : List ℕ → ℕ → ℕ
at xs i = get_or xs i 0

-- each member is a byte
abbrev pub IsBytes : List ℕ → Type 0
IsBytes xs = (i : ℕ) → get_or xs i 0 < 256

-- the number that five bytes spell
abbrev pub word : List ℕ → ℕ
word xs = (((at xs 0 * 256 + at xs 1) * 256 + at xs 2) * 256 + at xs 3) * 256 + at xs 4

-- the number that the code of four bytes spells
abbrev pub word_of : List ℕ → ℕ
word_of v = ((ten_bits (at v 0) * 1024 + ten_bits (at v 1)) * 1024 + ten_bits (at v 2)) * 1024 + ten_bits (at v 3)

pub four : (v : List ℕ) → length v ≡ 4 → v ≡ at v 0 ∷ at v 1 ∷ at v 2 ∷ at v 3 ∷ []
four [] l = absurd (omega arith)
four (a ∷ []) l = absurd (omega arith)
four (a ∷ b ∷ []) l = absurd (omega arith)
four (a ∷ b ∷ c ∷ []) l = absurd (omega arith)
four (a ∷ b ∷ c ∷ d ∷ []) l = refl
four (a ∷ b ∷ c ∷ d ∷ e ∷ more) l = absurd (omega arith)

pub five : (v : List ℕ) → length v ≡ 5 → v ≡ at v 0 ∷ at v 1 ∷ at v 2 ∷ at v 3 ∷ at v 4 ∷ []
five [] l = absurd (omega arith)
five (a ∷ []) l = absurd (omega arith)
five (a ∷ b ∷ []) l = absurd (omega arith)
five (a ∷ b ∷ c ∷ []) l = absurd (omega arith)
five (a ∷ b ∷ c ∷ d ∷ []) l = absurd (omega arith)
five (a ∷ b ∷ c ∷ d ∷ e ∷ []) l = refl
five (a ∷ b ∷ c ∷ d ∷ e ∷ f ∷ more) l = absurd (omega arith)

-- the code of four bytes is the bits of five exactly where the numbers are one
pub code_from_word : (v xs : List ℕ) → length v ≡ 4 → IsBytes v → length xs ≡ 5 → IsBytes xs → word_of v ≡ word xs → code v ≡ bits_of xs
code_from_word v xs l b m d e =
    ap code (four v l)
    ∙ same_bits (code (at v 0 ∷ at v 1 ∷ at v 2 ∷ at v 3 ∷ [])) (bits_of (at xs 0 ∷ at xs 1 ∷ at xs 2 ∷ at xs 3 ∷ at xs 4 ∷ [])) refl
    (value_of_four (at v 0) (at v 1) (at v 2) (at v 3) (b 0) (b 1) (b 2) (b 3) ∙ e ∙ sym (value_of_five (at xs 0) (at xs 1) (at xs 2) (at xs 3) (at xs 4) (d 0) (d 1) (d 2) (d 3) (d 4)))
    ∙ sym (ap bits_of (five xs m))

pub word_from_code : (v xs : List ℕ) → length v ≡ 4 → IsBytes v → length xs ≡ 5 → IsBytes xs → code v ≡ bits_of xs → word_of v ≡ word xs
word_from_code v xs l b m d e =
    sym (value_of_four (at v 0) (at v 1) (at v 2) (at v 3) (b 0) (b 1) (b 2) (b 3))
    ∙ ap value (sym (ap code (four v l)) ∙ e ∙ ap bits_of (five xs m))
    ∙ value_of_five (at xs 0) (at xs 1) (at xs 2) (at xs 3) (at xs 4) (d 0) (d 1) (d 2) (d 3) (d 4)

-- what stands at each ten bits
pub record Parts (v : List ℕ) (w : ℕ) : Type 0 where
  pub bytes : IsBytes v
  pub first : w / 1073741824 ≡ ten_bits (at v 0)
  pub second : w / 1048576 % 1024 ≡ ten_bits (at v 1)
  pub third : w / 1024 % 1024 ≡ ten_bits (at v 2)
  pub fourth : w % 1024 ≡ ten_bits (at v 3)

tens_apart : (a b c d w : ℕ) → a < 1024 → b < 1024 → c < 1024 → d < 1024 → ((a * 1024 + b) * 1024 + c) * 1024 + d ≡ w
    → (w / 1073741824 ≡ a) × (w / 1048576 % 1024 ≡ b) × (w / 1024 % 1024 ≡ c) × (w % 1024 ≡ d)
tens_apart a b c d w p q r s e = (omega arith, omega arith, omega arith, omega arith)

block_bytes : (v : List ℕ) → IsFourBytes v → IsBytes v
block_bytes v h i = elim (cases_lt i (length v)) [
  | inl l ↦ All-get_or (λ b. b < 256) v i 0 l h.1
  | inr g ↦ rw (get_or_past v i 0 g) (omega arith)
]

pub parts : (v xs : List ℕ) → IsFourBytes v → length xs ≡ 5 → IsBytes xs → code v ≡ bits_of xs → Parts v (word xs)
parts v xs h m d e =
    let b : IsBytes v = block_bytes v h in
    let t = tens_apart (ten_bits (at v 0)) (ten_bits (at v 1)) (ten_bits (at v 2)) (ten_bits (at v 3)) (word xs)
    (ten_below (at v 0) (b 0)) (ten_below (at v 1) (b 1)) (ten_below (at v 2) (b 2)) (ten_below (at v 3) (b 3))
    (word_from_code v xs h.0 b m d e) in
    record { bytes = b; first = t.0; second = t.1; third = t.2; fourth = t.3 }

-- the five bytes of a number
abbrev pub bytes_of : ℕ → List ℕ
bytes_of w = (w / 4294967296) ∷ (w / 16777216 % 256) ∷ (w / 65536 % 256) ∷ (w / 256 % 256) ∷ (w % 256) ∷ []

pub bytes_spell : (w : ℕ) → w < 1099511627776 → word (bytes_of w) ≡ w
bytes_spell w h = omega arith

pub bytes_fit : (w : ℕ) → w < 1099511627776 → IsBytes (bytes_of w)
bytes_fit w h zero = omega arith
bytes_fit w h (suc zero) = omega arith
bytes_fit w h (suc (suc zero)) = omega arith
bytes_fit w h (suc (suc (suc zero))) = omega arith
bytes_fit w h (suc (suc (suc (suc zero)))) = omega arith
bytes_fit w h (suc (suc (suc (suc (suc i))))) = omega arith

pub coded : (v : List ℕ) (w : ℕ) → length v ≡ 4 → IsBytes v → word_of v ≡ w → bits_of (bytes_of w) ≡ code v
coded v w l b e =
    let h : w < 1099511627776 = omega (arith, ten_below (at v 0) (b 0), ten_below (at v 1) (b 1), ten_below (at v 2) (b 2), ten_below (at v 3) (b 3)) in
    sym (code_from_word v (bytes_of w) l b refl (bytes_fit w h) (e ∙ sym (bytes_spell w h)))

-- four bytes that stand at the ten bits each are the block
pub from_parts : (p q r s : ℕ) (xs : List ℕ) → p < 256 → q < 256 → r < 256 → s < 256 → length xs ≡ 5 → IsBytes xs
    → word xs / 1073741824 ≡ ten_bits p → word xs / 1048576 % 1024 ≡ ten_bits q → word xs / 1024 % 1024 ≡ ten_bits r → word xs % 1024 ≡ ten_bits s
    → code (p ∷ q ∷ r ∷ s ∷ []) ≡ bits_of xs
from_parts p q r s xs a b c d m h e f g i = code_from_word (p ∷ q ∷ r ∷ s ∷ []) xs refl (four_fit p q r s a b c d) m h (omega arith)
  where
    four_fit : (p q r s : ℕ) → p < 256 → q < 256 → r < 256 → s < 256 → IsBytes (p ∷ q ∷ r ∷ s ∷ [])
    four_fit p q r s a b c d zero = a
    four_fit p q r s a b c d (suc zero) = b
    four_fit p q r s a b c d (suc (suc zero)) = c
    four_fit p q r s a b c d (suc (suc (suc zero))) = d
    four_fit p q r s a b c d (suc (suc (suc (suc i)))) = omega arith
