use Rattle.std.proofs.Common.{◌≡◌, ℕ, zero, suc, ◌+◌, ◌*◌, ◌/◌, ◌%◌, ◌^◌, ◌<◌, List, [], ◌∷◌, ◌++◌, length, refl, sym, ap, ◌∙◌, arith, inl, inr, cond, Bool, true, false, ltb}
use Rattle.std.proofs.lemmas.List.{length-append}
use Rattle.std.proofs.lemmas.Nat.{pow-add, mod-pow-add}
use Rattle.std.proofs.lemmas.Bool.{cases_eq, eq-eqb, ne_eqb, agree_below_at, ltb-true}
use Rattle.std.proofs.Math.Nat.{mod-eq_of_lt}
use Rattle.std.specs.Prelude.{◌==◌}
use Rattle.cbm_gcr.specs.Code.{bits, bits_of, code, ten_bits, nibble_code}

-- the number that bits spell, the highest first
unfoldable pub value : List Bool → ℕ
value [] = 0
value (b ∷ bs) = cond b (2 ^ length bs) 0 + value bs

pub value_below : (bs : List Bool) → value bs < 2 ^ length bs
unfolding value
value_below [] = omega arith
value_below (true ∷ bs) = grind (arith, value_below bs)
value_below (false ∷ bs) = grind (arith, value_below bs)

pub value-append : (xs ys : List Bool) → value (xs ++ ys) ≡ value xs * 2 ^ length ys + value ys
unfolding value
value-append [] ys = omega arith
value-append (true ∷ xs) ys = rw (length-append xs ys, pow-add 2 (length xs) (length ys), value-append xs ys) (omega arith)
value-append (false ∷ xs) ys = rw (value-append xs ys) (omega arith)

pub length-bits : (n x : ℕ) → length (bits n x) ≡ n
length-bits zero x = refl
length-bits (suc n) x = ap suc (length-bits n x)

bit_is : (y : ℕ) → y < 2 → (n : ℕ) → cond (y == 1) (2 ^ n) 0 ≡ y * 2 ^ n
bit_is y h n = elim (cases_eq y 1) [ inl e ↦ rw (eq-eqb y 1 e, e) (omega arith) | inr ne ↦ (let z : y ≡ 0 = omega arith in rw (ne_eqb y 1 ne, z) (omega arith)) ]

pub value-bits : (n x : ℕ) → value (bits n x) ≡ x % 2 ^ n
unfolding value
value-bits zero x = omega arith
value-bits (suc n) x =
    rw (length-bits n x, value-bits n x, bit_is (x / 2 ^ n % 2) (omega arith) n) (let k : suc n ≡ 1 + n = omega arith in sym (ap (λ m. x % 2 ^ m) k ∙ mod-pow-add x 1 n))

pub same_bits : (xs ys : List Bool) → length xs ≡ length ys → value xs ≡ value ys → xs ≡ ys
unfolding value
same_bits [] [] l v = refl
same_bits [] (y ∷ ys) l v = absurd (omega arith)
same_bits (x ∷ xs) [] l v = absurd (omega arith)
same_bits (true ∷ xs) (true ∷ ys) l v = let e : length xs ≡ length ys = omega arith in ap (λ (zs : List Bool). true ∷ zs) (same_bits xs ys e (omega (arith, ap (λ n. 2 ^ n) e)))
same_bits (false ∷ xs) (false ∷ ys) l v = ap (λ (zs : List Bool). false ∷ zs) (same_bits xs ys (omega arith) (omega arith))
same_bits (true ∷ xs) (false ∷ ys) l v = let e : length xs ≡ length ys = omega arith in absurd (omega (arith, value_below ys, ap (λ n. 2 ^ n) e))
same_bits (false ∷ xs) (true ∷ ys) l v = let e : length xs ≡ length ys = omega arith in absurd (omega (arith, value_below xs, ap (λ n. 2 ^ n) e))

-- bits in front of others
value_front : (n x : ℕ) (ys : List Bool) → x < 2 ^ n → value (bits n x ++ ys) ≡ x * 2 ^ length ys + value ys
value_front n x ys h = value-append (bits n x) ys ∙ ap (λ v. v * 2 ^ length ys + value ys) (value-bits n x ∙ mod-eq_of_lt h)

value_none : value [] ≡ 0
unfolding value
value_none = refl

pub value_of_five : (a b c d e : ℕ) → a < 256 → b < 256 → c < 256 → d < 256 → e < 256
    → value (bits_of (a ∷ b ∷ c ∷ d ∷ e ∷ [])) ≡ (((a * 256 + b) * 256 + c) * 256 + d) * 256 + e
value_of_five a b c d e p q r s t = omega (
  arith,
  value_front 8 a (bits_of (b ∷ c ∷ d ∷ e ∷ [])) p,
  value_front 8 b (bits_of (c ∷ d ∷ e ∷ [])) q,
  value_front 8 c (bits_of (d ∷ e ∷ [])) r,
  value_front 8 d (bits_of (e ∷ [])) s,
  value_front 8 e [] t,
  value_none,
)

pub nibble_below : (n : ℕ) → n < 16 → nibble_code n < 32
nibble_below n h = ltb-true (nibble_code n) 32 (agree_below_at (λ n. ltb (nibble_code n) 32) (λ n. true) 16 n refl h)

five_more : (n : ℕ) → 2 ^ suc (suc (suc (suc (suc n)))) ≡ 32 * 2 ^ n
five_more n = let k : suc (suc (suc (suc (suc n)))) ≡ 5 + n = omega arith in ap (λ m. 2 ^ m) k ∙ pow-add 2 5 n

-- the code of a byte in front of other bits
value_byte : (a : ℕ) (ys : List Bool) → a < 256 → value (bits 5 (nibble_code (a / 16)) ++ (bits 5 (nibble_code (a % 16)) ++ ys)) ≡ ten_bits a * 2 ^ length ys + value ys
value_byte a ys h =
    let high : nibble_code (a / 16) < 32 = nibble_below (a / 16) (omega arith) in
    let low : nibble_code (a % 16) < 32 = nibble_below (a % 16) (omega arith) in
    value_front 5 (nibble_code (a / 16)) (bits 5 (nibble_code (a % 16)) ++ ys) high
    ∙ ap (λ v. nibble_code (a / 16) * (2 ^ length (bits 5 (nibble_code (a % 16)) ++ ys)) + v) (value_front 5 (nibble_code (a % 16)) ys low)
    ∙ omega (arith, ap (λ m. nibble_code (a / 16) * m) (five_more (length ys)))

pub value_of_four : (a b c d : ℕ) → a < 256 → b < 256 → c < 256 → d < 256
    → value (code (a ∷ b ∷ c ∷ d ∷ [])) ≡ ((ten_bits a * 1024 + ten_bits b) * 1024 + ten_bits c) * 1024 + ten_bits d
value_of_four a b c d p q r s = omega (
  arith,
  value_byte a (code (b ∷ c ∷ d ∷ [])) p,
  value_byte b (code (c ∷ d ∷ [])) q,
  value_byte c (code (d ∷ [])) r,
  value_byte d [] s,
  value_none,
)

pub ten_below : (b : ℕ) → b < 256 → ten_bits b < 1024
ten_below b h = omega (arith, nibble_below (b / 16) (omega arith), nibble_below (b % 16) (omega arith))
