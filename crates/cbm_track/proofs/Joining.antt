use Rattle.std.proofs.Common.{◌≡◌, ℕ, zero, suc, ◌+◌, ◌*◌, ◌-◌, ◌/◌, ◌%◌, ◌^◌, ◌<◌, ◌≤◌, List, [], ◌∷◌, length, get_or, take, drop, refl, sym, ap, ◌∙◌, arith, inl, inr, Bool, false}
use Rattle.std.specs.Prelude.{◌==◌}
use Rattle.std.proofs.lemmas.Bool.{cases_lt}
use Rattle.std.proofs.lemmas.List.{get_or-take, get_or-drop, get_or_default, length-take-le, length-drop, same_lists}
use Rattle.cbm_track.specs.Circle.{circle_bits, circle_bits_of, circle_bit, stretch}
use Rattle.cbm_track.proofs.Bytes.{length-bits_of, bit_at_byte}
use Rattle.cbm_track.proofs.Places.{wrap_once, bit_below, length-stretch, get_or-stretch}

-- eight tests of numbers
eight : (y0 y1 y2 y3 y4 y5 y6 y7 x0 x1 x2 x3 x4 x5 x6 x7 : ℕ) → y0 ≡ x0 → y1 ≡ x1 → y2 ≡ x2 → y3 ≡ x3 → y4 ≡ x4 → y5 ≡ x5 → y6 ≡ x6 → y7 ≡ x7
    → (y0 == 1) ∷ (y1 == 1) ∷ (y2 == 1) ∷ (y3 == 1) ∷ (y4 == 1) ∷ (y5 == 1) ∷ (y6 == 1) ∷ (y7 == 1) ∷ [] ≡ (x0 == 1) ∷ (x1 == 1) ∷ (x2 == 1) ∷ (x3 == 1) ∷ (x4 == 1) ∷ (x5 == 1) ∷ (x6 == 1) ∷ (x7 == 1) ∷ []
eight y0 y1 y2 y3 y4 y5 y6 y7 x0 x1 x2 x3 x4 x5 x6 x7 e0 e1 e2 e3 e4 e5 e6 e7 =
    λ i. (e0 i == 1) ∷ (e1 i == 1) ∷ (e2 i == 1) ∷ (e3 i == 1) ∷ (e4 i == 1) ∷ (e5 i == 1) ∷ (e6 i == 1) ∷ (e7 i == 1) ∷ []

-- eight bits that begin in one byte and end in the next
joined_1 : (a b : ℕ) → a < 256 → b < 256 → circle_bits 8 ((256 * a + b) / 128 % 256) ≡ take 8 (drop 1 (circle_bits_of (a ∷ b ∷ [])))
joined_1 a b p q = eight ((256 * a + b) / 128 % 256 / 128 % 2) ((256 * a + b) / 128 % 256 / 64 % 2) ((256 * a + b) / 128 % 256 / 32 % 2) ((256 * a + b) / 128 % 256 / 16 % 2) ((256 * a + b) / 128 % 256 / 8 % 2) ((256 * a + b) / 128 % 256 / 4 % 2) ((256 * a + b) / 128 % 256 / 2 % 2) ((256 * a + b) / 128 % 256 / 1 % 2)
    (a / 64 % 2) (a / 32 % 2) (a / 16 % 2) (a / 8 % 2) (a / 4 % 2) (a / 2 % 2) (a / 1 % 2) (b / 128 % 2)
    (omega arith) (omega arith) (omega arith) (omega arith) (omega arith) (omega arith) (omega arith) (omega arith)

joined_2 : (a b : ℕ) → a < 256 → b < 256 → circle_bits 8 ((256 * a + b) / 64 % 256) ≡ take 8 (drop 2 (circle_bits_of (a ∷ b ∷ [])))
joined_2 a b p q = eight ((256 * a + b) / 64 % 256 / 128 % 2) ((256 * a + b) / 64 % 256 / 64 % 2) ((256 * a + b) / 64 % 256 / 32 % 2) ((256 * a + b) / 64 % 256 / 16 % 2) ((256 * a + b) / 64 % 256 / 8 % 2) ((256 * a + b) / 64 % 256 / 4 % 2) ((256 * a + b) / 64 % 256 / 2 % 2) ((256 * a + b) / 64 % 256 / 1 % 2)
    (a / 32 % 2) (a / 16 % 2) (a / 8 % 2) (a / 4 % 2) (a / 2 % 2) (a / 1 % 2) (b / 128 % 2) (b / 64 % 2)
    (omega arith) (omega arith) (omega arith) (omega arith) (omega arith) (omega arith) (omega arith) (omega arith)

joined_3 : (a b : ℕ) → a < 256 → b < 256 → circle_bits 8 ((256 * a + b) / 32 % 256) ≡ take 8 (drop 3 (circle_bits_of (a ∷ b ∷ [])))
joined_3 a b p q = eight ((256 * a + b) / 32 % 256 / 128 % 2) ((256 * a + b) / 32 % 256 / 64 % 2) ((256 * a + b) / 32 % 256 / 32 % 2) ((256 * a + b) / 32 % 256 / 16 % 2) ((256 * a + b) / 32 % 256 / 8 % 2) ((256 * a + b) / 32 % 256 / 4 % 2) ((256 * a + b) / 32 % 256 / 2 % 2) ((256 * a + b) / 32 % 256 / 1 % 2)
    (a / 16 % 2) (a / 8 % 2) (a / 4 % 2) (a / 2 % 2) (a / 1 % 2) (b / 128 % 2) (b / 64 % 2) (b / 32 % 2)
    (omega arith) (omega arith) (omega arith) (omega arith) (omega arith) (omega arith) (omega arith) (omega arith)

joined_4 : (a b : ℕ) → a < 256 → b < 256 → circle_bits 8 ((256 * a + b) / 16 % 256) ≡ take 8 (drop 4 (circle_bits_of (a ∷ b ∷ [])))
joined_4 a b p q = eight ((256 * a + b) / 16 % 256 / 128 % 2) ((256 * a + b) / 16 % 256 / 64 % 2) ((256 * a + b) / 16 % 256 / 32 % 2) ((256 * a + b) / 16 % 256 / 16 % 2) ((256 * a + b) / 16 % 256 / 8 % 2) ((256 * a + b) / 16 % 256 / 4 % 2) ((256 * a + b) / 16 % 256 / 2 % 2) ((256 * a + b) / 16 % 256 / 1 % 2)
    (a / 8 % 2) (a / 4 % 2) (a / 2 % 2) (a / 1 % 2) (b / 128 % 2) (b / 64 % 2) (b / 32 % 2) (b / 16 % 2)
    (omega arith) (omega arith) (omega arith) (omega arith) (omega arith) (omega arith) (omega arith) (omega arith)

joined_5 : (a b : ℕ) → a < 256 → b < 256 → circle_bits 8 ((256 * a + b) / 8 % 256) ≡ take 8 (drop 5 (circle_bits_of (a ∷ b ∷ [])))
joined_5 a b p q = eight ((256 * a + b) / 8 % 256 / 128 % 2) ((256 * a + b) / 8 % 256 / 64 % 2) ((256 * a + b) / 8 % 256 / 32 % 2) ((256 * a + b) / 8 % 256 / 16 % 2) ((256 * a + b) / 8 % 256 / 8 % 2) ((256 * a + b) / 8 % 256 / 4 % 2) ((256 * a + b) / 8 % 256 / 2 % 2) ((256 * a + b) / 8 % 256 / 1 % 2)
    (a / 4 % 2) (a / 2 % 2) (a / 1 % 2) (b / 128 % 2) (b / 64 % 2) (b / 32 % 2) (b / 16 % 2) (b / 8 % 2)
    (omega arith) (omega arith) (omega arith) (omega arith) (omega arith) (omega arith) (omega arith) (omega arith)

joined_6 : (a b : ℕ) → a < 256 → b < 256 → circle_bits 8 ((256 * a + b) / 4 % 256) ≡ take 8 (drop 6 (circle_bits_of (a ∷ b ∷ [])))
joined_6 a b p q = eight ((256 * a + b) / 4 % 256 / 128 % 2) ((256 * a + b) / 4 % 256 / 64 % 2) ((256 * a + b) / 4 % 256 / 32 % 2) ((256 * a + b) / 4 % 256 / 16 % 2) ((256 * a + b) / 4 % 256 / 8 % 2) ((256 * a + b) / 4 % 256 / 4 % 2) ((256 * a + b) / 4 % 256 / 2 % 2) ((256 * a + b) / 4 % 256 / 1 % 2)
    (a / 2 % 2) (a / 1 % 2) (b / 128 % 2) (b / 64 % 2) (b / 32 % 2) (b / 16 % 2) (b / 8 % 2) (b / 4 % 2)
    (omega arith) (omega arith) (omega arith) (omega arith) (omega arith) (omega arith) (omega arith) (omega arith)

joined_7 : (a b : ℕ) → a < 256 → b < 256 → circle_bits 8 ((256 * a + b) / 2 % 256) ≡ take 8 (drop 7 (circle_bits_of (a ∷ b ∷ [])))
joined_7 a b p q = eight ((256 * a + b) / 2 % 256 / 128 % 2) ((256 * a + b) / 2 % 256 / 64 % 2) ((256 * a + b) / 2 % 256 / 32 % 2) ((256 * a + b) / 2 % 256 / 16 % 2) ((256 * a + b) / 2 % 256 / 8 % 2) ((256 * a + b) / 2 % 256 / 4 % 2) ((256 * a + b) / 2 % 256 / 2 % 2) ((256 * a + b) / 2 % 256 / 1 % 2)
    (a / 1 % 2) (b / 128 % 2) (b / 64 % 2) (b / 32 % 2) (b / 16 % 2) (b / 8 % 2) (b / 4 % 2) (b / 2 % 2)
    (omega arith) (omega arith) (omega arith) (omega arith) (omega arith) (omega arith) (omega arith) (omega arith)

joined_0 : (a b : ℕ) → a < 256 → b < 256 → circle_bits 8 ((256 * a + b) / 256 % 256) ≡ take 8 (drop 0 (circle_bits_of (a ∷ b ∷ [])))
joined_0 a b p q = ap (circle_bits 8) (let e : (256 * a + b) / 256 % 256 ≡ a = omega arith in e)

-- the same by the bit that they begin at
pub joined_by : (a b k : ℕ) → k < 8 → a < 256 → b < 256 → circle_bits 8 ((256 * a + b) / 2 ^ (8 - k) % 256) ≡ take 8 (drop k (circle_bits_of (a ∷ b ∷ [])))
joined_by a b zero h p q = joined_0 a b p q
joined_by a b (suc zero) h p q = joined_1 a b p q
joined_by a b (suc (suc zero)) h p q = joined_2 a b p q
joined_by a b (suc (suc (suc zero))) h p q = joined_3 a b p q
joined_by a b (suc (suc (suc (suc zero)))) h p q = joined_4 a b p q
joined_by a b (suc (suc (suc (suc (suc zero))))) h p q = joined_5 a b p q
joined_by a b (suc (suc (suc (suc (suc (suc zero)))))) h p q = joined_6 a b p q
joined_by a b (suc (suc (suc (suc (suc (suc (suc zero))))))) h p q = joined_7 a b p q
joined_by a b (suc (suc (suc (suc (suc (suc (suc (suc k)))))))) h p q = absurd (omega arith)

-- a place past the end
past : (t : List Bool) (q : ℕ) → length t ≤ q → q < 2 * length t → circle_bit t q ≡ get_or t (q - length t) false
unfolding circle_bit
past t q l u = ap (λ (r : ℕ). get_or t r false) (wrap_once q (length t) l u)

-- the bits of two bytes are those of the circle
pub joined_is : (xs : List ℕ) (p i k a b : ℕ) → length xs ≤ 7928 → p < 8 * length xs → i ≡ p / 8 → k ≡ p % 8 → a ≡ get_or xs i 0
    → (i + 1 < length xs → b ≡ get_or xs (i + 1) 0) → (length xs ≤ i + 1 → b ≡ get_or xs 0 0) → take 8 (drop k (circle_bits_of (a ∷ b ∷ []))) ≡ stretch (circle_bits_of xs) p 8
joined_is xs p i k a b s h e f g inner last = same_lists _ _ (size ∙ sym (length-stretch (circle_bits_of xs) p 8)) (λ j d l. at j d (omega (arith, size)))
  where
    two : length (circle_bits_of (a ∷ b ∷ [])) ≡ 16
    two = refl

    size : length (take 8 (drop k (circle_bits_of (a ∷ b ∷ [])))) ≡ 8
    size = length-take-le 8 (drop k (circle_bits_of (a ∷ b ∷ []))) (omega (arith, length-drop k (circle_bits_of (a ∷ b ∷ []))))

    n : length (circle_bits_of xs) ≡ 8 * length xs
    n = length-bits_of xs

    here : (j : ℕ) → j < 8 → get_or (circle_bits_of (a ∷ b ∷ [])) (k + j) false ≡ circle_bit (circle_bits_of xs) (p + j)
    here j l = elim (cases_lt (k + j) 8) [
      | inl u ↦
          (let q : k + j ≡ 8 * 0 + (k + j) = omega arith in ap (λ (r : ℕ). get_or (circle_bits_of (a ∷ b ∷ [])) r false) q)
          ∙ bit_at_byte (a ∷ b ∷ []) 0 (k + j) (omega arith) u
          ∙ ap (λ (x : ℕ). (x / 2 ^ (7 - (k + j))) % 2 == 1) g
          ∙ sym (bit_at_byte xs i (k + j) (omega arith) u)
          ∙ (let q : 8 * i + (k + j) ≡ p + j = omega arith in ap (λ (r : ℕ). get_or (circle_bits_of xs) r false) q)
          ∙ sym (bit_below (circle_bits_of xs) (p + j) (omega (arith, n)))
      | inr u ↦
          (let q : k + j ≡ 8 * 1 + (k + j - 8) = omega arith in ap (λ (r : ℕ). get_or (circle_bits_of (a ∷ b ∷ [])) r false) q)
          ∙ bit_at_byte (a ∷ b ∷ []) 1 (k + j - 8) (omega arith) (omega arith)
          ∙ elim (cases_lt (i + 1) (length xs)) [
            | inl w ↦
                ap (λ (x : ℕ). (x / 2 ^ (7 - (k + j - 8))) % 2 == 1) (inner w)
                ∙ sym (bit_at_byte xs (i + 1) (k + j - 8) w (omega arith))
                ∙ (let q : 8 * (i + 1) + (k + j - 8) ≡ p + j = omega arith in ap (λ (r : ℕ). get_or (circle_bits_of xs) r false) q)
                ∙ sym (bit_below (circle_bits_of xs) (p + j) (omega (arith, n)))
            | inr w ↦
                ap (λ (x : ℕ). (x / 2 ^ (7 - (k + j - 8))) % 2 == 1) (last w)
                ∙ sym (bit_at_byte xs 0 (k + j - 8) (omega arith) (omega arith))
                ∙ (let q : 8 * 0 + (k + j - 8) ≡ p + j - length (circle_bits_of xs) = omega (arith, n) in ap (λ (r : ℕ). get_or (circle_bits_of xs) r false) q)
                ∙ sym (past (circle_bits_of xs) (p + j) (omega (arith, n)) (omega (arith, n)))
          ]
    ]

    at : (j : ℕ) (d : Bool) → j < 8 → get_or (take 8 (drop k (circle_bits_of (a ∷ b ∷ [])))) j d ≡ get_or (stretch (circle_bits_of xs) p 8) j d
    at j d l =
        get_or-take 8 (drop k (circle_bits_of (a ∷ b ∷ []))) j d l
        ∙ get_or-drop k (circle_bits_of (a ∷ b ∷ [])) j d
        ∙ get_or_default (circle_bits_of (a ∷ b ∷ [])) (k + j) d false (omega arith)
        ∙ here j l
        ∙ sym (get_or-stretch (circle_bits_of xs) p 8 j d l)
