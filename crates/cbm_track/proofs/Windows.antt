use Rattle.std.proofs.Common.{◌≡◌, ℕ, zero, suc, ◌+◌, ◌*◌, ◌-◌, ◌/◌, ◌%◌, ◌^◌, ◌<◌, ◌≤◌, List, [], ◌∷◌, length, get_or, refl, sym, ap, ◌∙◌, arith, inl, inr, Bool, true, false, min, eq-eqb, eqb-true}
use Rattle.std.specs.Prelude.{◌==◌, bit_and, bit_or}
use Rattle.std.specs.Int.{bit_at, bit_not, from_be_bytes, leading_ones, w64}
use lib.Count.{count_leading_zeros}
use Rattle.std.proofs.Math.Nat.{mod-eq_of_lt}
use Rattle.std.proofs.lemmas.Nat.{shr-shr, shr_split, leading_length, le_or_l, le_or_r}
use Rattle.std.proofs.lemmas.Nat.Bits.{bit_at_and, bit_at_cat_low, bit_at_cat_high, bit_at-zero, bit_at_above, bit_at_not, bit_at-lt}
use Rattle.std.proofs.lemmas.Bool.{cases_Bool, cases_lt}
use Rattle.cbm_track.specs.Circle.{circle_bits_of, circle_bit, ten_ones}
use Rattle.cbm_track.specs.Words.{number_from, round_byte, eight, Marks, IsWindow}
use Rattle.cbm_track.proofs.Bytes.{length-bits_of, bit_at_byte}
use Rattle.cbm_track.proofs.Places.{bit_round, bit_below}
use Rattle.cbm_track.proofs.Round.{ten_ones_at}

-- the bits of a number in front of bytes stand above theirs
number_high : (front : ℕ) (xs : List ℕ) (i : ℕ) → ((k : ℕ) → get_or xs k 0 < 256) → bit_at (number_from front xs) (8 * length xs + i) ≡ bit_at front i
number_high front [] i h = ap (bit_at front) (omega arith)
number_high front (x ∷ xs) i h =
    ap (bit_at (number_from (front * 256 + x) xs)) (omega arith)
    ∙ number_high (front * 256 + x) xs (8 + i) (λ k. h (suc k))
    ∙ bit_at_cat_high front 8 x (8 + i) (h 0) (omega arith)
    ∙ ap (bit_at front) (omega arith)

-- bit i of byte k
number_bit : (front : ℕ) (xs : List ℕ) (k i : ℕ) → ((j : ℕ) → get_or xs j 0 < 256) → k < length xs → i < 8 → bit_at (number_from front xs) (8 * (length xs - 1 - k) + i) ≡ bit_at (get_or xs k 0) i
number_bit front [] k i h l b = absurd (omega arith)
number_bit front (x ∷ xs) zero i h l b =
    ap (bit_at (number_from (front * 256 + x) xs)) (omega arith)
    ∙ number_high (front * 256 + x) xs i (λ j. h (suc j))
    ∙ bit_at_cat_low front 8 x i b
number_bit front (x ∷ xs) (suc k) i h l b =
    ap (bit_at (number_from (front * 256 + x) xs)) (omega arith)
    ∙ number_bit (front * 256 + x) xs k i (λ j. h (suc j)) (omega arith) b

-- whole rounds are no way
bit_rounds : (t : List Bool) (m p : ℕ) → circle_bit t (p + m * length t) ≡ circle_bit t p
bit_rounds t zero p = ap (circle_bit t) (omega arith)
bit_rounds t (suc m) p = (let e : p + suc m * length t ≡ (p + m * length t) + length t = omega arith in ap (circle_bit t) e) ∙ bit_round t (p + m * length t) ∙ bit_rounds t m p

-- bit r of the byte at a place of the circle
round_bit : (xs : List ℕ) (a r : ℕ) → 0 < length xs → r < 8 → (bit_at (round_byte xs a) (7 - r) == 1) ≡ circle_bit (circle_bits_of xs) (8 * a + r)
round_bit xs a r h b =
    let below : a % length xs < length xs = omega arith in
    let whole : 8 * a + r ≡ (8 * (a % length xs) + r) + (a / length xs) * (8 * length xs) = omega arith in
    sym (bit_at_byte xs (a % length xs) r below b)
    ∙ sym (bit_below (circle_bits_of xs) (8 * (a % length xs) + r) (omega (arith, length-bits_of xs)))
    ∙ sym (bit_rounds (circle_bits_of xs) (a / length xs) (8 * (a % length xs) + r))
    ∙ ap (λ (n : ℕ). circle_bit (circle_bits_of xs) ((8 * (a % length xs) + r) + (a / length xs) * n)) (length-bits_of xs)
    ∙ ap (circle_bit (circle_bits_of xs)) (sym whole)

eight_at : (xs : List ℕ) (i k : ℕ) → k < 8 → get_or (eight xs i) k 0 ≡ round_byte xs (i + k)
unfolding eight
eight_at xs i zero h = ap (round_byte xs) (omega arith)
eight_at xs i (suc zero) h = refl
eight_at xs i (suc (suc zero)) h = refl
eight_at xs i (suc (suc (suc zero))) h = refl
eight_at xs i (suc (suc (suc (suc zero)))) h = refl
eight_at xs i (suc (suc (suc (suc (suc zero))))) h = refl
eight_at xs i (suc (suc (suc (suc (suc (suc zero)))))) h = refl
eight_at xs i (suc (suc (suc (suc (suc (suc (suc zero))))))) h = refl
eight_at xs i (suc (suc (suc (suc (suc (suc (suc (suc k)))))))) h = absurd (omega arith)

eight_below : (xs : List ℕ) (i k : ℕ) → ((j : ℕ) → get_or xs j 0 < 256) → get_or (eight xs i) k 0 < 256
unfolding eight
eight_below xs i zero h = h _
eight_below xs i (suc zero) h = h _
eight_below xs i (suc (suc zero)) h = h _
eight_below xs i (suc (suc (suc zero))) h = h _
eight_below xs i (suc (suc (suc (suc zero)))) h = h _
eight_below xs i (suc (suc (suc (suc (suc zero))))) h = h _
eight_below xs i (suc (suc (suc (suc (suc (suc zero)))))) h = h _
eight_below xs i (suc (suc (suc (suc (suc (suc (suc zero))))))) h = h _
eight_below xs i (suc (suc (suc (suc (suc (suc (suc (suc k)))))))) h = omega arith

eight_length : (xs : List ℕ) (i : ℕ) → length (eight xs i) ≡ 8
unfolding eight
eight_length xs i = refl

-- the bits of eight bytes in a row, the first one highest
eight_bit : (xs : List ℕ) (i m : ℕ) → 0 < length xs → ((j : ℕ) → get_or xs j 0 < 256) → m < 64 → (bit_at (number_from 0 (eight xs i)) (63 - m) == 1) ≡ circle_bit (circle_bits_of xs) (8 * i + m)
eight_bit xs i m z h l =
    let k : ℕ = m / 8 in
    let r : ℕ = m % 8 in
    ap (λ (n : ℕ). bit_at (number_from 0 (eight xs i)) n == 1) (let e : 63 - m ≡ 8 * (length (eight xs i) - 1 - m / 8) + (7 - m % 8) = omega (arith, eight_length xs i) in e)
    ∙ ap (λ (n : ℕ). n == 1) (number_bit 0 (eight xs i) (m / 8) (7 - m % 8) (λ j. eight_below xs i j h) (omega (arith, eight_length xs i)) (omega arith))
    ∙ ap (λ (x : ℕ). bit_at x (7 - m % 8) == 1) (eight_at xs i (m / 8) (omega arith))
    ∙ round_bit xs (i + m / 8) (m % 8) z (omega arith)
    ∙ ap (circle_bit (circle_bits_of xs)) (let e : 8 * (i + m / 8) + m % 8 ≡ 8 * i + m = omega arith in e)

-- a bit of a number that was moved up within 64 bits
moved_bit : (n s i : ℕ) → s ≤ i → i < 64 → bit_at (n * 2 ^ s % 2 ^ 64) i ≡ bit_at n (i - s)
moved_bit n s i h l =
    sym (bit_at_cat_low (n * 2 ^ s / 2 ^ 64) 64 (n * 2 ^ s % 2 ^ 64) i l)
    ∙ ap (λ (m : ℕ). bit_at m i) (shr_split (n * 2 ^ s) 64)
    ∙ ap (λ (m : ℕ). bit_at m i) (let e : n * 2 ^ s ≡ n * 2 ^ s + 0 = omega arith in e)
    ∙ bit_at_cat_high n s 0 i (omega (arith, pos s)) h
  where
    pos : (k : ℕ) → 0 < 2 ^ k
    pos zero = omega arith
    pos (suc k) = omega (arith, pos k)

-- the bits of the circle from a place on, in the top of a number
pub window_bit : (xs : List ℕ) (place j : ℕ) → 0 < length xs → ((k : ℕ) → get_or xs k 0 < 256) → j < 64 - place % 8
    → (bit_at (number_from 0 (eight xs (place / 8)) * 2 ^ (place % 8) % 2 ^ 64) (63 - j) == 1) ≡ circle_bit (circle_bits_of xs) (place + j)
window_bit xs place j z h l =
    ap (λ (n : ℕ). n == 1) (moved_bit (number_from 0 (eight xs (place / 8))) (place % 8) (63 - j) (omega arith) (omega arith))
    ∙ ap (λ (n : ℕ). bit_at (number_from 0 (eight xs (place / 8))) n == 1) (let e : 63 - j - place % 8 ≡ 63 - (place % 8 + j) = omega arith in e)
    ∙ eight_bit xs (place / 8) (place % 8 + j) z h (omega arith)
    ∙ ap (circle_bit (circle_bits_of xs)) (let e : 8 * (place / 8) + (place % 8 + j) ≡ place + j = omega arith in e)

pub marks_one : (word : ℕ) → Marks word word 1
marks_one word i h = ap (bit_at word) (omega arith) ∙ h 0 (omega arith)

pub marks_join : (word x y n m : ℕ) → Marks word x n → Marks word y m → Marks word (bit_and x (y / 2 ^ n)) (n + m)
marks_join word x y n m p q i h =
    bit_at_and x (y / 2 ^ n) i
    ∙ ap (λ (a : ℕ). min a (bit_at (y / 2 ^ n) i)) (p i (λ k l. h k (omega arith)))
    ∙ ap (λ (a : ℕ). min 1 a) (ap (λ (a : ℕ). a % 2) (shr-shr y n i) ∙ q (n + i) (λ k l. ap (bit_at word) (omega arith) ∙ h (n + k) (omega arith)))

pub list8 : (a b c d e f g h a' b' c' d' e' f' g' h' : ℕ) → a ≡ a' → b ≡ b' → c ≡ c' → d ≡ d' → e ≡ e' → f ≡ f' → g ≡ g' → h ≡ h'
    → a ∷ b ∷ c ∷ d ∷ e ∷ f ∷ g ∷ h ∷ [] ≡ a' ∷ b' ∷ c' ∷ d' ∷ e' ∷ f' ∷ g' ∷ h' ∷ []
list8 a b c d e f g h a' b' c' d' e' f' g' h' p q r s t u v w = λ i. p i ∷ q i ∷ r i ∷ s i ∷ t i ∷ u i ∷ v i ∷ w i ∷ []

-- eight bytes in a row that don't pass the end
pub eight_inside : (xs : List ℕ) (i : ℕ) → i + 8 ≤ length xs
    → get_or xs i 0 ∷ get_or xs (i + 1) 0 ∷ get_or xs (i + 2) 0 ∷ get_or xs (i + 3) 0 ∷ get_or xs (i + 4) 0 ∷ get_or xs (i + 5) 0 ∷ get_or xs (i + 6) 0 ∷ get_or xs (i + 7) 0 ∷ [] ≡ eight xs i
unfolding eight
eight_inside xs i h = list8 _ _ _ _ _ _ _ _ _ _ _ _ _ _ _ _ (at i (omega arith)) (at (i + 1) (omega arith)) (at (i + 2) (omega arith)) (at (i + 3) (omega arith)) (at (i + 4) (omega arith)) (at (i + 5) (omega arith)) (at (i + 6) (omega arith)) (at (i + 7) (omega arith))
  where
    at : (k : ℕ) → k < length xs → get_or xs k 0 ≡ round_byte xs k
    at k l = ap (λ (n : ℕ). get_or xs n 0) (sym (mod-eq_of_lt l))

pub be_number : (a b c d e f g h : ℕ) → from_be_bytes w64 (a ∷ b ∷ c ∷ d ∷ e ∷ f ∷ g ∷ h ∷ []) ≡ number_from 0 (a ∷ b ∷ c ∷ d ∷ e ∷ f ∷ g ∷ h ∷ [])
be_number a b c d e f g h = omega arith

pub be_eight : (xs bytes : List ℕ) (i : ℕ) → bytes ≡ eight xs i → from_be_bytes w64 bytes ≡ number_from 0 (eight xs i)
unfolding eight
be_eight xs bytes i e = ap (from_be_bytes w64) e ∙ be_number _ _ _ _ _ _ _ _

-- a bit of a window that is a one
window_one : (t : List Bool) (place word m : ℕ) → IsWindow t place word → m < 64 - place % 8 → circle_bit t (place + m) ≡ true → bit_at word (63 - m) ≡ 1
window_one t place word m w l h = eqb-true (bit_at word (63 - m)) 1 (w m l ∙ h)

-- no ten ones begin where no nine are marked
pub plain_there : (t : List Bool) (place word marks j : ℕ) → IsWindow t place word → Marks word marks 9 → j < 56 - place % 8 → bit_at marks (55 - j) ≡ 0 → ten_ones t (place + j) ≡ false
plain_there t place word marks j w m l z = elim (cases_Bool (ten_ones t (place + j))) [
  | inl e ↦ absurd (let one : bit_at marks (55 - j) ≡ 1 = m (55 - j) (λ k b.
      ap (bit_at word) (let q : 55 - j + k ≡ 63 - (8 - k + j) = omega arith in q)
      ∙ window_one t place word (8 - k + j) w (omega arith)
      ((let q : place + (8 - k + j) ≡ place + j + (8 - k) = omega arith in ap (circle_bit t) q) ∙ ten_ones_at t (place + j) (8 - k) e (omega arith))) in
      omega (arith, sym z ∙ one))
  | inr e ↦ e
]

pub plain_all : (t : List Bool) (place word marks j : ℕ) → IsWindow t place word → Marks word marks 9 → j < 56 - place % 8 → marks ≡ 0 → ten_ones t (place + j) ≡ false
plain_all t place word marks j w m l z = plain_there t place word marks j w m l (ap (λ (n : ℕ). bit_at n (55 - j)) z ∙ bit_at-zero (55 - j))

pub plain_front : (t : List Bool) (place word marks j : ℕ) → IsWindow t place word → Marks word marks 9 → j < 56 - place % 8 → marks < 2 ^ 64 → j + 8 < count_leading_zeros 64 marks → ten_ones t (place + j) ≡ false
plain_front t place word marks j w m l b h =
    let top = leading_length 64 marks b in
    let sum : count_leading_zeros 64 marks + top.0 ≡ 64 = top.1 in
    plain_there t place word marks j w m l (bit_at_above marks top.0 (55 - j) top.2 (omega arith))

top_bit : (a m : ℕ) → 2 ^ m ≤ a → a < 2 * 2 ^ m → bit_at a m ≡ 1
top_bit a m l h =
    ap (λ (n : ℕ). bit_at n m) (let e : a ≡ 1 * 2 ^ m + (a - 2 ^ m) = omega arith in e)
    ∙ bit_at_cat_high 1 m (a - 2 ^ m) m (omega arith) (omega arith)
    ∙ ap (bit_at 1) (let e : m - m ≡ 0 = omega arith in e)

twice : (k : ℕ) → 2 ^ suc k ≡ 2 * 2 ^ k
twice k = omega arith

-- the ones that begin a window
pub leads : (t : List Bool) (place word j : ℕ) → IsWindow t place word → word < 2 ^ 64 → j < 64 - place % 8 → j < leading_ones w64 word → circle_bit t (place + j) ≡ true
leads t place word j w b l h =
    let top = leading_length 64 (bit_not w64 word) (omega arith) in
    let sum : count_leading_zeros 64 (bit_not w64 word) + top.0 ≡ 64 = top.1 in
    let none : bit_at (bit_not w64 word) (63 - j) ≡ 0 = bit_at_above (bit_not w64 word) top.0 (63 - j) top.2 (omega arith) in
    let turned : bit_at (bit_not w64 word) (63 - j) ≡ 1 - bit_at word (63 - j) = bit_at_not w64 word (63 - j) b (omega arith) in
    let few : bit_at word (63 - j) < 2 = bit_at-lt word (63 - j) in
    let one : bit_at word (63 - j) ≡ 1 = omega arith in
    sym (w j l) ∙ eq-eqb (bit_at word (63 - j)) 1 one

-- and the zero after them
pub ends : (t : List Bool) (place word : ℕ) → IsWindow t place word → word < 2 ^ 64 → leading_ones w64 word < 64 - place % 8 → circle_bit t (place + leading_ones w64 word) ≡ false
ends t place word w b h =
    let top = leading_length 64 (bit_not w64 word) (omega arith) in
    let sum : count_leading_zeros 64 (bit_not w64 word) + top.0 ≡ 64 = top.1 in
    let there : top.0 ≡ suc (63 - leading_ones w64 word) = omega arith in
    let double : 2 ^ top.0 ≡ 2 * 2 ^ (63 - leading_ones w64 word) = ap (λ (n : ℕ). 2 ^ n) there ∙ twice (63 - leading_ones w64 word) in
    let below : bit_not w64 word < 2 ^ top.0 = top.2 in
    let above : 2 ^ top.0 ≤ 2 * bit_not w64 word + 1 = top.3 in
    let one : bit_at (bit_not w64 word) (63 - leading_ones w64 word) ≡ 1 = top_bit (bit_not w64 word) (63 - leading_ones w64 word) (omega arith) (omega arith) in
    let turned : bit_at (bit_not w64 word) (63 - leading_ones w64 word) ≡ 1 - bit_at word (63 - leading_ones w64 word) = bit_at_not w64 word (63 - leading_ones w64 word) b (omega arith) in
    let zero_there : bit_at word (63 - leading_ones w64 word) ≡ 0 = omega arith in
    sym (w (leading_ones w64 word) h) ∙ ap (λ (n : ℕ). n == 1) zero_there

-- no ten ones begin in seven bytes where no nine are marked in eight
pub plain_word : (xs : List ℕ) (i word marks j : ℕ) → 0 < length xs → ((k : ℕ) → get_or xs k 0 < 256) → word ≡ number_from 0 (eight xs i) → Marks word marks 9 → marks ≡ 0 → j < 56 → ten_ones (circle_bits_of xs) (8 * i + j) ≡ false
plain_word xs i word marks j z h e m n l =
    plain_all (circle_bits_of xs) (8 * i) word marks j
    (λ k b. ap (λ (w : ℕ). bit_at w (63 - k) == 1) e ∙ eight_bit xs i k z h (omega arith))
    m (omega arith) n

-- two of them, one after the other
pub plain_two : (xs : List ℕ) (from i a b x y j : ℕ) → 0 < length xs → ((k : ℕ) → get_or xs k 0 < 256) → from ≤ i → ((k : ℕ) → k < 8 * (i - from) → ten_ones (circle_bits_of xs) (8 * from + k) ≡ false)
    → a ≡ number_from 0 (eight xs i) → b ≡ number_from 0 (eight xs (i + 7)) → Marks a x 9 → Marks b y 9 → bit_or x y ≡ 0 → j < 8 * (i + 14 - from) → ten_ones (circle_bits_of xs) (8 * from + j) ≡ false
plain_two xs from i a b x y j z h f none e g m n o l = elim (cases_lt j (8 * (i - from))) [
  | inl old ↦ none j old
  | inr new ↦ elim (cases_lt j (8 * (i - from) + 56)) [
    | inl first ↦ (let q : 8 * from + j ≡ 8 * i + (j - 8 * (i - from)) = omega arith in ap (ten_ones (circle_bits_of xs)) q)
        ∙ plain_word xs i a x (j - 8 * (i - from)) z h e m (omega (arith, le_or_l x y, o)) (omega arith)
    | inr second ↦ (let q : 8 * from + j ≡ 8 * (i + 7) + (j - 8 * (i - from) - 56) = omega arith in ap (ten_ones (circle_bits_of xs)) q)
        ∙ plain_word xs (i + 7) b y (j - 8 * (i - from) - 56) z h g n (omega (arith, le_or_r x y, o)) (omega arith)
  ]
]

-- one of them
pub plain_one : (xs : List ℕ) (from i word marks j : ℕ) → 0 < length xs → ((k : ℕ) → get_or xs k 0 < 256) → from ≤ i → ((k : ℕ) → k < 8 * (i - from) → ten_ones (circle_bits_of xs) (8 * from + k) ≡ false)
    → word ≡ number_from 0 (eight xs i) → Marks word marks 9 → marks ≡ 0 → j < 8 * (i + 7 - from) → ten_ones (circle_bits_of xs) (8 * from + j) ≡ false
plain_one xs from i word marks j z h f none e m n l = elim (cases_lt j (8 * (i - from))) [
  | inl old ↦ none j old
  | inr new ↦ (let q : 8 * from + j ≡ 8 * i + (j - 8 * (i - from)) = omega arith in ap (ten_ones (circle_bits_of xs)) q)
      ∙ plain_word xs i word marks (j - 8 * (i - from)) z h e m n (omega arith)
]

-- places after which bytes follow
pub plain_after : (t : List Bool) (place plain next bytes j : ℕ) → next ≡ place + plain → next % 8 ≡ 0 → ((k : ℕ) → k < plain → ten_ones t (place + k) ≡ false)
    → ((k : ℕ) → k < 8 * bytes → ten_ones t (8 * (next / 8) + k) ≡ false) → j < plain + 8 * bytes → ten_ones t (place + j) ≡ false
plain_after t place plain next bytes j e z none more l = elim (cases_lt j plain) [
  | inl old ↦ none j old
  | inr new ↦ (let q : place + j ≡ 8 * (next / 8) + (j - plain) = omega arith in ap (ten_ones t) q) ∙ more (j - plain) (omega arith)
]
