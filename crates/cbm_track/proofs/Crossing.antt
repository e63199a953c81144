-- A byte put at any bit of a circle of bytes: it begins in one byte and ends in the next, which is the same one on a circle of one byte.
use Rattle.std.proofs.Common.{◌≡◌, ◌≢◌, ◌⊎◌, ℕ, ◌+◌, ◌*◌, ◌-◌, ◌/◌, ◌%◌, ◌<◌, ◌≤◌, List, [], length, get_or, set, sym, ap, ◌∙◌, arith, inl, inr, Bool, false}
use Rattle.std.proofs.Math.Nat.{mod-eq_of_lt}
use Rattle.std.proofs.lemmas.List.{length-set, get_or-set_same, get_or-set_other}
use Rattle.std.proofs.lemmas.Bool.{cases_lt, cases_eq}
use Rattle.cbm_track.specs.Circle.{circle_bits, circle_bits_of, circle_bit}
use Rattle.cbm_track.proofs.Bytes.{bit_in, bit_of_front, bit_at_byte, length-bits_of}
use Rattle.cbm_track.proofs.Places.{wrap_once, bit_wrapped, bit_round}
use Rattle.cbm_track.proofs.Whole.{bit_by}

-- a bit of a byte by itself
pub alone : (x k : ℕ) → k < 8 → get_or (circle_bits 8 x) k false ≡ bit_in x k
alone x k h = bit_of_front x [] k h

-- byte a of xs begins with its own bits and goes on with those of b; byte z has the rest of b, and then its own bits
pub record IsCrossed (xs : List ℕ) (p b a z x y : ℕ) : Type 0 where
  pub inside : p < 8 * length xs
  pub first : a ≡ p / 8
  pub near : a + 1 < length xs → z ≡ a + 1
  pub far : length xs ≤ a + 1 → z ≡ 0
  pub front_kept : (k : ℕ) → k < p % 8 → get_or (circle_bits 8 x) k false ≡ get_or (circle_bits 8 (get_or xs a 0)) k false
  pub front_new : (k : ℕ) → p % 8 ≤ k → k < 8 → get_or (circle_bits 8 x) k false ≡ get_or (circle_bits 8 b) (k - p % 8) false
  pub back_new : (k : ℕ) → k < p % 8 → get_or (circle_bits 8 y) k false ≡ get_or (circle_bits 8 b) (8 - p % 8 + k) false
  pub back_kept : (k : ℕ) → p % 8 ≤ k → k < 8 → get_or (circle_bits 8 y) k false ≡ get_or (circle_bits 8 (get_or (set xs a x) z 0)) k false

lengths : (xs : List ℕ) (a z x y : ℕ) → length (set (set xs a x) z y) ≡ length xs
lengths xs a z x y = length-set (set xs a x) z y ∙ length-set xs a x

last_in : (xs : List ℕ) (p b a z x y : ℕ) → IsCrossed xs p b a z x y → z < length xs
last_in xs p b a z x y c = elim (cases_lt (a + 1) (length xs)) [
  | inl w ↦ (let e = c.near w in omega arith)
  | inr w ↦ (let e = c.far w in let i = c.inside in omega arith)
]

-- the bits of each byte then
in_back : (xs : List ℕ) (p b a z x y : ℕ) → IsCrossed xs p b a z x y → (i k : ℕ) → i ≡ z → k < p % 8
    → bit_in (get_or (set (set xs a x) z y) i 0) k ≡ get_or (circle_bits 8 b) (8 - p % 8 + k) false
in_back xs p b a z x y c i k e l =
    ap (λ (j : ℕ). bit_in (get_or (set (set xs a x) z y) j 0) k) e
    ∙ ap (λ (v : ℕ). bit_in v k) (get_or-set_same (set xs a x) z y 0 (omega (arith, last_in xs p b a z x y c, length-set xs a x)))
    ∙ sym (alone y k (omega arith))
    ∙ c.back_new k l

after_back_bits : (xs : List ℕ) (p b a z x y : ℕ) → IsCrossed xs p b a z x y → (i k : ℕ) → k < 8 → (i ≢ z) ⊎ (p % 8 ≤ k)
    → bit_in (get_or (set (set xs a x) z y) i 0) k ≡ bit_in (get_or (set xs a x) i 0) k
after_back_bits xs p b a z x y c i k l (inl ne) = ap (λ (v : ℕ). bit_in v k) (get_or-set_other (set xs a x) z i y 0 ne)
after_back_bits xs p b a z x y c i k l (inr h) = elim (cases_eq i z) [
  | inl e ↦ ap (λ (j : ℕ). bit_in (get_or (set (set xs a x) z y) j 0) k) e
      ∙ ap (λ (v : ℕ). bit_in v k) (get_or-set_same (set xs a x) z y 0 (omega (arith, last_in xs p b a z x y c, length-set xs a x)))
      ∙ sym (alone y k l)
      ∙ c.back_kept k h l
      ∙ alone (get_or (set xs a x) z 0) k l
      ∙ sym (ap (λ (j : ℕ). bit_in (get_or (set xs a x) j 0) k) e)
  | inr ne ↦ ap (λ (v : ℕ). bit_in v k) (get_or-set_other (set xs a x) z i y 0 ne)
]

in_front : (xs : List ℕ) (p b a z x y : ℕ) → IsCrossed xs p b a z x y → (i k : ℕ) → i ≡ a → p % 8 ≤ k → k < 8
    → bit_in (get_or (set xs a x) i 0) k ≡ get_or (circle_bits 8 b) (k - p % 8) false
in_front xs p b a z x y c i k e h l =
    let f = c.first in
    let w = c.inside in
    ap (λ (j : ℕ). bit_in (get_or (set xs a x) j 0) k) e
    ∙ ap (λ (v : ℕ). bit_in v k) (get_or-set_same xs a x 0 (omega arith))
    ∙ sym (alone x k l)
    ∙ c.front_new k h l

before_front : (xs : List ℕ) (p b a z x y : ℕ) → IsCrossed xs p b a z x y → (i k : ℕ) → k < 8 → (i ≢ a) ⊎ (k < p % 8)
    → bit_in (get_or (set xs a x) i 0) k ≡ bit_in (get_or xs i 0) k
before_front xs p b a z x y c i k l (inl ne) = ap (λ (v : ℕ). bit_in v k) (get_or-set_other xs a i x 0 ne)
before_front xs p b a z x y c i k l (inr h) = elim (cases_eq i a) [
  | inl e ↦ (let f = c.first in
      let w = c.inside in
      ap (λ (j : ℕ). bit_in (get_or (set xs a x) j 0) k) e
      ∙ ap (λ (v : ℕ). bit_in v k) (get_or-set_same xs a x 0 (omega arith))
      ∙ sym (alone x k l)
      ∙ c.front_kept k h
      ∙ alone (get_or xs a 0) k l
      ∙ sym (ap (λ (j : ℕ). bit_in (get_or xs j 0) k) e))
  | inr ne ↦ ap (λ (v : ℕ). bit_in v k) (get_or-set_other xs a i x 0 ne)
]

-- a bit of the circle then, by its place on it
bit_then : (xs : List ℕ) (a z x y p r : ℕ) → 0 < length xs → r ≡ p % (8 * length xs) → circle_bit (circle_bits_of (set (set xs a x) z y)) p ≡ bit_in (get_or (set (set xs a x) z y) (r / 8) 0) (r % 8)
bit_then xs a z x y p r h e =
    bit_by (set (set xs a x) z y) p r (omega (arith, lengths xs a z x y)) (e ∙ sym (ap (λ (n : ℕ). p % (8 * n)) (lengths xs a z x y)))

pub crossed_here : (xs : List ℕ) (p b a z x y : ℕ) → IsCrossed xs p b a z x y → (q : ℕ) → q < 8
    → circle_bit (circle_bits_of (set (set xs a x) z y)) (p + q) ≡ get_or (circle_bits 8 b) q false
crossed_here xs p b a z x y c q l = elim (cases_lt (p % 8 + q) 8) [
  | inl w ↦ (let f = c.first in
      let i = c.inside in
      bit_then xs a z x y (p + q) (p + q) (omega arith) (sym (mod-eq_of_lt (omega arith)))
      ∙ after_back_bits xs p b a z x y c ((p + q) / 8) ((p + q) % 8) (omega arith) (inr (omega arith))
      ∙ in_front xs p b a z x y c ((p + q) / 8) ((p + q) % 8) (omega arith) (omega arith) (omega arith)
      ∙ ap (λ (k : ℕ). get_or (circle_bits 8 b) k false) (omega arith))
  | inr w ↦ elim (cases_lt (a + 1) (length xs)) [
    | inl n ↦ (let f = c.first in
        let i = c.inside in
        let e = c.near n in
        bit_then xs a z x y (p + q) (p + q) (omega arith) (sym (mod-eq_of_lt (omega arith)))
        ∙ in_back xs p b a z x y c ((p + q) / 8) ((p + q) % 8) (omega arith) (omega arith)
        ∙ ap (λ (k : ℕ). get_or (circle_bits 8 b) k false) (omega arith))
    | inr n ↦ (let f = c.first in
        let i = c.inside in
        let e = c.far n in
        bit_then xs a z x y (p + q) (p + q - 8 * length xs) (omega arith) (sym (wrap_once (p + q) (8 * length xs) (omega arith) (omega arith)))
        ∙ in_back xs p b a z x y c ((p + q - 8 * length xs) / 8) ((p + q - 8 * length xs) % 8) (omega arith) (omega arith)
        ∙ ap (λ (k : ℕ). get_or (circle_bits 8 b) k false) (omega arith))
  ]
]

pub crossed_others : (xs : List ℕ) (p b a z x y : ℕ) → IsCrossed xs p b a z x y → (q : ℕ) → 8 ≤ q → q < 8 * length xs
    → circle_bit (circle_bits_of (set (set xs a x) z y)) (p + q) ≡ circle_bit (circle_bits_of xs) (p + q)
crossed_others xs p b a z x y c q h l = elim (cases_lt (p + q) (8 * length xs)) [
  | inl w ↦ (let f = c.first in
      let i = c.inside in
      go (p + q) (sym (mod-eq_of_lt w)) (by_last (p + q) (λ g e. (let n = c.near (omega arith) in omega arith))) (inl (λ e. omega arith)))
  | inr w ↦ (let f = c.first in
      let i = c.inside in
      go (p + q - 8 * length xs) (sym (wrap_once (p + q) (8 * length xs) w (omega arith))) (by_last (p + q - 8 * length xs) (λ g e. before w g e)) (by_first (p + q - 8 * length xs) (λ g e. omega arith)))
]
  where
    by_last : (r : ℕ) → (r % 8 < p % 8 → r / 8 ≢ z) → (r / 8 ≢ z) ⊎ (p % 8 ≤ r % 8)
    by_last r g = elim (cases_lt (r % 8) (p % 8)) [ inl k ↦ inl (g k) | inr k ↦ inr k ]

    by_first : (r : ℕ) → (p % 8 ≤ r % 8 → r / 8 ≢ a) → (r / 8 ≢ a) ⊎ (r % 8 < p % 8)
    by_first r g = elim (cases_lt (r % 8) (p % 8)) [ inl k ↦ inr k | inr k ↦ inl (g k) ]

    before : 8 * length xs ≤ p + q → (p + q - 8 * length xs) % 8 < p % 8 → (p + q - 8 * length xs) / 8 ≢ z
    before w g e = elim (cases_lt (a + 1) (length xs)) [
      | inl n ↦ (let f = c.first in let i = c.inside in let d = c.near n in omega arith)
      | inr n ↦ (let f = c.first in let i = c.inside in let d = c.far n in omega arith)
    ]

    go : (r : ℕ) → r ≡ (p + q) % (8 * length xs) → (r / 8 ≢ z) ⊎ (p % 8 ≤ r % 8) → (r / 8 ≢ a) ⊎ (r % 8 < p % 8)
        → circle_bit (circle_bits_of (set (set xs a x) z y)) (p + q) ≡ circle_bit (circle_bits_of xs) (p + q)
    go r e u v =
        bit_then xs a z x y (p + q) r (omega arith) e
        ∙ after_back_bits xs p b a z x y c (r / 8) (r % 8) (omega arith) u
        ∙ before_front xs p b a z x y c (r / 8) (r % 8) (omega arith) v
        ∙ sym (bit_by xs (p + q) r (omega arith) e)

-- a place seen from one that lies further on
pub from_there : (t : List Bool) (n p a o k : ℕ) → length t ≡ n → 0 < n → a ≡ (p + o) % n → circle_bit t (a + k) ≡ circle_bit t (p + (o + k))
from_there t n p a o k s h e =
    ap (λ (q : ℕ). circle_bit t (q + k)) (e ∙ sym (ap (λ (m : ℕ). (p + o) % m) s))
    ∙ bit_wrapped t (p + o) k (omega arith)
    ∙ ap (circle_bit t) (omega arith)

-- one byte more on a walk round: what was written before, what it is now, and what stays
pub one_more : (xs ys bytes : List ℕ) (p a i b : ℕ) → length ys ≡ length xs → 8 * i + 8 ≤ 8 * length xs → i < length bytes → b ≡ get_or bytes i 0
    → a ≡ (p + 8 * i) % (8 * length xs)
    → ((k : ℕ) → k < 8 → circle_bit (circle_bits_of ys) (a + k) ≡ get_or (circle_bits 8 b) k false)
    → ((k : ℕ) → 8 ≤ k → k < 8 * length xs → circle_bit (circle_bits_of ys) (a + k) ≡ circle_bit (circle_bits_of xs) (a + k))
    → ((j : ℕ) → j < 8 * i → circle_bit (circle_bits_of xs) (p + j) ≡ get_or (circle_bits_of bytes) j false)
    → (j : ℕ) → j < 8 * i + 8 → circle_bit (circle_bits_of ys) (p + j) ≡ get_or (circle_bits_of bytes) j false
one_more xs ys bytes p a i b s m l e f new kept old j h = elim (cases_lt j (8 * i)) [
  | inl w ↦ sym (around (circle_bits_of ys) (omega (arith, length-bits_of ys)) w) ∙ kept (8 * length xs + j - 8 * i) (omega arith) (omega arith) ∙ around (circle_bits_of xs) (length-bits_of xs) w ∙ old j w
  | inr w ↦ sym (there w) ∙ new (j - 8 * i) (omega arith)
      ∙ alone b (j - 8 * i) (omega arith)
      ∙ ap (λ (v : ℕ). bit_in v (j - 8 * i)) e
      ∙ sym (bit_at_byte bytes i (j - 8 * i) l (omega arith))
      ∙ ap (λ (q : ℕ). get_or (circle_bits_of bytes) q false) (omega arith)
]
  where
    around : (t : List Bool) → length t ≡ 8 * length xs → j < 8 * i → circle_bit t (a + (8 * length xs + j - 8 * i)) ≡ circle_bit t (p + j)
    around t g w =
        from_there t (8 * length xs) p a (8 * i) (8 * length xs + j - 8 * i) g (omega arith) f
        ∙ ap (circle_bit t) (omega arith)
        ∙ bit_round t (p + j)

    there : 8 * i ≤ j → circle_bit (circle_bits_of ys) (a + (j - 8 * i)) ≡ circle_bit (circle_bits_of ys) (p + j)
    there w = from_there (circle_bits_of ys) (8 * length xs) p a (8 * i) (j - 8 * i) (omega (arith, length-bits_of ys)) (omega arith) f ∙ ap (circle_bit (circle_bits_of ys)) (omega arith)

pub still : (xs ys : List ℕ) (p a i j : ℕ) → length ys ≡ length xs → 8 * i + 8 ≤ j → j < 8 * length xs
    → a ≡ (p + 8 * i) % (8 * length xs)
    → ((k : ℕ) → 8 ≤ k → k < 8 * length xs → circle_bit (circle_bits_of ys) (a + k) ≡ circle_bit (circle_bits_of xs) (a + k))
    → circle_bit (circle_bits_of ys) (p + j) ≡ circle_bit (circle_bits_of xs) (p + j)
still xs ys p a i j s m l f kept =
    sym (there (circle_bits_of ys) (omega (arith, length-bits_of ys))) ∙ kept (j - 8 * i) (omega arith) (omega arith) ∙ there (circle_bits_of xs) (length-bits_of xs)
  where
    there : (t : List Bool) → length t ≡ 8 * length xs → circle_bit t (a + (j - 8 * i)) ≡ circle_bit t (p + j)
    there t g = from_there t (8 * length xs) p a (8 * i) (j - 8 * i) g (omega arith) f ∙ ap (circle_bit t) (omega arith)
