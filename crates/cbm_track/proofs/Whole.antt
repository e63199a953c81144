-- Bytes that stand at a whole byte of the circle and don't pass its end.
use Rattle.std.proofs.Common.{◌≡◌, ◌⊎◌, ℕ, ◌+◌, ◌*◌, ◌-◌, ◌/◌, ◌%◌, ◌<◌, ◌≤◌, List, length, get_or, take, drop, sym, ap, ◌∙◌, arith, rules, inl, inr, Bool, false}
use Rattle.std.proofs.Math.Nat.{mod-eq_of_lt}
use Rattle.std.proofs.lemmas.List.{places, get_or-take, get_or-drop, get_or_default, length-take-le, length-drop, same_lists}
use Rattle.std.proofs.lemmas.Bool.{cases_lt}
use borrow.Rule.Slice.PartMut.{put_mid}
use Rattle.cbm_track.specs.Circle.{circle_bits_of, circle_bit, stretch}
use Rattle.cbm_track.proofs.Bytes.{length-bits_of, bit_at_byte, bit_at_place, bit_in}
use Rattle.cbm_track.proofs.Places.{bit_below, wrap_once, length-stretch, get_or-stretch}

-- the bits of bytes cut out are those of the circle
pub stretch_inside : (xs : List ℕ) (place i n : ℕ) → place % 8 ≡ 0 → i ≡ place / 8 → i + n ≤ length xs → circle_bits_of (take n (drop i xs)) ≡ stretch (circle_bits_of xs) place (8 * n)
stretch_inside xs place i n z e h = same_lists _ _ (size ∙ sym (length-stretch (circle_bits_of xs) place (8 * n))) (λ q d l. at q d (omega (arith, size)))
  where
    cut : length (take n (drop i xs)) ≡ n
    cut = length-take-le n (drop i xs) (omega (arith, length-drop i xs))

    size : length (circle_bits_of (take n (drop i xs))) ≡ 8 * n
    size = omega (arith, length-bits_of (take n (drop i xs)), cut)

    there : (q : ℕ) → q < 8 * n → get_or (circle_bits_of (take n (drop i xs))) q false ≡ circle_bit (circle_bits_of xs) (place + q)
    there q l =
        bit_at_place (take n (drop i xs)) q (omega (arith, cut))
        ∙ ap (λ (x : ℕ). bit_in x (q % 8)) (get_or-take n (drop i xs) (q / 8) 0 (omega arith) ∙ get_or-drop i xs (q / 8) 0)
        ∙ sym (bit_at_byte xs (i + q / 8) (q % 8) (omega arith) (omega arith))
        ∙ (let f : 8 * (i + q / 8) + q % 8 ≡ place + q = omega arith in ap (λ (p : ℕ). get_or (circle_bits_of xs) p false) f)
        ∙ sym (bit_below (circle_bits_of xs) (place + q) (omega (arith, length-bits_of xs)))

    at : (q : ℕ) (d : Bool) → q < 8 * n → get_or (circle_bits_of (take n (drop i xs))) q d ≡ get_or (stretch (circle_bits_of xs) place (8 * n)) q d
    at q d l =
        get_or_default (circle_bits_of (take n (drop i xs))) q d false (omega (arith, size))
        ∙ there q l
        ∙ sym (get_or-stretch (circle_bits_of xs) place (8 * n) q d l)

-- what stands in a list into whose middle others were put
mid_in : (a k i : ℕ) (xs ys : List ℕ) → length ys ≡ k → a + k ≤ length xs → i < k → get_or (put_mid a k xs ys) (a + i) 0 ≡ get_or ys i 0
mid_in a k i xs ys e h l = search (rules, places)

mid_out : (a k i : ℕ) (xs ys : List ℕ) → length ys ≡ k → a + k ≤ length xs → (i < a) ⊎ (a + k ≤ i) → get_or (put_mid a k xs ys) i 0 ≡ get_or xs i 0
mid_out a k i xs ys e h (inl l) = search (rules, places)
mid_out a k i xs ys e h (inr l) = search (rules, places)

mid_length : (a k : ℕ) (xs ys : List ℕ) → length ys ≡ k → a + k ≤ length xs → length (put_mid a k xs ys) ≡ length xs
mid_length a k xs ys e h = search (rules, places)

-- a bit of the circle, by its byte
pub bit_by : (xs : List ℕ) (p r : ℕ) → 0 < length xs → r ≡ p % (8 * length xs) → circle_bit (circle_bits_of xs) p ≡ bit_in (get_or xs (r / 8) 0) (r % 8)
unfolding circle_bit
bit_by xs p r h e =
    ap (λ (n : ℕ). get_or (circle_bits_of xs) (p % n) false) (length-bits_of xs)
    ∙ ap (λ (q : ℕ). get_or (circle_bits_of xs) q false) (sym e)
    ∙ bit_at_place xs r (omega arith)

pub put_here : (xs ys : List ℕ) (place a k q : ℕ) → place % 8 ≡ 0 → a ≡ place / 8 → length ys ≡ k → a + k ≤ length xs → q < 8 * k
    → circle_bit (circle_bits_of (put_mid a k xs ys)) (place + q) ≡ get_or (circle_bits_of ys) q false
put_here xs ys place a k q z e f h l =
    bit_by (put_mid a k xs ys) (place + q) (place + q) (omega (arith, mid_length a k xs ys f h)) (sym (mod-eq_of_lt (omega (arith, mid_length a k xs ys f h))))
    ∙ (let i : (place + q) / 8 ≡ a + q / 8 = omega arith in ap (λ (n : ℕ). bit_in (get_or (put_mid a k xs ys) n 0) ((place + q) % 8)) i)
    ∙ ap (λ (x : ℕ). bit_in x ((place + q) % 8)) (mid_in a k (q / 8) xs ys f h (omega arith))
    ∙ (let j : (place + q) % 8 ≡ q % 8 = omega arith in ap (λ (n : ℕ). bit_in (get_or ys (q / 8) 0) n) j)
    ∙ sym (bit_at_place ys q (omega arith))

pub put_others : (xs ys : List ℕ) (place a k q : ℕ) → place % 8 ≡ 0 → a ≡ place / 8 → length ys ≡ k → a + k ≤ length xs → 8 * k ≤ q → q < 8 * length xs
    → circle_bit (circle_bits_of (put_mid a k xs ys)) (place + q) ≡ circle_bit (circle_bits_of xs) (place + q)
put_others xs ys place a k q z e f h l b = elim (cases_lt (place + q) (8 * length xs)) [
  | inl near ↦ go (place + q) (sym (mod-eq_of_lt near)) (inr (omega arith))
  | inr far ↦ go (place + q - 8 * length xs) (sym (wrap_once (place + q) (8 * length xs) far (omega arith))) (inl (omega arith))
]
  where
    go : (r : ℕ) → r ≡ (place + q) % (8 * length xs) → (r / 8 < a) ⊎ (a + k ≤ r / 8) → circle_bit (circle_bits_of (put_mid a k xs ys)) (place + q) ≡ circle_bit (circle_bits_of xs) (place + q)
    go r g out =
        bit_by (put_mid a k xs ys) (place + q) r (omega (arith, mid_length a k xs ys f h)) (g ∙ sym (ap (λ (n : ℕ). (place + q) % (8 * n)) (mid_length a k xs ys f h)))
        ∙ ap (λ (x : ℕ). bit_in x (r % 8)) (mid_out a k (r / 8) xs ys f h out)
        ∙ sym (bit_by xs (place + q) r (omega arith) g)
