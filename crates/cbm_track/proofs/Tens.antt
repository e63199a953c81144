use Rattle.std.proofs.Common.{◌≡◌, ℕ, ◌+◌, ◌*◌, ◌-◌, ◌%◌, ◌<◌, ◌≤◌, List, length, get_or, sym, ap, ◌∙◌, arith, inl, inr, Bool, true, false, Option, Some, None, subst}
use Rattle.std.proofs.Math.Nat.{mod-eq_of_lt, add-mod_right}
use Rattle.std.proofs.lemmas.Bool.{cases_lt, cases_Bool, false≢true, not-true}
use Rattle.std.specs.Prelude.{is_some, not}
use Rattle.cbm_track.specs.Circle.{circle_bits_of, circle_bit, ten_ones, begins, next_block, first_below, is_clear}
use Rattle.cbm_track.proofs.Bytes.{length-bits_of}
use Rattle.cbm_track.proofs.Firsts.{each_from, IsFirst, Found, at, nowhere, found}
use Rattle.cbm_track.proofs.Places.{bit_wrapped, bit_round, ten_ones_same, mod_add}
use Rattle.cbm_track.proofs.Round.{Around, around, bit_there, not_clear, clear_from, ten_ones_at, begins_no_ten, begins_there}
use Rattle.cbm_track.proofs.Steps.{next_none, next_some, begins_not_one, begins_here}

pub ten_from : (t : List Bool) (p : ℕ) → ((k : ℕ) → k < 10 → circle_bit t (p + k) ≡ true) → ten_ones t p ≡ true
unfolding ten_ones
ten_from t p h = each_from (λ k. circle_bit t (p + k)) 10 h

-- what stands after the place that a walk has come to
pub bit_walked : (xs : List ℕ) (a r k : ℕ) → r ≡ a % (8 * length xs) → 0 < length xs → circle_bit (circle_bits_of xs) (r + k) ≡ circle_bit (circle_bits_of xs) (a + k)
bit_walked xs a r k e h =
    ap (λ (q : ℕ). circle_bit (circle_bits_of xs) (q + k)) (e ∙ sym (ap (λ (n : ℕ). a % n) (length-bits_of xs)))
    ∙ bit_wrapped (circle_bits_of xs) a k (omega (arith, length-bits_of xs))

pub ten_walked : (xs : List ℕ) (a r k : ℕ) → r ≡ a % (8 * length xs) → 0 < length xs → ten_ones (circle_bits_of xs) (r + k) ≡ ten_ones (circle_bits_of xs) (a + k)
ten_walked xs a r k e h = ten_ones_same (circle_bits_of xs) (circle_bits_of xs) (r + k) (a + k) (λ i l.
    (let q : r + k + i ≡ r + (k + i) = omega arith in ap (circle_bit (circle_bits_of xs)) q)
    ∙ bit_walked xs a r (k + i) e h
    ∙ (let q : a + (k + i) ≡ a + k + i = omega arith in ap (circle_bit (circle_bits_of xs)) q))

-- what holds so far, and of so many places more
pub ten_more : (xs : List ℕ) (place far there step : ℕ) → 0 < length xs → there ≡ (place + far) % (8 * length xs) → ((j : ℕ) → j < far → ten_ones (circle_bits_of xs) (place + j) ≡ false)
    → ((j : ℕ) → j < step → ten_ones (circle_bits_of xs) (there + j) ≡ false) → (j : ℕ) → j < far + step → ten_ones (circle_bits_of xs) (place + j) ≡ false
ten_more xs place far there step h e none more j l = elim (cases_lt j far) [
  | inl old ↦ none j old
  | inr new ↦ (let q : place + j ≡ place + far + (j - far) = omega arith in ap (ten_ones (circle_bits_of xs)) q)
      ∙ sym (ten_walked xs (place + far) there (j - far) e h)
      ∙ more (j - far) (omega arith)
]

pub ones_more : (xs : List ℕ) (place far there step : ℕ) → 0 < length xs → there ≡ (place + far) % (8 * length xs) → ((j : ℕ) → j < far → circle_bit (circle_bits_of xs) (place + j) ≡ true)
    → ((j : ℕ) → j < step → circle_bit (circle_bits_of xs) (there + j) ≡ true) → (j : ℕ) → j < far + step → circle_bit (circle_bits_of xs) (place + j) ≡ true
ones_more xs place far there step h e ones more j l = elim (cases_lt j far) [
  | inl old ↦ ones j old
  | inr new ↦ (let q : place + j ≡ place + far + (j - far) = omega arith in ap (circle_bit (circle_bits_of xs)) q)
      ∙ sym (bit_walked xs (place + far) there (j - far) e h)
      ∙ more (j - far) (omega arith)
]

-- ten places before one, two rounds on
pub ten_back : (place n : ℕ) → place < n → 8 ≤ n → 10 ≤ place → place - 10 ≡ (place + (2 * n - 10)) % n
ten_back place n l h b = sym (
    (let e : place + (2 * n - 10) ≡ (place - 10 + n) + n = omega arith in ap (λ (a : ℕ). a % n) e)
    ∙ add-mod_right (place - 10 + n) n ∙ add-mod_right (place - 10) n ∙ mod-eq_of_lt (omega arith))

-- a block that begins where the ones end that begin first, ten places before a place
pub record IsMark (xs : List ℕ) (from far there run : ℕ) : Type 0 where
  pub some : 0 < length xs
  pub place : there ≡ (from + (2 * (8 * length xs) - 10) + far) % (8 * length xs)
  pub none : (j : ℕ) → j < far → ten_ones (circle_bits_of xs) (from + (2 * (8 * length xs) - 10) + j) ≡ false
  pub ten : ten_ones (circle_bits_of xs) there ≡ true
  pub ones : (j : ℕ) → j < run → circle_bit (circle_bits_of xs) (there + j) ≡ true

-- two rounds on
two_rounds : (xs : List ℕ) (p : ℕ) → circle_bit (circle_bits_of xs) (p + 2 * (8 * length xs)) ≡ circle_bit (circle_bits_of xs) p
two_rounds xs p =
    ap (circle_bit (circle_bits_of xs)) (omega (arith, length-bits_of xs))
    ∙ bit_round (circle_bits_of xs) (p + length (circle_bits_of xs))
    ∙ bit_round (circle_bits_of xs) p

mark_bit : (xs : List ℕ) (from far there run m : ℕ) → IsMark xs from far there run → 10 ≤ far + m → circle_bit (circle_bits_of xs) (from + (far + m - 10)) ≡ circle_bit (circle_bits_of xs) (there + m)
mark_bit xs from far there run m i h =
    sym (two_rounds xs (from + (far + m - 10)))
    ∙ (let q : from + (far + m - 10) + 2 * (8 * length xs) ≡ from + (2 * (8 * length xs) - 10) + far + m = omega (arith, i.some) in ap (circle_bit (circle_bits_of xs)) q)
    ∙ sym (bit_walked xs (from + (2 * (8 * length xs) - 10) + far) there m i.place i.some)

-- no block before it
pub mark_before : (xs : List ℕ) (from far there run j : ℕ) → IsMark xs from far there run → j + 10 < far + run → begins (circle_bits_of xs) (from + j) ≡ false
mark_before xs from far there run j i l = elim (cases_lt j far) [
  | inl old ↦ begins_no_ten (circle_bits_of xs) (from + j)
      ((let q : from + j + (2 * length (circle_bits_of xs) - 10) ≡ from + (2 * (8 * length xs) - 10) + j = omega (arith, length-bits_of xs, i.some) in ap (ten_ones (circle_bits_of xs)) q) ∙ i.none j old)
  | inr new ↦ begins_not_one (circle_bits_of xs) (from + j)
      ((let q : from + j ≡ from + (far + (j + 10 - far) - 10) = omega arith in ap (circle_bit (circle_bits_of xs)) q)
      ∙ mark_bit xs from far there run (j + 10 - far) i (omega arith)
      ∙ i.ones (j + 10 - far) (omega arith))
]

-- the block
pub mark_here : (xs : List ℕ) (from far there run : ℕ) → IsMark xs from far there run → 10 ≤ run → circle_bit (circle_bits_of xs) (there + run) ≡ false → begins (circle_bits_of xs) (from + (far + run - 10)) ≡ true
mark_here xs from far there run i h z = begins_here (circle_bits_of xs) (from + (far + run - 10))
    (mark_bit xs from far there run run i (omega arith) ∙ z)
    (λ k l.
    (let q : from + (far + run - 10) + (2 * length (circle_bits_of xs) - 10) + k ≡ from + (2 * (8 * length xs) - 10) + far + (run - 10 + k) = omega (arith, length-bits_of xs, i.some) in ap (circle_bit (circle_bits_of xs)) q)
    ∙ sym (bit_walked xs (from + (2 * (8 * length xs) - 10) + far) there (run - 10 + k) i.place i.some)
    ∙ i.ones (run - 10 + k) (omega arith))

-- ten ones stand there, so ten are counted
pub mark_long : (xs : List ℕ) (from far there run : ℕ) → IsMark xs from far there run → circle_bit (circle_bits_of xs) (there + run) ≡ false → 10 ≤ run
mark_long xs from far there run i z = elim (cases_lt run 10) [
  | inl few ↦ absurd (false≢true (sym z ∙ ten_ones_at (circle_bits_of xs) there run i.ten few))
  | inr many ↦ many
]

-- less than once round
pub mark_below : (xs : List ℕ) (from far there run : ℕ) → IsMark xs from far there run → 10 ≤ run → circle_bit (circle_bits_of xs) (there + run) ≡ false → far + run - 10 < 8 * length xs
mark_below xs from far there run i h z = elim (cases_lt (far + run - 10) (8 * length xs)) [
  | inl below ↦ below
  | inr past ↦ absurd (false≢true (
      sym (mark_before xs from far there run (far + run - 10 - 8 * length xs) i (omega (arith, i.some)))
      ∙ sym (begins_there (circle_bits_of xs) (from + (far + run - 10 - 8 * length xs)) (from + (far + run - 10)) (omega (arith, length-bits_of xs, i.some))
      (let q : from + (far + run - 10) ≡ from + (far + run - 10 - 8 * length xs) + length (circle_bits_of xs) = omega (arith, length-bits_of xs) in
      ap (λ (a : ℕ). a % length (circle_bits_of xs)) q ∙ add-mod_right (from + (far + run - 10 - 8 * length xs)) (length (circle_bits_of xs))))
      ∙ mark_here xs from far there run i h z))
]

pub mark_next : (xs : List ℕ) (from far there run : ℕ) → IsMark xs from far there run → circle_bit (circle_bits_of xs) (there + run) ≡ false → next_block (circle_bits_of xs) from ≡ Some ((there + run) % (8 * length xs))
mark_next xs from far there run i z =
    let long = mark_long xs from far there run i z in
    next_some (circle_bits_of xs) from (far + run - 10) (omega (arith, length-bits_of xs, mark_below xs from far there run i long z)) (mark_here xs from far there run i long z) (λ j l. mark_before xs from far there run j i (omega arith))
    ∙ ap Some (
    ap (λ (n : ℕ). (from + (far + run - 10)) % n) (length-bits_of xs)
    ∙ sym (
    ap (λ (a : ℕ). (a + run) % (8 * length xs)) i.place
    ∙ mod_add (from + (2 * (8 * length xs) - 10) + far) run (8 * length xs) (omega (arith, i.some))
    ∙ (let q : from + (2 * (8 * length xs) - 10) + far + run ≡ (from + (far + run - 10) + 8 * length xs) + 8 * length xs = omega (arith, i.some) in ap (λ (a : ℕ). a % (8 * length xs)) q)
    ∙ add-mod_right (from + (far + run - 10) + 8 * length xs) (8 * length xs)
    ∙ add-mod_right (from + (far + run - 10)) (8 * length xs)))

-- what an answer of the search says
first_is : (f : ℕ → Bool) (n k : ℕ) → Some k ≡ first_below f n → IsFirst f n k
first_is f n k h = go (found f n)
  where
    go : Found f n → IsFirst f n k
    go (at j i e) = let q : Some k ≡ Some j = h ∙ e in let r : j ≡ k = cc in subst (IsFirst f n) r i
    go (nowhere none e) = let q : Some k ≡ None = h ∙ e in cc

first_never : (f : ℕ → Bool) (n : ℕ) → None ≡ first_below f n → (k : ℕ) → k < n → f k ≡ false
first_never f n h k l = go (found f n)
  where
    go : Found f n → f k ≡ false
    go (at j i e) = let q : None ≡ Some j = h ∙ e in cc
    go (nowhere none e) = none k l

pub clear_is : (t : List Bool) (p n : ℕ) (r : Bool) (o : Option ℕ) → o ≡ first_below (λ k. ten_ones t (p + k)) n → not r ≡ is_some o → r ≡ is_clear t p n
clear_is t p n r o f h = go (found (λ k. ten_ones t (p + k)) n)
  where
    go : Found (λ k. ten_ones t (p + k)) n → r ≡ is_clear t p n
    go (at k i e) = not-true r (h ∙ ap is_some (f ∙ e)) ∙ sym (not_clear t p n k i.below i.here)
    go (nowhere none e) = elim (cases_Bool r) [
      | inl one ↦ one ∙ sym (clear_from t p n none)
      | inr none_there ↦ absurd (false≢true (sym (h ∙ ap is_some (f ∙ e)) ∙ ap not none_there))
    ]

pub mark_is : (xs : List ℕ) (from start far there run : ℕ) → 0 < length xs → start ≡ (from + (2 * (8 * length xs) - 10)) % (8 * length xs)
    → Some far ≡ first_below (λ k. ten_ones (circle_bits_of xs) (start + k)) (8 * length xs) → there ≡ (start + far) % (8 * length xs) → ((j : ℕ) → j < run → circle_bit (circle_bits_of xs) (there + j) ≡ true) → IsMark xs from far there run
mark_is xs from start far there run h s f e ones =
    let i = first_is (λ k. ten_ones (circle_bits_of xs) (start + k)) (8 * length xs) far f in
    let place : there ≡ (from + (2 * (8 * length xs) - 10) + far) % (8 * length xs) =
    e ∙ ap (λ (a : ℕ). (a + far) % (8 * length xs)) s ∙ mod_add (from + (2 * (8 * length xs) - 10)) far (8 * length xs) (omega arith) in
    record {
      some = h;
      place = place;
      none = λ j l. sym (ten_walked xs (from + (2 * (8 * length xs) - 10)) start j s h) ∙ i.before j l;
      ten =
          (let q : there ≡ there + 0 = omega arith in ap (ten_ones (circle_bits_of xs)) q)
          ∙ ten_walked xs (start + far) there 0 e h
          ∙ (let q : start + far + 0 ≡ start + far = omega arith in ap (ten_ones (circle_bits_of xs)) q)
          ∙ i.here;
      ones = ones;
    }

-- no ten ones begin anywhere
pub mark_never : (xs : List ℕ) (from start : ℕ) → 0 < length xs → start ≡ (from + (2 * (8 * length xs) - 10)) % (8 * length xs)
    → None ≡ first_below (λ k. ten_ones (circle_bits_of xs) (start + k)) (8 * length xs) → next_block (circle_bits_of xs) from ≡ None
mark_never xs from start h s f = next_none (circle_bits_of xs) from (λ k l. begins_no_ten (circle_bits_of xs) (from + k)
    ((let q : from + k + (2 * length (circle_bits_of xs) - 10) ≡ from + (2 * (8 * length xs) - 10) + k = omega (arith, length-bits_of xs) in ap (ten_ones (circle_bits_of xs)) q)
    ∙ sym (ten_walked xs (from + (2 * (8 * length xs) - 10)) start k s h)
    ∙ first_never (λ k. ten_ones (circle_bits_of xs) (start + k)) (8 * length xs) f k (omega (arith, length-bits_of xs))))

-- all bits are ones
pub mark_full : (xs : List ℕ) (from there : ℕ) → there < 8 * length xs → ((j : ℕ) → j < 8 * length xs → circle_bit (circle_bits_of xs) (there + j) ≡ true) → next_block (circle_bits_of xs) from ≡ None
mark_full xs from there h ones = next_none (circle_bits_of xs) from (λ k l.
    let r : Around (length (circle_bits_of xs)) there (from + k) = around (length (circle_bits_of xs)) there (from + k) (omega (arith, length-bits_of xs)) in
    begins_not_one (circle_bits_of xs) (from + k) (
    (let q : from + k ≡ from + k + 0 = omega arith in ap (circle_bit (circle_bits_of xs)) q)
    ∙ sym (bit_there (circle_bits_of xs) (from + k) (there + r.far) (omega (arith, length-bits_of xs)) r.there 0)
    ∙ (let q : there + r.far + 0 ≡ there + r.far = omega arith in ap (circle_bit (circle_bits_of xs)) q)
    ∙ ones r.far (omega (arith, length-bits_of xs, r.below))))

-- the bit that stands at the place that a walk round has come to
pub bit_read : (xs : List ℕ) (a r : ℕ) → r ≡ a % (8 * length xs) → get_or (circle_bits_of xs) r false ≡ circle_bit (circle_bits_of xs) a
unfolding circle_bit
bit_read xs a r e = ap (λ (q : ℕ). get_or (circle_bits_of xs) q false) (e ∙ sym (ap (λ (n : ℕ). a % n) (length-bits_of xs)))
