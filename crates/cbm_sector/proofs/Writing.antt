use Rattle.std.proofs.Common.{◌≡◌, ◌≢◌, ℕ, ◌+◌, ◌*◌, ◌-◌, ◌%◌, ◌<◌, ◌≤◌, List, [], ◌∷◌, length, get_or, sym, ap, ◌∙◌, arith, inl, inr, Bool, true, false}
use Rattle.std.specs.Prelude.{not}
use Rattle.std.proofs.Math.Nat.{mod-eq_of_lt, add-mod_right}
use Rattle.std.proofs.lemmas.Bool.{false≢true, cases_lt, cases_eq, cases_Bool, not-false}
use Rattle.cbm_gcr.specs.Code.{code}
use Rattle.cbm_track.specs.Circle.{circle_bit, ten_ones, begins, is_clear}
use Rattle.cbm_track.proofs.Places.{bit_round, ten_ones_same}
use Rattle.cbm_track.proofs.Round.{Around, around, bit_there, ten_ones_at, ten_ones_not, ten_ones_there, begins_zero, begins_ten, begins_no_ten, begins_same, begins_there, clear_at, clear_same}
use Rattle.cbm_sector.specs.Decoding.{coded_at, IsBytes}
use Rattle.cbm_sector.specs.Answer.{is_header, passes, is_crowded}
use Rattle.cbm_sector.proofs.Coding.{code_in, no_ten_ones}
use Rattle.cbm_sector.proofs.Stands.{coded_same, not_coded}

pub no_ten_from : (t : List Bool) (p : ℕ) → is_crowded t p ≡ false → (k : ℕ) → k < 2600 → ten_ones t (p + k) ≡ false
unfolding is_crowded
no_ten_from t p h k l = clear_at t p 2600 (not-false (is_clear t p 2600) h) k l

pub crowded_same : (t u : List Bool) (p : ℕ) → ((k : ℕ) → ten_ones t (p + k) ≡ ten_ones u (p + k)) → is_crowded t p ≡ is_crowded u p
unfolding is_crowded
crowded_same t u p h = ap not (clear_same t u p 2600 h)

-- a data block of bytes was written over the 2,600 bits from the place of a block
pub record IsWritten (old new : List Bool) (d : ℕ) (v : List ℕ) : Type 0 where
  pub same_length : length new ≡ length old
  pub size : length v ≡ 260
  pub bytes : IsBytes v
  pub seven : get_or v 0 0 ≡ 7
  pub last : get_or v 259 0 ≡ 0
  pub here : (k : ℕ) → k < 2600 → circle_bit new (d + k) ≡ get_or (code v) k false
  pub others : (k : ℕ) → 2600 ≤ k → k < length old → circle_bit new (d + k) ≡ circle_bit old (d + k)
  pub place : d < length old
  pub begins : begins old d ≡ true
  pub header : passes is_header (coded_at old d 4) ≡ false
  pub room : is_crowded old d ≡ false

-- where ten ones stand before a place and begin nowhere in the 2,600 bits from it on, the circle is longer than these
pub long_enough : (t : List Bool) (d : ℕ) → 0 < length t → begins t d ≡ true → is_crowded t d ≡ false → 2610 ≤ length t
long_enough t d z b r = elim (cases_lt (length t) 2610) [
  | inr u ↦ u
  | inl u ↦ elim (cases_lt (length t) 1305) [
    | inl l ↦ absurd (false≢true (sym (no_ten_from t d r (2 * length t - 10) (omega arith)) ∙ begins_ten t d b))
    | inr g ↦ absurd (false≢true (sym (no_ten_from t d r (length t - 10) (omega arith))
        ∙ ten_ones_there t (d + (2 * length t - 10)) (d + (length t - 10)) (omega arith)
        (sym (ap (λ (a : ℕ). a % length t) (omega arith) ∙ add-mod_right (d + (length t - 10)) (length t)))
        ∙ begins_ten t d b))
  ]
]

pub enough : (old new : List Bool) (d : ℕ) (v : List ℕ) → IsWritten old new d v → 2610 ≤ length old
enough old new d v w = long_enough old d (omega (arith, w.place)) w.begins w.room

first_old : (old new : List Bool) (d : ℕ) (v : List ℕ) → IsWritten old new d v → circle_bit old (d + 0) ≡ false
first_old old new d v w = ap (circle_bit old) (omega arith) ∙ begins_zero old d w.begins

first_new : (old new : List Bool) (d : ℕ) (v : List ℕ) → IsWritten old new d v → circle_bit new (d + 0) ≡ false
first_new old new d v w =
    w.here 0 (omega arith)
    ∙ code_in v 0 0 (omega (arith, w.size)) (omega arith)
    ∙ ap (λ (x : ℕ). get_or (code (x ∷ [])) 0 false) w.seven

-- the ten ones before the block
own_ten : (old new : List Bool) (d : ℕ) (v : List ℕ) → IsWritten old new d v → ten_ones old (d + (length old - 10)) ≡ true
own_ten old new d v w =
    let n = enough old new d v w in
    ten_ones_there old (d + (2 * length old - 10)) (d + (length old - 10)) (omega arith)
    (sym (ap (λ (a : ℕ). a % length old) (omega arith) ∙ add-mod_right (d + (length old - 10)) (length old)))
    ∙ begins_ten old d w.begins

last_new : (old new : List Bool) (d : ℕ) (v : List ℕ) → IsWritten old new d v → circle_bit new (d + 2599) ≡ false
last_new old new d v w =
    w.here 2599 (omega arith)
    ∙ code_in v 259 9 (omega (arith, w.size)) (omega arith)
    ∙ ap (λ (x : ℕ). get_or (code (x ∷ [])) 9 false) w.last

-- no ten ones begin in what was written
ten_inside : (old new : List Bool) (d : ℕ) (v : List ℕ) → IsWritten old new d v → (j : ℕ) → j < 2600 → ten_ones new (d + j) ≡ false
ten_inside old new d v w j h = elim (cases_lt 2590 j) [
  | inl l ↦ ten_ones_not new (d + j) (2599 - j) (omega arith) (ap (circle_bit new) (omega arith) ∙ last_new old new d v w)
  | inr l ↦ elim (cases_Bool (ten_ones new (d + j))) [
    | inr e ↦ e
    | inl e ↦ absurd (no_ten_ones v w.bytes j (omega (arith, w.size)) (λ k b.
        sym (w.here (j + k) (omega arith)) ∙ ap (circle_bit new) (omega arith) ∙ ten_ones_at new (d + j) k e b))
  ]
]

-- ten ones that would go over the block's first bit
ten_over : (t : List Bool) (d j : ℕ) → circle_bit t (d + 0) ≡ false → j < length t → length t < j + 10 → ten_ones t (d + j) ≡ false
ten_over t d j h l b = ten_ones_not t (d + j) (length t - j) (omega arith) (ap (circle_bit t) (omega arith) ∙ bit_round t (d + 0) ∙ h)

-- ten ones begin where they did
ten_kept : (old new : List Bool) (d : ℕ) (v : List ℕ) → IsWritten old new d v → (j : ℕ) → j < length old → ten_ones new (d + j) ≡ ten_ones old (d + j)
ten_kept old new d v w j h = elim (cases_lt j 2600) [
  | inl l ↦ ten_inside old new d v w j l ∙ sym (no_ten_from old d w.room j l)
  | inr l ↦ elim (cases_lt (length old) (j + 10)) [
    | inl b ↦ ten_over new d j (first_new old new d v w) (omega (arith, w.same_length)) (omega (arith, w.same_length)) ∙ sym (ten_over old d j (first_old old new d v w) h b)
    | inr b ↦ ten_ones_same new old (d + j) (d + j) (λ k c. ap (circle_bit new) (omega arith) ∙ w.others (j + k) (omega arith) (omega arith) ∙ ap (circle_bit old) (omega arith))
  ]
]

pub ten_everywhere : (old new : List Bool) (d : ℕ) (v : List ℕ) → IsWritten old new d v → (p : ℕ) → ten_ones new p ≡ ten_ones old p
ten_everywhere old new d v w p =
    let a : Around (length old) d p = around (length old) d p w.place in
    let n = enough old new d v w in
    let e : (d + a.far) % length new ≡ p % length new = ap (λ (n : ℕ). (d + a.far) % n) w.same_length ∙ a.there ∙ sym (ap (λ (n : ℕ). p % n) w.same_length) in
    sym (ten_ones_there new p (d + a.far) (omega (arith, w.same_length)) e)
    ∙ ten_kept old new d v w a.far a.below
    ∙ ten_ones_there old p (d + a.far) (omega arith) a.there

-- no block begins inside what is written, before and after
none_inside : (old new : List Bool) (d : ℕ) (v : List ℕ) → IsWritten old new d v → (j : ℕ) → 0 < j → j < 2600 → ten_ones old (d + j + (2 * length old - 10)) ≡ false
none_inside old new d v w j z h =
    let n = enough old new d v w in
    elim (cases_lt j 10) [
      | inl l ↦ ten_ones_there old (d + (j + length old - 10)) (d + j + (2 * length old - 10)) (omega arith)
          (ap (λ (a : ℕ). a % length old) (omega arith) ∙ add-mod_right (d + (j + length old - 10)) (length old))
          ∙ ten_over old d (j + length old - 10) (first_old old new d v w) (omega arith) (omega arith)
      | inr l ↦ ten_ones_there old (d + (j - 10)) (d + j + (2 * length old - 10)) (omega arith)
          (ap (λ (a : ℕ). a % length old) (omega arith) ∙ add-mod_right (d + (j - 10) + length old) (length old) ∙ add-mod_right (d + (j - 10)) (length old))
          ∙ no_ten_from old d w.room (j - 10) (omega arith)
    ]

-- blocks begin where they did
begins_kept : (old new : List Bool) (d : ℕ) (v : List ℕ) → IsWritten old new d v → (j : ℕ) → j < length old → begins new (d + j) ≡ begins old (d + j)
begins_kept old new d v w j h = elim (cases_lt j 2600) [
  | inl l ↦ elim (cases_eq j 0) [
    | inl e ↦ begins_same new old (d + j) w.same_length
        (ap (λ (k : ℕ). circle_bit new (d + k)) e ∙ first_new old new d v w ∙ sym (ap (λ (k : ℕ). circle_bit old (d + k)) e ∙ first_old old new d v w))
        (ten_everywhere old new d v w (d + j + (2 * length new - 10)))
    | inr ne ↦ begins_no_ten new (d + j) (ten_everywhere old new d v w (d + j + (2 * length new - 10)) ∙ ap (λ (n : ℕ). ten_ones old (d + j + (2 * n - 10))) w.same_length ∙ none_inside old new d v w j (omega arith) l)
        ∙ sym (begins_no_ten old (d + j) (none_inside old new d v w j (omega arith) l))
  ]
  | inr l ↦ begins_same new old (d + j) w.same_length (w.others j l h) (ten_everywhere old new d v w (d + j + (2 * length new - 10)))
]

pub begins_everywhere : (old new : List Bool) (d : ℕ) (v : List ℕ) → IsWritten old new d v → (p : ℕ) → begins new p ≡ begins old p
begins_everywhere old new d v w p =
    let a : Around (length old) d p = around (length old) d p w.place in
    let n = enough old new d v w in
    let e : (d + a.far) % length new ≡ p % length new = ap (λ (n : ℕ). (d + a.far) % n) w.same_length ∙ a.there ∙ sym (ap (λ (n : ℕ). p % n) w.same_length) in
    sym (begins_there new p (d + a.far) (omega (arith, w.same_length)) e)
    ∙ begins_kept old new d v w a.far a.below
    ∙ begins_there old p (d + a.far) (omega arith) a.there

-- what stands at any other block reads as it did
other_kept : (old new : List Bool) (d : ℕ) (v : List ℕ) → IsWritten old new d v → (j m : ℕ) → 0 < j → j < length old → begins old (d + j) ≡ true → coded_at new (d + j) m ≡ coded_at old (d + j) m
other_kept old new d v w j m z h b =
    let n = enough old new d v w in
    elim (cases_lt j 2600) [
      | inl l ↦ absurd (false≢true (sym (none_inside old new d v w j z l) ∙ begins_ten old (d + j) b))
      | inr l ↦ elim (cases_lt (length old) (j + 10 * m)) [
        | inr u ↦ coded_same new old (d + j) (d + j) m (λ k c. ap (circle_bit new) (omega arith) ∙ w.others (j + k) (omega arith) (omega arith) ∙ ap (circle_bit old) (omega arith))
        | inl u ↦ elim (cases_lt (length old - 10) j) [
          | inl past ↦ absurd (false≢true (sym (begins_zero old (d + j) b) ∙ ap (circle_bit old) (omega arith) ∙ ten_ones_at old (d + (length old - 10)) (j + 10 - length old) (own_ten old new d v w) (omega arith)))
          | inr front ↦
              not_coded new (d + j) m (length old - 10 - j) (omega arith) (ap (ten_ones new) (omega arith) ∙ ten_everywhere old new d v w (d + (length old - 10)) ∙ own_ten old new d v w)
              ∙ sym (not_coded old (d + j) m (length old - 10 - j) (omega arith) (ap (ten_ones old) (omega arith) ∙ own_ten old new d v w))
        ]
      ]
    ]

same_place : (n d p far : ℕ) → p < n → d < n → far ≡ 0 → (d + far) % n ≡ p % n → p ≡ d
same_place n d p far h l z e = sym (sym (mod-eq_of_lt l) ∙ ap (λ (a : ℕ). a % n) (omega arith) ∙ e ∙ mod-eq_of_lt h)

pub elsewhere_kept : (old new : List Bool) (d : ℕ) (v : List ℕ) → IsWritten old new d v → (p m : ℕ) → p < length old → p ≢ d → begins old p ≡ true → coded_at new p m ≡ coded_at old p m
elsewhere_kept old new d v w p m h ne b =
    let a : Around (length old) d p = around (length old) d p w.place in
    let n = enough old new d v w in
    let e : (d + a.far) % length new ≡ p % length new = ap (λ (n : ℕ). (d + a.far) % n) w.same_length ∙ a.there ∙ sym (ap (λ (n : ℕ). p % n) w.same_length) in
    coded_same new new p (d + a.far) m (λ k l. sym (bit_there new p (d + a.far) (omega (arith, w.same_length)) e k))
    ∙ other_kept old new d v w a.far m (elim (cases_eq a.far 0) [ inl z ↦ absurd (ne (same_place (length old) d p a.far h w.place z a.there)) | inr nz ↦ omega arith ]) a.below (begins_there old p (d + a.far) (omega arith) a.there ∙ b)
    ∙ coded_same old old (d + a.far) p m (λ k l. bit_there old p (d + a.far) (omega arith) a.there k)
