use Rattle.std.proofs.Common.{◌≡◌, ℕ, ◌+◌, ◌*◌, ◌/◌, ◌%◌, ◌<◌, ◌≤◌, List, [], ◌∷◌, length, get_or, take, refl, sym, ap, ◌∙◌, arith, inl, inr, Bool, true, false, Option, Some, None}
use Rattle.std.proofs.lemmas.List.{same_lists, get_or_default, length-take-le, get_or-take}
use Rattle.std.proofs.lemmas.Bool.{cases_lt}
use Rattle.std.proofs.lemmas.List.{get_or_past}
use Rattle.cbm_gcr.specs.Code.{code}
use Rattle.cbm_track.specs.Circle.{circle_bit, stretch, ten_ones}
use Rattle.cbm_track.proofs.Places.{length-stretch, get_or-stretch, stretch_same}
use Rattle.cbm_track.proofs.Round.{ten_ones_at}
use Rattle.cbm_sector.specs.Decoding.{decoded, coded_at, IsBytes}
use Rattle.cbm_sector.proofs.Coding.{length-code, code_in, decoded_again, code_from_decoded, no_ten_ones}

-- what is read at a place goes by the bits there
pub coded_same : (t u : List Bool) (p q n : ℕ) → ((k : ℕ) → k < 10 * n → circle_bit t (p + k) ≡ circle_bit u (q + k)) → coded_at t p n ≡ coded_at u q n
unfolding coded_at
coded_same t u p q n h = ap (decoded n) (stretch_same t u p q (10 * n) h)

pub coded_is : (t : List Bool) (p n : ℕ) (v : List ℕ) → coded_at t p n ≡ Some v → (length v ≡ n) × IsBytes v × (stretch t p (10 * n) ≡ code v)
unfolding coded_at
coded_is t p n v h = code_from_decoded n (stretch t p (10 * n)) v (length-stretch t p (10 * n)) h

pub coded_here : (t : List Bool) (p n : ℕ) (v : List ℕ) → length v ≡ n → IsBytes v → stretch t p (10 * n) ≡ code v → coded_at t p n ≡ Some v
unfolding coded_at
coded_here t p n v l b e = ap (decoded n) e ∙ ap (λ (m : ℕ). decoded m (code v)) (sym l) ∙ decoded_again v b

-- where ten ones stand there is no code
pub not_coded : (t : List Bool) (p n j : ℕ) → j + 10 ≤ 10 * n → ten_ones t (p + j) ≡ true → coded_at t p n ≡ None
not_coded t p n j h ones = go (coded_at t p n) refl
  where
    no : (v : List ℕ) → coded_at t p n ≡ Some v → ⊥
    no v e = let c = coded_is t p n v e in
        no_ten_ones v c.1 j (omega (arith, c.0)) (λ k l.
        sym (ap (λ (bs : List Bool). get_or bs (j + k) false) c.2)
        ∙ get_or-stretch t p (10 * n) (j + k) false (omega arith)
        ∙ ap (circle_bit t) (omega arith)
        ∙ ten_ones_at t (p + j) k ones l)

    go : (o : Option (List ℕ)) → coded_at t p n ≡ o → o ≡ None
    go None e = refl
    go (Some v) e = absurd (no v e)

-- a front of bytes whose code stands there
pub coded_front : (t : List Bool) (p n : ℕ) (v : List ℕ) → n ≤ length v → IsBytes v → ((k : ℕ) → k < 10 * n → circle_bit t (p + k) ≡ get_or (code v) k false) → coded_at t p n ≡ Some (take n v)
coded_front t p n v h b same = coded_here t p n (take n v) (length-take-le n v h) front_bytes
    (same_lists _ _ (omega (arith, length-stretch t p (10 * n), length-code (take n v), length-take-le n v h)) (λ k d l. at k d (omega (arith, length-stretch t p (10 * n)))))
  where
    front_bytes : IsBytes (take n v)
    front_bytes i = elim (cases_lt i n) [
      | inl l ↦ rw (get_or-take n v i 0 l) (b i)
      | inr g ↦ rw (get_or_past (take n v) i 0 (omega (arith, length-take-le n v h))) (omega arith)
    ]

    in_front_of : (k : ℕ) → k < 10 * n → get_or (code (take n v)) k false ≡ get_or (code v) k false
    in_front_of k l =
        ap (λ (q : ℕ). get_or (code (take n v)) q false) (omega arith)
        ∙ code_in (take n v) (k / 10) (k % 10) (omega (arith, length-take-le n v h)) (omega arith)
        ∙ ap (λ (x : ℕ). get_or (code (x ∷ [])) (k % 10) false) (get_or-take n v (k / 10) 0 (omega arith))
        ∙ sym (ap (λ (q : ℕ). get_or (code v) q false) (omega arith) ∙ code_in v (k / 10) (k % 10) (omega arith) (omega arith))

    at : (k : ℕ) (d : Bool) → k < 10 * n → get_or (stretch t p (10 * n)) k d ≡ get_or (code (take n v)) k d
    at k d l =
        get_or-stretch t p (10 * n) k d l
        ∙ same k l
        ∙ sym (in_front_of k l)
        ∙ get_or_default (code (take n v)) k false d (omega (arith, length-code (take n v), length-take-le n v h))
