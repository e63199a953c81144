-- The places that bytes name: the same bytes name the same, and one place more is named after them.
use Rattle.std.proofs.Common.{◌≡◌, ◌≢◌, ℕ, zero, suc, ◌+◌, ◌-◌, ◌*◌, ◌/◌, ◌%◌, ◌<◌, List, [], ◌∷◌, ◌++◌, length, drop, get_or, Bool, refl, sym, ap, ◌∙◌, arith, inl, inr}
use Rattle.std.specs.Prelude.{if◌then◌else◌, ◌==◌}
use Rattle.std.proofs.lemmas.Bool.{cases_eq, cases_lt, eq-eqb, ne_eqb}
use Rattle.std.proofs.lemmas.List.{get_or-drop, length-drop, take_all}
use Rattle.cbm_medium.specs.Place.{Place}
use Rattle.cbm_medium.specs.Content.{Content}
use Rattle.cbm_medium.specs.Links.{place_in}
use Rattle.cbm_relfile.specs.SideSectors.{named_in}
use Rattle.cbm_volume.specs.Growing.{listed_by, IsListed}

pub named_same : (n : ℕ) (xs ys : List ℕ) → ((i : ℕ) → i < 2 * n → get_or xs i 0 ≡ get_or ys i 0) → named_in n xs ≡ named_in n ys
named_same zero xs ys h = refl
named_same (suc n) xs ys h =
    let a : get_or xs 0 0 ≡ get_or ys 0 0 = h 0 (omega arith) in
    let b : get_or xs 1 0 ≡ get_or ys 1 0 = h 1 (omega arith) in
    let rest = named_same n (drop 2 xs) (drop 2 ys) (λ i l. get_or-drop 2 xs i 0 ∙ h (2 + i) (omega (arith, l)) ∙ sym (get_or-drop 2 ys i 0)) in
    λ i. if a i == 0 then [] else (record { track = a i; sector = b i }) ∷ rest i

named_none : (n : ℕ) (xs : List ℕ) → get_or xs 0 0 ≡ 0 → named_in (suc n) xs ≡ []
named_none n xs e = ap (λ (b : Bool). if b then [] else place_in xs 0 ∷ named_in n (drop 2 xs)) (eq-eqb (get_or xs 0 0) 0 e)

named_some : (n : ℕ) (xs : List ℕ) → get_or xs 0 0 ≢ 0 → named_in (suc n) xs ≡ place_in xs 0 ∷ named_in n (drop 2 xs)
named_some n xs ne = ap (λ (b : Bool). if b then [] else place_in xs 0 ∷ named_in n (drop 2 xs)) (ne_eqb (get_or xs 0 0) 0 ne)

-- nothing is named where the next track is 0, or there is no place more
named_ends : (n : ℕ) (xs : List ℕ) → (0 < n → get_or xs 0 0 ≡ 0) → named_in n xs ≡ []
named_ends zero xs h = refl
named_ends (suc n) xs h = named_none n xs (h (omega arith))

-- ONE PLACE MORE after those that are named
pub named_push : (n k : ℕ) (xs ys : List ℕ) (q : Place) → length (named_in n xs) ≡ k → k < n → q.track ≢ 0 → ((i : ℕ) → i < 2 * k → get_or ys i 0 ≡ get_or xs i 0) → get_or ys (2 * k) 0 ≡ q.track → get_or ys (2 * k + 1) 0 ≡ q.sector
    → (k + 1 < n → get_or ys (2 * k + 2) 0 ≡ 0) → named_in n ys ≡ named_in n xs ++ q ∷ []
named_push zero k xs ys q size room some front track sector last = absurd (omega (arith, room))
named_push (suc n) k xs ys q size room some front track sector last = elim (cases_eq (get_or xs 0 0) 0) [
  | inl z ↦
      (let none : named_in (suc n) xs ≡ [] = named_none n xs z in
      let k_is : k ≡ 0 = omega (arith, size, ap (λ (ps : List Place). length ps) none) in
      let t : get_or ys 0 0 ≡ q.track = (let e : 2 * k ≡ 0 = omega (arith, k_is) in ap (λ (i : ℕ). get_or ys i 0) (sym e)) ∙ track in
      let s : get_or ys 1 0 ≡ q.sector = (let e : 2 * k + 1 ≡ 1 = omega (arith, k_is) in ap (λ (i : ℕ). get_or ys i 0) (sym e)) ∙ sector in
      let rest : named_in n (drop 2 ys) ≡ [] = named_ends n (drop 2 ys) (λ h. get_or-drop 2 ys 0 0 ∙ (let e : 2 * k + 2 ≡ 2 + 0 = omega (arith, k_is) in ap (λ (i : ℕ). get_or ys i 0) (sym e)) ∙ last (omega (arith, h, k_is))) in
      named_some n ys (λ e. some (sym t ∙ e))
      ∙ (λ i. (record { track = t i; sector = s i }) ∷ rest i)
      ∙ ap (λ (ps : List Place). ps ++ q ∷ []) (sym none))
  | inr ne ↦
      (let one : named_in (suc n) xs ≡ place_in xs 0 ∷ named_in n (drop 2 xs) = named_some n xs ne in
      let m : ℕ = k - 1 in
      let count : length (named_in n (drop 2 xs)) ≡ m = omega (arith, size, ap (λ (ps : List Place). length ps) one) in
      let k_is : k ≡ suc m = omega (arith, size, ap (λ (ps : List Place). length ps) one) in
      let t : get_or ys 0 0 ≡ get_or xs 0 0 = front 0 (omega (arith, k_is)) in
      let s : get_or ys 1 0 ≡ get_or xs 1 0 = front 1 (omega (arith, k_is)) in
      let rest : named_in n (drop 2 ys) ≡ named_in n (drop 2 xs) ++ q ∷ [] = named_push n m (drop 2 xs) (drop 2 ys) q count (omega (arith, room, k_is)) some
      (λ i l. get_or-drop 2 ys i 0 ∙ front (2 + i) (omega (arith, l, k_is)) ∙ sym (get_or-drop 2 xs i 0))
      (get_or-drop 2 ys (2 * m) 0 ∙ (let e : 2 + 2 * m ≡ 2 * k = omega (arith, k_is) in ap (λ (i : ℕ). get_or ys i 0) e) ∙ track)
      (get_or-drop 2 ys (2 * m + 1) 0 ∙ (let e : 2 + (2 * m + 1) ≡ 2 * k + 1 = omega (arith, k_is) in ap (λ (i : ℕ). get_or ys i 0) e) ∙ sector)
      (λ h. get_or-drop 2 ys (2 * m + 2) 0 ∙ (let e : 2 + (2 * m + 2) ≡ 2 * k + 2 = omega (arith, k_is) in ap (λ (i : ℕ). get_or ys i 0) e) ∙ last (omega (arith, h, k_is))) in
      named_some n ys (λ e. ne (sym t ∙ e))
      ∙ (λ i. (record { track = t i; sector = s i }) ∷ rest i)
      ∙ ap (λ (ps : List Place). ps ++ q ∷ []) (sym one))
]

-- how many blocks the last side sector that lists some has
pub listed_nth : (c : Content) (ss xs : List Place) (d : Place) → IsListed c ss xs → length xs < 120 * length ss → length (listed_by c (get_or ss (length xs / 120) d)) ≡ length xs % 120
listed_nth c [] xs d h l = absurd (omega (arith, l))
listed_nth c (s ∷ ss) xs d h l = elim (cases_lt (length xs) 120) [
  | inl short ↦
      (let zero_th : length xs / 120 ≡ 0 = omega (arith, short) in
      ap (λ (i : ℕ). length (listed_by c (get_or (s ∷ ss) i d))) zero_th ∙ ap (λ (ps : List Place). length ps) (h.0 ∙ take_all 120 xs (omega (arith, short))) ∙ omega (arith, short))
  | inr long ↦
      (let left : length (drop 120 xs) ≡ length xs - 120 = length-drop 120 xs in
      let step : length xs / 120 ≡ suc (length (drop 120 xs) / 120) = omega (arith, long, left) in
      ap (λ (i : ℕ). length (listed_by c (get_or (s ∷ ss) i d))) step ∙ listed_nth c ss (drop 120 xs) d h.1 (omega (arith, l, left, long)) ∙ omega (arith, left, long))
]
