-- How the number of free sectors changes with one bit, and with the bits of a list.
use Rattle.std.proofs.Common.{◌≡◌, ◌≢◌, ◌⊎◌, ℕ, zero, suc, ◌+◌, ◌-◌, add_comm, ◌<◌, ◌≤◌, List, [], ◌∷◌, length, Bool, true, false, refl, sym, ap, subst, ◌∙◌, arith, inl, inr}
use Rattle.std.proofs.lemmas.Bool.{cases_eq, eq-eqb, ne_eqb}
use Rattle.cbm_medium.specs.Place.{Place, sectors_on, Has}
use Rattle.cbm_bam.specs.Map.{is_free_in, count_in, free_in, one_if, at, tally, unless_18, summed, IsCounted, with_bit, with_freed, number, IsMapped, IsClaimed}
use Rattle.cbm_medium.proofs.Places.{place_is_itself, places_apart, place_decide}

pub tally_same : (f g : Place → Bool) (t n : ℕ) → ((s : ℕ) → s < n → f (at t s) ≡ g (at t s)) → tally f t n ≡ tally g t n
tally_same f g t zero h = refl
tally_same f g t (suc n) h = ap (λ (b : Bool). one_if b + tally f t n) (h n (omega arith)) ∙ ap (λ (x : ℕ). one_if (g (at t n)) + x) (tally_same f g t n (λ s k. h s (omega arith)))

pub bit_there : (f : Place → Bool) (p : Place) (b : Bool) → with_bit f p b p ≡ b
bit_there f p b = rw place_is_itself

pub bit_elsewhere : (f : Place → Bool) (p q : Place) (b : Bool) → p ≢ q → with_bit f p b q ≡ f q
bit_elsewhere f p q b ne = let e = places_apart p q ne in rw e

-- one bit less on a track
pub tally_less : (f : Place → Bool) (p : Place) (n : ℕ) → p.sector < n → f p ≡ true → tally f p.track n ≡ suc (tally (with_bit f p false) p.track n)
tally_less f p zero l h = absurd (omega arith)
tally_less f p (suc n) l h = elim (cases_eq p.sector n) [
  | inl e ↦ (let same : p ≡ at p.track n = λ i. record { track = p.track; sector = e i } in
      let one : f (at p.track n) ≡ true = ap f (sym same) ∙ h in
      let none : with_bit f p false (at p.track n) ≡ false = ap (with_bit f p false) (sym same) ∙ bit_there f p false in
      let rest : tally f p.track n ≡ tally (with_bit f p false) p.track n = tally_same f (with_bit f p false) p.track n (λ s k. sym (bit_elsewhere f p (at p.track s) false (λ z. omega (arith, ap (λ (q : Place). q.sector) z)))) in
      ap (λ (b : Bool). one_if b + tally f p.track n) one ∙ omega arith ∙ ap (λ (b : Bool). suc (one_if b + tally (with_bit f p false) p.track n)) (sym none))
  | inr ne ↦ (let same : with_bit f p false (at p.track n) ≡ f (at p.track n) = bit_elsewhere f p (at p.track n) false (λ z. ne (ap (λ (q : Place). q.sector) z)) in
      let rest : tally f p.track n ≡ suc (tally (with_bit f p false) p.track n) = tally_less f p n (omega arith) h in
      ap (λ (x : ℕ). one_if (f (at p.track n)) + x) rest ∙ omega arith ∙ ap (λ (b : Bool). suc (one_if b + tally (with_bit f p false) p.track n)) (sym same))
]

pub tally_other : (f : Place → Bool) (p : Place) (b : Bool) (t n : ℕ) → t ≢ p.track → tally (with_bit f p b) t n ≡ tally f t n
tally_other f p b t n ne = tally_same (with_bit f p b) f t n (λ s k. bit_elsewhere f p (at t s) b (λ z. ne (sym (ap (λ (q : Place). q.track) z))))

bit_twice : (f : Place → Bool) (p q : Place) → f p ≡ false → with_bit (with_bit f p true) p false q ≡ f q
bit_twice f p q h = elim (place_decide p q) [
  | inl e ↦ subst (λ (x : Place). with_bit (with_bit f p true) p false x ≡ f x) e (bit_there (with_bit f p true) p false ∙ sym h)
  | inr ne ↦ bit_elsewhere (with_bit f p true) p q false ne ∙ bit_elsewhere f p q true ne
]

-- one bit more on a track
pub tally_more : (f : Place → Bool) (p : Place) (n : ℕ) → p.sector < n → f p ≡ false → tally (with_bit f p true) p.track n ≡ suc (tally f p.track n)
tally_more f p n l h = tally_less (with_bit f p true) p n l (bit_there f p true)
    ∙ ap suc (tally_same (with_bit (with_bit f p true) p false) f p.track n (λ s k. bit_twice f p (at p.track s) h))

pub tally_most : (f : Place → Bool) (t n : ℕ) → tally f t n ≤ n
tally_most f t zero = omega arith
tally_most f t (suc n) = elim (cases (f (at t n))) [ inl e ↦ omega (arith, tally_most f t n, ap one_if e) | inr e ↦ omega (arith, tally_most f t n, ap one_if e) ]
  where
    cases : (b : Bool) → (b ≡ true) ⊎ (b ≡ false)
    cases true = inl refl
    cases false = inr refl

pub summed_same : (f g : ℕ → ℕ) (n : ℕ) → ((t : ℕ) → 0 < t → t ≤ n → f t ≡ g t) → summed f n ≡ summed g n
summed_same f g zero h = refl
summed_same f g (suc n) h = ap (λ (x : ℕ). unless_18 (suc n) x + summed f n) (h (suc n) (omega arith) (omega arith)) ∙ ap (λ (x : ℕ). unless_18 (suc n) (g (suc n)) + x) (summed_same f g n (λ t k l. h t k (omega arith)))

summed_less : (f g : ℕ → ℕ) (u n : ℕ) → 0 < u → u ≤ n → u ≢ 18 → f u ≡ suc (g u) → ((t : ℕ) → t ≢ u → f t ≡ g t) → summed f n ≡ suc (summed g n)
summed_less f g u zero a b x e h = absurd (omega arith)
summed_less f g u (suc n) a b x e h = elim (cases_eq u (suc n)) [
  | inl k ↦ (let here : unless_18 (suc n) (f (suc n)) ≡ f (suc n) = rw (ne_eqb (suc n) 18 (λ z. x (k ∙ z))) refl in
      let there : unless_18 (suc n) (g (suc n)) ≡ g (suc n) = rw (ne_eqb (suc n) 18 (λ z. x (k ∙ z))) refl in
      let one : f (suc n) ≡ suc (g (suc n)) = subst (λ (v : ℕ). f v ≡ suc (g v)) k e in
      let rest : summed f n ≡ summed g n = summed_same f g n (λ t p q. h t (λ z. omega (arith, z, k))) in
      omega arith)
  | inr ne ↦ (let rest : summed f n ≡ suc (summed g n) = summed_less f g u n a (omega arith) x e h in
      let same : f (suc n) ≡ g (suc n) = h (suc n) (λ z. ne (sym z)) in
      ap (λ (v : ℕ). unless_18 (suc n) v + summed f n) same ∙ omega arith)
]

-- ONE SECTOR LESS
pub number_less : (tracks : ℕ) (f : Place → Bool) (p : Place) → Has tracks p → p.track ≢ 18 → f p ≡ true → number tracks f ≡ suc (number tracks (with_bit f p false))
number_less tracks f p has off h =
    summed_less (λ t. tally f t (sectors_on t)) (λ t. tally (with_bit f p false) t (sectors_on t)) p.track tracks has.0 has.1 off
    (tally_less f p (sectors_on p.track) has.2 h) (λ t ne. sym (tally_other f p false t (sectors_on t) ne))

pub number_same : (tracks : ℕ) (f g : Place → Bool) → ((p : Place) → Has tracks p → f p ≡ g p) → number tracks f ≡ number tracks g
number_same tracks f g h = summed_same (λ t. tally f t (sectors_on t)) (λ t. tally g t (sectors_on t)) tracks (λ t k l. tally_same f g t (sectors_on t) (λ s m. h (at t s) (k, l, m)))

-- ONE SECTOR MORE
pub number_more : (tracks : ℕ) (f : Place → Bool) (p : Place) → Has tracks p → p.track ≢ 18 → f p ≡ false → number tracks (with_bit f p true) ≡ suc (number tracks f)
number_more tracks f p has off h =
    number_less tracks (with_bit f p true) p has off (bit_there f p true)
    ∙ ap suc (number_same tracks (with_bit (with_bit f p true) p false) f (λ q k. bit_twice f p q h))

-- each was taken, also once those after it are set free: so they were taken, and are distinct
abbrev pub AreTaken : ℕ → (Place → Bool) → List Place → Type 0
AreTaken tracks f [] = Unit {0}
AreTaken tracks f (p ∷ rest) = Has tracks p × (p.track ≢ 18) × (with_freed f rest p ≡ false) × AreTaken tracks f rest

-- AS MANY MORE AS THE LIST HAS
pub number_freed : (tracks : ℕ) (f : Place → Bool) (xs : List Place) → AreTaken tracks f xs → number tracks (with_freed f xs) ≡ number tracks f + length xs
number_freed tracks f [] h = omega arith
number_freed tracks f (p ∷ rest) h = number_more tracks (with_freed f rest) p h.0 h.1 h.2 ∙ ap suc (number_freed tracks f rest h.3) ∙ omega arith

summed_most : (f g : ℕ → ℕ) (n : ℕ) → ((t : ℕ) → f t ≤ g t) → summed f n ≤ summed g n
summed_most f g zero h = omega arith
summed_most f g (suc n) h = elim (cases_eq (suc n) 18) [
  | inl e ↦ (let a : unless_18 (suc n) (f (suc n)) ≡ 0 = rw (eq-eqb (suc n) 18 e) refl in omega (arith, summed_most f g n h))
  | inr ne ↦ (let a : unless_18 (suc n) (f (suc n)) ≡ f (suc n) = rw (ne_eqb (suc n) 18 ne) refl in
      let b : unless_18 (suc n) (g (suc n)) ≡ g (suc n) = rw (ne_eqb (suc n) 18 ne) refl in omega (arith, summed_most f g n h, h (suc n)))
]

-- no more are free than there are
pub number_most : (tracks : ℕ) (f : Place → Bool) → number tracks f ≤ summed sectors_on tracks
number_most tracks f = summed_most (λ t. tally f t (sectors_on t)) sectors_on tracks (λ t. tally_most f t (sectors_on t))

pub blocks_on_35 : summed sectors_on 35 ≡ 664
blocks_on_35 = refl

pub blocks_on_40 : summed sectors_on 40 ≡ 749
blocks_on_40 = refl

-- what the map counts is the number of its bits
pub free_is_number : (tracks : ℕ) (map : List ℕ) → IsCounted tracks map → free_in tracks map ≡ number tracks (is_free_in map)
unfolding free_in
free_is_number tracks map h = summed_same (count_in map) (λ t. tally (is_free_in map) t (sectors_on t)) tracks h

-- (b) A CLAIM TAKES ONE
pub free_claimed : (tracks : ℕ) (old new : List ℕ) (p : Place) → IsCounted tracks old → IsClaimed tracks old new p → p.track ≢ 18 → free_in tracks old ≡ suc (free_in tracks new)
free_claimed tracks old new p c h off =
    free_is_number tracks old c ∙ number_less tracks (is_free_in old) p h.has off h.was_free
    ∙ ap suc (sym (free_is_number tracks new (h.mapped.counted c) ∙ number_same tracks (is_free_in new) (with_bit (is_free_in old) p false) h.mapped.bits))

-- (d) A RELEASE GIVES BACK AS MANY AS IT NAMES
pub free_released : (tracks : ℕ) (old new : List ℕ) (xs : List Place) → IsCounted tracks old → IsMapped tracks old new (with_freed (is_free_in old) xs) → AreTaken tracks (is_free_in old) xs → free_in tracks new ≡ free_in tracks old + length xs
free_released tracks old new xs c h t =
    free_is_number tracks new (h.counted c) ∙ number_same tracks (is_free_in new) (with_freed (is_free_in old) xs) h.bits
    ∙ number_freed tracks (is_free_in old) xs t ∙ ap (λ (x : ℕ). x + length xs) (sym (free_is_number tracks old c))

pub tally_none : (f : Place → Bool) (t n : ℕ) → ((s : ℕ) → s < n → f (at t s) ≡ false) → tally f t n ≡ 0
tally_none f t zero h = refl
tally_none f t (suc n) h = omega (arith, ap one_if (h n (omega arith)), tally_none f t n (λ s k. h s (omega arith)))

summed_none : (f : ℕ → ℕ) (n : ℕ) → ((t : ℕ) → 0 < t → t ≤ n → t ≢ 18 → f t ≡ 0) → summed f n ≡ 0
summed_none f zero h = refl
summed_none f (suc n) h = elim (cases_eq (suc n) 18) [
  | inl e ↦ (let a : unless_18 (suc n) (f (suc n)) ≡ 0 = rw (eq-eqb (suc n) 18 e) refl in omega (arith, summed_none f n (λ t k l. h t k (omega arith))))
  | inr ne ↦ (let a : unless_18 (suc n) (f (suc n)) ≡ f (suc n) = rw (ne_eqb (suc n) 18 ne) refl in
      omega (arith, h (suc n) (omega arith) (omega arith) ne, summed_none f n (λ t k l. h t k (omega arith))))
]

-- none is free where no sector of files is, by the bits and by the counts
pub number_none : (tracks : ℕ) (free : Place → Bool) → ((p : Place) → Has tracks p → p.track ≢ 18 → free p ≡ false) → number tracks free ≡ 0
number_none tracks free h = summed_none (λ t. tally free t (sectors_on t)) tracks (λ t a b ne. tally_none free t (sectors_on t) (λ s k. h (at t s) (a, b, k) ne))

pub free_none : (tracks : ℕ) (map : List ℕ) → IsCounted tracks map → ((p : Place) → Has tracks p → p.track ≢ 18 → is_free_in map p ≡ false) → free_in tracks map ≡ 0
free_none tracks map c h = free_is_number tracks map c ∙ number_none tracks (is_free_in map) h

-- one track more is counted
pub number_on : (f : Place → Bool) (t n m : ℕ) → 0 < t → n ≡ number (t - 1) f → m ≡ n + unless_18 t (tally f t (sectors_on t)) → m ≡ number (t + 1 - 1) f
number_on f zero n m some e k = absurd (omega arith)
number_on f (suc t) n m some e k =
    let z : suc t - 1 ≡ t = omega arith in
    let y : suc t + 1 - 1 ≡ suc t = omega arith in
    let here : ℕ = unless_18 (suc t) (tally f (suc t) (sectors_on (suc t))) in
    k ∙ ap (λ (x : ℕ). x + here) (e ∙ ap (λ (i : ℕ). number i f) z) ∙ add_comm (number t f) here ∙ ap (λ (i : ℕ). number i f) (sym y)
