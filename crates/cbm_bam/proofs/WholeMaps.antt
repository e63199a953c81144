-- The map of a disk written anew: its beginning, one sector, one track, and its end.
use Rattle.std.proofs.Common.{◌≡◌, ◌≢◌, ◌⊎◌, ℕ, ◌+◌, ◌/◌, ◌%◌, ◌<◌, ◌≤◌, List, length, get_or, Bool, true, false, refl, sym, ap, subst, ◌∙◌, arith, inl, inr}
use Rattle.std.specs.Prelude.{◌==◌, ◌&&◌, ◌||◌, not, nat_lt, slice_index}
use Rattle.std.specs.Int.{bit_at}
use Rattle.std.proofs.lemmas.Bool.{cases_eq, cases_lt, lt-ltb, le-ltb, eq-eqb, ne_eqb}
use Rattle.std.proofs.lemmas.Nat.Bits.{bit_at-zero}
use Rattle.cbm_medium.specs.Place.{Place, Has, sectors_on}
use Rattle.cbm_bam.specs.Map.{count_index, is_free_in, count_in, at, with_bit, IsOutsideMap, IsGiven}
use Rattle.cbm_bam.specs.WrittenAnew.{is_place_before, IsAnew}
use Rattle.cbm_medium.proofs.Places.{place_decide}
use Rattle.cbm_bam.proofs.Counts.{tally_none, bit_there, bit_elsewhere}
use Rattle.cbm_bam.proofs.Bits.{index_low, index_high, few_sectors}

-- ---- which sectors come before

before_same : (t s a b : ℕ) → (a ≡ t → b ≢ s) → (nat_lt a t || ((a == t) && nat_lt b (s + 1))) ≡ (nat_lt a t || ((a == t) && nat_lt b s))
before_same t s a b ne = elim (cases_eq a t) [
  | inl e ↦ elim (cases_lt b s) [
    | inl l ↦ rw (eq-eqb a t e, lt-ltb b s l, lt-ltb b (s + 1) (omega arith)) refl
    | inr l ↦ rw (eq-eqb a t e, le-ltb b s l, le-ltb b (s + 1) (let f = ne e in omega arith)) refl
  ]
  | inr e ↦ rw (ne_eqb a t e) refl
]

before_here : (t s : ℕ) → (nat_lt t t || ((t == t) && nat_lt s (s + 1))) ≡ true
before_here t s = rw (le-ltb t t (omega arith), eq-eqb t t refl, lt-ltb s (s + 1) (omega arith)) refl

not_before : (t s : ℕ) → (nat_lt t t || ((t == t) && nat_lt s s)) ≡ false
not_before t s = rw (le-ltb t t (omega arith), eq-eqb t t refl, le-ltb s s (omega arith)) refl

before_track : (t n a b : ℕ) → (a ≡ t → b < n) → (nat_lt a t || ((a == t) && nat_lt b n)) ≡ (nat_lt a (t + 1) || ((a == t + 1) && nat_lt b 0))
before_track t n a b h = elim (cases_lt a t) [
  | inl l ↦ rw (lt-ltb a t l, lt-ltb a (t + 1) (omega arith)) refl
  | inr l ↦ elim (cases_eq a t) [
    | inl e ↦ rw (le-ltb a t l, eq-eqb a t e, lt-ltb b n (h e), lt-ltb a (t + 1) (omega arith)) refl
    | inr e ↦ elim (cases_eq a (t + 1)) [
      | inl f ↦ rw (le-ltb a t l, ne_eqb a t e, le-ltb a (t + 1) (omega arith), eq-eqb a (t + 1) f, le-ltb b 0 (omega arith)) refl
      | inr f ↦ rw (le-ltb a t l, ne_eqb a t e, le-ltb a (t + 1) (omega arith), ne_eqb a (t + 1) f) refl
    ]
  ]
]

none_before : (a b : ℕ) → 0 < a → (nat_lt a 1 || ((a == 1) && nat_lt b 0)) ≡ false
none_before a b h = elim (cases_eq a 1) [
  | inl e ↦ rw (le-ltb a 1 h, eq-eqb a 1 e, le-ltb b 0 (omega arith)) refl
  | inr e ↦ rw (le-ltb a 1 h, ne_eqb a 1 e) refl
]

-- ---- one sector

apart_from : (t s : ℕ) (p : Place) → at t s ≢ p → p.track ≡ t → p.sector ≢ s
apart_from t s p ne e f = ne (λ i. record { track = sym e i; sector = sym f i })

-- a used one stays as it is
pub step_used : (tracks : ℕ) (old new : List ℕ) (used : Place → Bool) (t s : ℕ) → used (at t s) ≡ true → IsAnew tracks old new used t s → IsAnew tracks old new used t (s + 1)
step_used tracks old new used t s u h = record {
  length = h.length;
  bits = λ p k. h.bits p k ∙ elim (place_decide (at t s) p) [
    | inl e ↦ subst (λ (x : Place). (is_place_before t s x && not (used x)) ≡ (is_place_before t (s + 1) x && not (used x))) e (rw (not_before t s, before_here t s, u) refl)
    | inr ne ↦ ap (λ (b : Bool). b && not (used p)) (sym (before_same t s p.track p.sector (apart_from t s p ne)))
  ];
  counted = h.counted;
  outside = h.outside;
  spare = h.spare;
}

-- another one is set free
pub step_free : (tracks : ℕ) (old mid new : List ℕ) (used : Place → Bool) (t s : ℕ) → used (at t s) ≡ false → IsGiven tracks mid new (at t s) → IsAnew tracks old mid used t s → IsAnew tracks old new used t (s + 1)
step_free tracks old mid new used t s u g h = record {
  length = g.mapped.length ∙ h.length;
  bits = λ p k. g.mapped.bits p k ∙ elim (place_decide (at t s) p) [
    | inl e ↦ subst (λ (x : Place). with_bit (is_free_in mid) (at t s) true x ≡ (is_place_before t (s + 1) x && not (used x))) e
        (bit_there (is_free_in mid) (at t s) true ∙ sym (rw (before_here t s, u) refl))
    | inr ne ↦ bit_elsewhere (is_free_in mid) (at t s) p true ne ∙ h.bits p k ∙ ap (λ (b : Bool). b && not (used p)) (sym (before_same t s p.track p.sector (apart_from t s p ne)))
  ];
  counted = g.mapped.counted h.counted;
  outside = λ i o. g.mapped.outside i o ∙ h.outside i o;
  spare = λ p k. g.mapped.spare p k ∙ h.spare p k;
}

-- ---- a track is done

pub step_track : (tracks : ℕ) (old new : List ℕ) (used : Place → Bool) (t s : ℕ) → sectors_on t ≤ s → IsAnew tracks old new used t s → IsAnew tracks old new used (t + 1) 0
step_track tracks old new used t s l h = record {
  length = h.length;
  bits = λ p k. h.bits p k ∙ ap (λ (b : Bool). b && not (used p)) (before_track t s p.track p.sector (λ e. let x : p.sector < sectors_on t = subst (λ (n : ℕ). p.sector < sectors_on n) e k.2 in omega arith));
  counted = h.counted;
  outside = h.outside;
  spare = h.spare;
}

-- ---- the beginning

-- the bytes of the map of so many tracks
abbrev IsZeroMap : ℕ → List ℕ → Type 0
IsZeroMap tracks map = (t a : ℕ) → 0 < t → t ≤ tracks → a < 4 → get_or map (count_index t + a) 0 ≡ 0

free_nowhere : (tracks : ℕ) (map : List ℕ) (p : Place) → IsZeroMap tracks map → 0 < p.track → p.track ≤ tracks → p.sector < 24 → is_free_in map p ≡ false
unfolding is_free_in
free_nowhere tracks map p z a b n =
    let i : count_index p.track + 1 + p.sector / 8 ≡ count_index p.track + (1 + p.sector / 8) = omega arith in
    let byte : get_or map (count_index p.track + 1 + p.sector / 8) 0 ≡ 0 = ap (λ (k : ℕ). get_or map k 0) i ∙ z p.track (1 + p.sector / 8) a b (omega arith) in
    ap (λ (v : ℕ). bit_at v (p.sector % 8) == 1) byte ∙ ap (λ (v : ℕ). v == 1) (bit_at-zero (p.sector % 8))

none_counted : (tracks : ℕ) (map : List ℕ) (t : ℕ) → IsZeroMap tracks map → 0 < t → t ≤ tracks → count_in map t ≡ 0
unfolding count_in
none_counted tracks map t z a b =
    let i : count_index t ≡ count_index t + 0 = omega arith in
    ap (λ (k : ℕ). get_or map k 0) i ∙ z t 0 a b (omega arith)

begun : (tracks : ℕ) (old new : List ℕ) (used : Place → Bool) → length new ≡ 256 → IsZeroMap tracks new → ((i : ℕ) → IsOutsideMap tracks i → slice_index new i ≡ slice_index old i) → IsAnew tracks old new used 1 0
begun tracks old new used l z o = record {
  length = l;
  bits = λ p k. free_nowhere tracks new p z k.0 k.1 (omega (arith, few_sectors p.track, k.2)) ∙ sym (ap (λ (b : Bool). b && not (used p)) (none_before p.track p.sector k.0));
  counted = λ t a b. none_counted tracks new t z a b ∙ sym (tally_none (is_free_in new) t (sectors_on t) (λ s k. free_nowhere tracks new (at t s) z a b (omega (arith, few_sectors t))));
  outside = o;
  spare = λ p k. free_nowhere tracks new p z k.0 k.1 k.3;
}

-- this part is zeros
abbrev pub IsZero : List ℕ → ℕ → ℕ → Type 0
IsZero map from end = (i : ℕ) → from ≤ i → i < end → slice_index map i ≡ 0

-- the rest is as it was
abbrev pub IsRest : List ℕ → List ℕ → ℕ → ℕ → Type 0
IsRest old new from end = (i : ℕ) → (i < from) ⊎ (end ≤ i) → slice_index new i ≡ slice_index old i

pub begun_35 : (tracks : ℕ) (old new : List ℕ) (used : Place → Bool) → (tracks ≡ 35) ⊎ (tracks ≡ 40) → tracks < 40 → length new ≡ 256 → IsZero new 4 144 → IsRest old new 4 144 → IsAnew tracks old new used 1 0
begun_35 tracks old new used either few l z r = begun tracks old new used l
    (λ t a x y s. z (count_index t + a) (omega (arith, index_low t (elim either [ inl e ↦ omega arith | inr e ↦ absurd (omega arith) ]))) (omega (arith, index_low t (elim either [ inl e ↦ omega arith | inr e ↦ absurd (omega arith) ]))))
    (λ i o. r i (elim o [ inl low ↦ inl low | inr high ↦ inr high.0 ]))

pub begun_40 : (tracks : ℕ) (old mid new : List ℕ) (used : Place → Bool) → (tracks ≡ 35) ⊎ (tracks ≡ 40) → 40 ≤ tracks → length new ≡ 256 → IsZero mid 4 144 → IsRest old mid 4 144 → IsZero new 192 212 → IsRest mid new 192 212 → IsAnew tracks old new used 1 0
begun_40 tracks old mid new used either most l z r z' r' = begun tracks old new used l
    (λ t a x y s. elim (cases_lt t 36) [
      | inl k ↦ r' (count_index t + a) (inl (omega (arith, index_low t k))) ∙ z (count_index t + a) (omega (arith, index_low t k)) (omega (arith, index_low t k))
      | inr k ↦ z' (count_index t + a) (omega (arith, index_high t k)) (omega (arith, index_high t k, (let m : tracks ≤ 40 = elim either [ inl e ↦ omega arith | inr e ↦ omega arith ] in m)))
    ])
    (λ i o. elim o [
      | inl low ↦ r' i (inl (omega arith)) ∙ r i (inl low)
      | inr high ↦ r' i (elim high.1 [ inl few ↦ absurd (omega arith) | inr rest ↦ rest ]) ∙ r i (inr high.0)
    ])

-- ---- the end

pub all_free : (tracks : ℕ) (old new : List ℕ) (used : Place → Bool) (t : ℕ) → tracks < t → IsAnew tracks old new used t 0 → (p : Place) → Has tracks p → is_free_in new p ≡ not (used p)
all_free tracks old new used t l h p k =
    let before : is_place_before t 0 p ≡ true = rw (lt-ltb p.track t (omega (arith, k.1))) refl in
    h.bits p k ∙ ap (λ (b : Bool). b && not (used p)) before
