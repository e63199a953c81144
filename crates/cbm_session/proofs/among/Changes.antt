-- Changes of DATA that several drives make, each its reaction after a moment: how many there are, and which is the last.
use Rattle.std.proofs.Common.{◌≡◌, ℕ, zero, suc, ◌+◌, ◌≤◌, max, Bool, true, false, List, [], ◌∷◌, length, map, inl, inr, ap, sym, ◌∙◌, subst, arith, refl}
use Rattle.std.proofs.Math.Nat.{max-eq_left, max-eq_right}
use Rattle.std.proofs.lemmas.Bool.Decides.{leb_tells}
use Rattle.std.specs.Prelude.{nat_eq}
use Rattle.cbm_iec.specs.declared.event.Who.TheVariants.{Drive}
use Rattle.cbm_iec.specs.declared.lines.Line.TheVariants.{Data}
use Rattle.cbm_iec.specs.declared.lines.Way.{Way}
use Rattle.cbm_session.proofs.joining.Merging.{merge_here, merge_there, NoneBefore, InOrder, none_merge, order_merge}
use Rattle.cbm_session.proofs.joining.Seating.{Apart, Sits}
use Rattle.cbm_session.specs.Seats.{Seat, device, reaction, slowest}
use Rattle.cbm_session.specs.Steps.{Mark, Step, event_of, moment_of, merge, merge_all}

-- a change of DATA by a drive
abbrev pub step : Way → (ℕ → Mark) → ℕ → ℕ → Step
step way mark o t = record { event = event_of (Drive o) t Data way; mark = mark o }

-- such changes: so many of other drives, and drive d's own, or not
pub data Changes (way : Way) (mark : ℕ → Mark) (d at : ℕ) : List Step → ℕ → Bool → Type 0 where
  none : Changes way mark d at [] zero false
  other : {n : ℕ} {u : Bool} {ss : List Step} (o t : ℕ) → nat_eq d o ≡ false → Changes way mark d at ss n u → Changes way mark d at (step way mark o t ∷ ss) (suc n) u
  own : {n : ℕ} {ss : List Step} → Changes way mark d at ss n false → Changes way mark d at (step way mark d at ∷ ss) n true

pub insert_other : (way : Way) (mark : ℕ → Mark) (d at o t : ℕ) (ys : List Step) (n : ℕ) (u : Bool) → nat_eq d o ≡ false → Changes way mark d at ys n u → Changes way mark d at (merge (step way mark o t ∷ []) ys) (suc n) u
insert_other way mark d at o t [] n u h none = other o t h none
insert_other way mark d at o t (y ∷ ys) (suc n) u h (other p v k rest) = elim (leb_tells t v) [
  | inl e ↦ subst (λ (zs : List Step). Changes way mark d at zs (suc (suc n)) u) (sym (merge_here (step way mark o t) [] (step way mark p v) ys e.1)) (other o t h (other p v k rest))
  | inr e ↦ subst (λ (zs : List Step). Changes way mark d at zs (suc (suc n)) u) (sym (merge_there (step way mark o t) [] (step way mark p v) ys e.1)) (other p v k (insert_other way mark d at o t ys n u h rest))
]
insert_other way mark d at o t (y ∷ ys) n u h (own rest) = elim (leb_tells t at) [
  | inl e ↦ subst (λ (zs : List Step). Changes way mark d at zs (suc n) true) (sym (merge_here (step way mark o t) [] (step way mark d at) ys e.1)) (other o t h (own rest))
  | inr e ↦ subst (λ (zs : List Step). Changes way mark d at zs (suc n) true) (sym (merge_there (step way mark o t) [] (step way mark d at) ys e.1)) (own (insert_other way mark d at o t ys n false h rest))
]

pub insert_own : (way : Way) (mark : ℕ → Mark) (d at : ℕ) (ys : List Step) (n : ℕ) → Changes way mark d at ys n false → Changes way mark d at (merge (step way mark d at ∷ []) ys) n true
insert_own way mark d at [] n none = own none
insert_own way mark d at (y ∷ ys) zero x = elim x [ ]
insert_own way mark d at (y ∷ ys) (suc n) (other p v k rest) = elim (leb_tells at v) [
  | inl e ↦ subst (λ (zs : List Step). Changes way mark d at zs (suc n) true) (sym (merge_here (step way mark d at) [] (step way mark p v) ys e.1)) (own (other p v k rest))
  | inr e ↦ subst (λ (zs : List Step). Changes way mark d at zs (suc n) true) (sym (merge_there (step way mark d at) [] (step way mark p v) ys e.1)) (other p v k (insert_own way mark d at ys n rest))
]

-- one of each of these drives, so long after a moment
abbrev pub part : Way → (ℕ → Mark) → ℕ → Seat → List Step
part way mark ready s = step way mark (device s) (ready + reaction s) ∷ []

-- the moment of the last of them
abbrev pub last_or : ℕ → List Step → ℕ
last_or m [] = m
last_or m (s ∷ ss) = last_or (moment_of s) ss

-- a drive's own release stands after what comes before it
pub own_after_it : (way : Way) (mark : ℕ → Mark) (d at m : ℕ) (ss : List Step) (n : ℕ) → Changes way mark d at ss n true → NoneBefore m ss → m ≤ at
own_after_it way mark d at m [] n x k = elim x [ ]
own_after_it way mark d at m (s ∷ ss) (suc n) (other o t h rest) k = own_after_it way mark d at m ss n rest k.1
own_after_it way mark d at m (s ∷ ss) n (own rest) k = k.0

-- the releases of drives that are apart from d; and of drives among which d is
pub others_change : (way : Way) (mark : ℕ → Mark) (d at ready : ℕ) (x : Seat) (xs : List Seat) → Apart d (x ∷ xs) → (n : ℕ) × (n ≡ length (x ∷ xs)) × Changes way mark d at (merge_all (part way mark ready x) (map (λ s. part way mark ready s) xs)) n false
others_change way mark d at ready x [] h = (1, refl, other (device x) (ready + reaction x) h.0 none)
others_change way mark d at ready x (y ∷ ys) h =
    let k = others_change way mark d at ready y ys h.1 in
    (suc k.0, ap (λ (n : ℕ). suc n) k.1, insert_other way mark d at (device x) (ready + reaction x) (merge_all (part way mark ready y) (map (λ s. part way mark ready s) ys)) k.0 false h.0 k.2)

pub all_change : (way : Way) (mark : ℕ → Mark) (ready : ℕ) (x : Seat) (xs : List Seat) (s : Seat) → Sits (device s) (x ∷ xs) s → (n : ℕ) × (suc n ≡ length (x ∷ xs)) × Changes way mark (device s) (ready + reaction s) (merge_all (part way mark ready x) (map (λ u. part way mark ready u) xs)) n true
all_change way mark ready x [] s (inl h) = (zero, refl, subst (λ (u : Seat). Changes way mark (device s) (ready + reaction s) (part way mark ready u) zero true) (sym h.0) (own none))
all_change way mark ready x (y ∷ ys) s (inl h) =
    let k = others_change way mark (device s) (ready + reaction s) ready y ys h.2 in (
      k.0,
      ap (λ (n : ℕ). suc n) k.1,
      subst (λ (u : Seat). Changes way mark (device s) (ready + reaction s) (merge (part way mark ready u) (merge_all (part way mark ready y) (map (λ v. part way mark ready v) ys))) k.0 true) (sym h.0)
          (insert_own way mark (device s) (ready + reaction s) (merge_all (part way mark ready y) (map (λ v. part way mark ready v) ys)) k.0 k.2),
    )
all_change way mark ready x [] s (inr h) = elim h.1 [ ]
all_change way mark ready x (y ∷ ys) s (inr h) =
    let k = all_change way mark ready y ys s h.1 in
    (suc k.0, ap (λ (n : ℕ). suc n) k.1, insert_other way mark (device s) (ready + reaction s) (device x) (ready + reaction x) (merge_all (part way mark ready y) (map (λ v. part way mark ready v) ys)) k.0 true h.0 k.2)

-- they are in order, and the last of them is that of the slowest
pub in_order : (way : Way) (mark : ℕ → Mark) (ready : ℕ) (x : Seat) (xs : List Seat) → InOrder (merge_all (part way mark ready x) (map (λ s. part way mark ready s) xs))
in_order way mark ready x [] = (tt, tt)
in_order way mark ready x (y ∷ ys) = order_merge (part way mark ready x) (merge_all (part way mark ready y) (map (λ s. part way mark ready s) ys)) (tt, tt) (in_order way mark ready y ys)

late : (m : ℕ) (ss : List Step) → NoneBefore m ss → InOrder ss → m ≤ last_or m ss
late m [] h o = omega arith
late m (s ∷ ss) h o = let k = late (moment_of s) ss o.0 o.1 in let l = h.0 in omega (arith, k, l)

last_insert : (m : ℕ) (x : Step) (ys : List Step) → m ≤ moment_of x → NoneBefore m ys → InOrder ys → last_or m (merge (x ∷ []) ys) ≡ max (moment_of x) (last_or m ys)
last_insert m x [] l h o = sym (max-eq_left l)
last_insert m x (y ∷ ys) l h o = elim (leb_tells (moment_of x) (moment_of y)) [
  | inl e ↦ (
      let k = late (moment_of y) ys o.0 o.1 in
      ap (λ (zs : List Step). last_or m zs) (merge_here x [] y ys e.1) ∙ sym (max-eq_right (omega (arith, k, e.1)))
      )
  | inr e ↦ ap (λ (zs : List Step). last_or m zs) (merge_there x [] y ys e.1) ∙ last_insert (moment_of y) x ys (omega (arith, e.1)) o.0 o.1
]

max_plus : (a b c : ℕ) → max (a + b) (a + c) ≡ a + max b c
max_plus a b c = elim (leb_tells b c) [
  | inl h ↦ max-eq_right (omega (arith, h.1)) ∙ ap (λ (n : ℕ). a + n) (sym (max-eq_right h.1))
  | inr h ↦ max-eq_left (omega (arith, h.1)) ∙ ap (λ (n : ℕ). a + n) (sym (max-eq_left (omega (arith, h.1))))
]

pub none_ready : (way : Way) (mark : ℕ → Mark) (ready : ℕ) (x : Seat) (xs : List Seat) → NoneBefore ready (merge_all (part way mark ready x) (map (λ s. part way mark ready s) xs))
none_ready way mark ready x [] = (omega arith, tt)
none_ready way mark ready x (y ∷ ys) = none_merge ready (part way mark ready x) (merge_all (part way mark ready y) (map (λ s. part way mark ready s) ys)) (omega arith, tt) (none_ready way mark ready y ys)

pub last_is : (way : Way) (mark : ℕ → Mark) (ready : ℕ) (x : Seat) (xs : List Seat) → last_or ready (merge_all (part way mark ready x) (map (λ s. part way mark ready s) xs)) ≡ ready + slowest (x ∷ xs)
last_is way mark ready x [] = refl
last_is way mark ready x (y ∷ ys) =
    last_insert ready (step way mark (device x) (ready + reaction x)) (merge_all (part way mark ready y) (map (λ s. part way mark ready s) ys)) (omega arith) (none_ready way mark ready y ys) (in_order way mark ready y ys)
    ∙ ap (λ (n : ℕ). max (ready + reaction x) n) (last_is way mark ready y ys) ∙ max_plus ready (reaction x) (slowest (y ∷ ys))
