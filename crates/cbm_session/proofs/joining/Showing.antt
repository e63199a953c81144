-- The steps of a piece as one drive sees them: the host's part joined with the drive's own, foreign steps between.
use Rattle.std.proofs.Common.{◌≡◌, ℕ, suc, inl, inr, true, false, List, [], ◌∷◌, map, ap, sym, ◌∙◌, subst, arith, refl}
use Rattle.std.proofs.lemmas.Bool.Decides.{leb_tells}
use Rattle.std.specs.Prelude.{nat_eq}
use Rattle.cbm_session.proofs.joining.Merging.{merge_here, merge_there, merge_nil, NoneBefore, InOrder, order_merge, before_yes, before_no, none_sooner}
use Rattle.cbm_session.proofs.joining.Seating.{Apart, Sits}
use Rattle.cbm_session.proofs.reading.Decoding.{IsMine, IsForeign, Shows}
use Rattle.cbm_session.specs.Joins.{NotBefore}
use Rattle.cbm_session.specs.Pieces.{before}
use Rattle.cbm_session.specs.Seats.{Seat, device}
use Rattle.cbm_session.specs.Steps.{Step, moment_of, merge, merge_all}

abbrev pub AllForeign : ℕ → List Step → Type 0
AllForeign d [] = Unit {0}
AllForeign d (s ∷ ss) = IsForeign d s × AllForeign d ss

abbrev pub AllMine : ℕ → List Step → Type 0
AllMine d [] = Unit {0}
AllMine d (s ∷ ss) = IsMine d s.event.who × AllMine d ss

pub all_mine : (d : ℕ) (ss : List Step) → AllMine d ss → Shows d ss ss
all_mine d [] a = refl
all_mine d (s ∷ ss) a = inr (ss, refl, a.0, all_mine d ss a.1)

none_mine : (d : ℕ) (ss : List Step) → AllForeign d ss → Shows d ss []
none_mine d [] a = refl
none_mine d (s ∷ ss) a = inl (a.0, none_mine d ss a.1)

-- a foreign list between changes nothing
merge_foreign : (d : ℕ) (xs ys m : List Step) → AllForeign d xs → Shows d ys m → Shows d (merge xs ys) m
merge_foreign d [] ys m a h = h
merge_foreign d (x ∷ xs) [] m a h = subst (λ (l : List Step). Shows d l m) (sym (merge_nil (x ∷ xs))) (subst (λ (q : List Step). Shows d (x ∷ xs) q) (sym h) (none_mine d (x ∷ xs) a))
merge_foreign d (x ∷ xs) (y ∷ ys) m a h = elim (leb_tells (moment_of x) (moment_of y)) [
  | inl e ↦ subst (λ (l : List Step). Shows d l m) (sym (merge_here x xs y ys e.1)) (inl (a.0, merge_foreign d xs (y ∷ ys) m a.1 h))
  | inr e ↦ subst (λ (l : List Step). Shows d l m) (sym (merge_there x xs y ys e.1)) (elim h [
    | inl g ↦ inl (g.0, merge_foreign d (x ∷ xs) ys m a g.1)
    | inr g ↦ inr (g.0, g.1, g.2, merge_foreign d (x ∷ xs) ys g.0 a g.3)
  ])
]

not_shown : (d : ℕ) (y : Step) (ys more : List Step) → [] ≡ y ∷ more → ⊥
not_shown d y ys more e = cc

-- nor is a drive's own list changed by lists that show nothing
merge_mine : (d : ℕ) (xs ys : List Step) → AllMine d xs → Shows d ys [] → Shows d (merge xs ys) xs
merge_mine d [] ys a h = h
merge_mine d (x ∷ xs) [] a h = subst (λ (l : List Step). Shows d l (x ∷ xs)) (sym (merge_nil (x ∷ xs))) (all_mine d (x ∷ xs) a)
merge_mine d (x ∷ xs) (y ∷ ys) a h = elim (leb_tells (moment_of x) (moment_of y)) [
  | inl e ↦ subst (λ (l : List Step). Shows d l (x ∷ xs)) (sym (merge_here x xs y ys e.1)) (inr (xs, refl, a.0, merge_mine d xs (y ∷ ys) a.1 h))
  | inr e ↦ subst (λ (l : List Step). Shows d l (x ∷ xs)) (sym (merge_there x xs y ys e.1)) (elim h [
    | inl g ↦ inl (g.0, merge_mine d (x ∷ xs) ys a g.1)
    | inr g ↦ absurd (not_shown d y ys g.0 g.1)
  ])
]

shows_late : (d n : ℕ) (ys m : List Step) → NoneBefore n ys → Shows d ys m → NotBefore n m
shows_late d n [] m nb h = subst (NotBefore n) (sym h) tt
shows_late d n (y ∷ ys) m nb (inl h) = shows_late d n ys m nb.1 h.1
shows_late d n (y ∷ ys) m nb (inr h) = subst (NotBefore n) (sym h.1) nb.0

pub merge_first : (x : Step) (xs m : List Step) → NotBefore (moment_of x) m → merge (x ∷ xs) m ≡ x ∷ merge xs m
merge_first x xs [] h = merge_nil (x ∷ xs) ∙ ap (λ (zs : List Step). x ∷ zs) (sym (merge_nil xs))
merge_first x xs (z ∷ zs) h = merge_here x xs z zs h

-- the host's list joined with lists of drives shows itself joined with what these show
merge_host : (d : ℕ) (hs ys m : List Step) → AllMine d hs → InOrder ys → Shows d ys m → Shows d (merge hs ys) (merge hs m)
merge_host d [] ys m a o h = h
merge_host d (x ∷ xs) [] m a o h =
    subst (λ (q : List Step). Shows d (merge (x ∷ xs) []) (merge (x ∷ xs) q)) (sym h)
    (subst (λ (l : List Step). Shows d l l) (sym (merge_nil (x ∷ xs))) (all_mine d (x ∷ xs) a))
merge_host d (x ∷ xs) (y ∷ ys) m a o h = elim (leb_tells (moment_of x) (moment_of y)) [
  | inl e ↦ (
      let late : NotBefore (moment_of x) m = shows_late d (moment_of x) (y ∷ ys) m (e.1, none_sooner (moment_of x) (moment_of y) ys e.1 o.0) h in
      subst (λ (l : List Step). Shows d l (merge (x ∷ xs) m)) (sym (merge_here x xs y ys e.1))
      (inr (merge xs m, merge_first x xs m late, a.0, merge_host d xs (y ∷ ys) m a.1 o h))
      )
  | inr e ↦ subst (λ (l : List Step). Shows d l (merge (x ∷ xs) m)) (sym (merge_there x xs y ys e.1)) (elim h [
    | inl g ↦ inl (g.0, merge_host d (x ∷ xs) ys m a o.1 g.1)
    | inr g ↦ inr (merge (x ∷ xs) g.0, ap (λ (q : List Step). merge (x ∷ xs) q) g.1 ∙ merge_there x xs y g.0 e.1, g.2, merge_host d (x ∷ xs) ys g.0 a o.1 g.3)
  ])
]

-- what is seen of a cut is a cut of what is seen
pub shows_before : (d at : ℕ) (ss m : List Step) → Shows d ss m → Shows d (before at ss) (before at m)
shows_before d at [] m h = ap (λ (q : List Step). before at q) h
shows_before d at (s ∷ ss) m (inl h) = elim (leb_tells (suc (moment_of s)) at) [
  | inl x ↦ subst (λ (l : List Step). Shows d l (before at m)) (sym (before_yes at s ss (omega (arith, x.1)))) (inl (h.0, shows_before d at ss m h.1))
  | inr x ↦ subst (λ (l : List Step). Shows d l (before at m)) (sym (before_no at s ss (omega (arith, x.1)))) (shows_before d at ss m h.1)
]
shows_before d at (s ∷ ss) m (inr h) = elim (leb_tells (suc (moment_of s)) at) [
  | inl x ↦ subst (λ (l : List Step). Shows d l (before at m)) (sym (before_yes at s ss (omega (arith, x.1))))
      (inr (before at h.0, ap (λ (q : List Step). before at q) h.1 ∙ before_yes at s h.0 (omega (arith, x.1)), h.2, shows_before d at ss h.0 h.3))
  | inr x ↦ subst (λ (l : List Step). Shows d l (before at m)) (sym (before_no at s ss (omega (arith, x.1))))
      (subst (λ (q : List Step). Shows d (before at ss) q) (sym (ap (λ (q : List Step). before at q) h.1 ∙ before_no at s h.0 (omega (arith, x.1)))) (shows_before d at ss h.0 h.3))
]

-- lists in order joined are in order
pub order_all : (own : Seat → List Step) → ((x : Seat) → InOrder (own x)) → (l : List Step) (xs : List Seat) → InOrder l → InOrder (merge_all l (map own xs))
order_all own f l [] o = o
order_all own f l (x ∷ xs) o = order_merge l (merge_all (own x) (map own xs)) o (order_all own f (own x) xs (f x))

-- the parts of the drives
module _ (d : ℕ) (own : Seat → List Step) (mine : (x : Seat) → nat_eq d (device x) ≡ true → AllMine d (own x)) (foreign : (x : Seat) → nat_eq d (device x) ≡ false → AllForeign d (own x)) where
  foreign_join : (l : List Step) (xs : List Seat) → AllForeign d l → Apart d xs → Shows d (merge_all l (map own xs)) []
  foreign_join l [] a h = none_mine d l a
  foreign_join l (x ∷ xs) a h = merge_foreign d l (merge_all (own x) (map own xs)) [] a (foreign_join (own x) xs (foreign x h.0) h.1)

  own_join : (l : List Step) (xs : List Seat) → AllMine d l → Apart d xs → Shows d (merge_all l (map own xs)) l
  own_join l [] a h = all_mine d l a
  own_join l (x ∷ xs) a h = merge_mine d l (merge_all (own x) (map own xs)) a (foreign_join (own x) xs (foreign x h.0) h.1)

  shown_parts : (x : Seat) (xs : List Seat) (s : Seat) → Sits d (x ∷ xs) s → Shows d (merge_all (own x) (map own xs)) (own s)
  shown_parts x xs s (inl h) = subst (λ (q : Seat). Shows d (merge_all (own x) (map own xs)) (own q)) h.0 (own_join (own x) xs (mine x h.1) h.2)
  shown_parts x [] s (inr h) = absurd h.1
  shown_parts x (y ∷ ys) s (inr h) = merge_foreign d (own x) (merge_all (own y) (map own ys)) (own s) (foreign x h.0) (shown_parts y ys s h.1)

  -- So the drive sees the host's part joined with its own.
  pub shows_all : ((x : Seat) → InOrder (own x)) → (hs : List Step) (seats : List Seat) (s : Seat) → AllMine d hs → Sits d seats s → Shows d (merge_all hs (map own seats)) (merge hs (own s))
  shows_all f hs [] s a h = absurd h
  shows_all f hs (x ∷ xs) s a h = merge_host d hs (merge_all (own x) (map own xs)) (own s) a (order_all own f (own x) xs (f x)) (shown_parts x xs s h)
