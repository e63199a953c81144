-- Side sectors get a new one into their lists, from the last one down.
use Rattle.std.proofs.Common.{◌≡◌, ◌≢◌, ℕ, ◌+◌, ◌<◌, ◌≤◌, List, Ok, IsOk, refl, sym, ap, subst, ◌∙◌, arith, inl, inr}
use Rattle.std.specs.Prelude.{◌==◌}
use Rattle.std.proofs.lemmas.Bool.{cases_eq}
use Rattle.cbm_medium.specs.Place.{Place, Has}
use Rattle.cbm_medium.specs.Content.{Cell, Content}
use Rattle.cbm_medium.specs.Links.{bytes_at, or_nothing}
use Rattle.cbm_medium.proofs.Places.{written_there, written_elsewhere}
use Rattle.cbm_relfile.specs.Growing.{ListsSide, IsSideLinked, AreSides, AreSidesLinked}
use Rattle.cbm_relfile.specs.SideSectors.{listed_side}

-- none has it yet
pub linked_none : (c : Content) (head : List ℕ) (from k : ℕ) (t : Place) → k ≤ from → AreSidesLinked c c head from k t
linked_none c head from k t far = record { each = λ i l m. absurd (omega (arith, far, l, m)); others = λ p apart. refl }

-- the one before them has it too
one_more : (tracks : ℕ) (old mid new : Content) (first : Place) (head : List ℕ) (n k : ℕ) (t : Place) → 1 ≤ n → n < k → AreSides tracks old first head k → AreSidesLinked old mid head (n + 1) k t
    → ((bytes : List ℕ) → Has tracks first → mid first ≡ Ok bytes → Has tracks (listed_side bytes n) → IsOk (mid (listed_side bytes n)) → IsSideLinked mid new (listed_side bytes n) n k t)
    → AreSidesLinked old new head n k t
one_more tracks old mid new first head n k t some few sides so call = record { each = each; others = others }
  where
    at : Place
    at = listed_side head n

    -- what isn't done yet is as it was
    same_first : mid first ≡ old first
    same_first = so.others first (λ i l m e. (let z : 0 ≡ i = sides.distinct 0 i (omega (arith, some, few)) m (sides.itself ∙ e) in omega (arith, z, l)))

    same_at : mid at ≡ old at
    same_at = so.others at (λ i l m e. (let z : n ≡ i = sides.distinct n i few m e in omega (arith, z, l)))

    step : IsSideLinked mid new at n k t
    step = call head sides.reads.0 (same_first ∙ sides.reads.1) (sides.there n few).0 (subst (λ (x : Cell). IsOk x) (sym same_at) (sides.there n few).1)

    bytes_of : (c : Content) (p : Place) (bytes : List ℕ) → c p ≡ Ok bytes → bytes_at c p ≡ bytes
    bytes_of c p bytes e = ap or_nothing e

    there : bytes_at new at ≡ step.more
    there = ap (λ (c : Content). bytes_at c at) step.written ∙ ap or_nothing (written_there mid at step.more)

    elsewhere : (p : Place) → at ≢ p → new p ≡ mid p
    elsewhere p ne = ap (λ (c : Content). c p) step.written ∙ written_elsewhere mid at p step.more ne

    here : ListsSide (bytes_at old at) k t (n + 1 == k) (bytes_at new at)
    here = subst (λ (xs : List ℕ). ListsSide xs k t (n + 1 == k) (bytes_at new at)) (sym (bytes_of old at step.side (sym same_at ∙ step.reads))) (subst (λ (xs : List ℕ). ListsSide step.side k t (n + 1 == k) xs) (sym there) step.lists)

    each : (i : ℕ) → n ≤ i → i < k → ListsSide (bytes_at old (listed_side head i)) k t (i + 1 == k) (bytes_at new (listed_side head i))
    each i l m = elim (cases_eq i n) [
      | inl e ↦ subst (λ (j : ℕ). ListsSide (bytes_at old (listed_side head j)) k t (j + 1 == k) (bytes_at new (listed_side head j))) (sym e) here
      | inr ne ↦ subst (λ (xs : List ℕ). ListsSide (bytes_at old (listed_side head i)) k t (i + 1 == k) xs) (sym (ap or_nothing (elsewhere (listed_side head i) (λ e. ne (sym (sides.distinct n i few m e)))))) (so.each i (omega (arith, l, ne)) m)
    ]

    others : (p : Place) → ((i : ℕ) → n ≤ i → i < k → p ≢ listed_side head i) → new p ≡ old p
    others p apart = elsewhere p (λ e. apart n (omega arith) few (sym e)) ∙ so.others p (λ i l m. apart i (omega (arith, l)) m)

-- what the call says that puts the new one into the list of the side sector of a number
abbrev pub LinksSide : ℕ → Content → Content → Place → ℕ → ℕ → Place → Type 0
LinksSide tracks mid new first n k t = (bytes : List ℕ) → Has tracks first → mid first ≡ Ok bytes → Has tracks (listed_side bytes n) → IsOk (mid (listed_side bytes n)) → IsSideLinked mid new (listed_side bytes n) n k t

pub linked_more : (tracks : ℕ) (old mid new : Content) (first : Place) (head : List ℕ) (n from next k : ℕ) (t : Place) → from ≡ n + 1 → next ≡ n → 1 ≤ n → n < k → LinksSide tracks mid new first n k t → (AreSides tracks old first head k → AreSidesLinked old mid head from k t)
    → AreSides tracks old first head k → AreSidesLinked old new head next k t
linked_more tracks old mid new first head n from next k t from_is next_is some few call so sides =
    subst (λ (i : ℕ). AreSidesLinked old new head i k t) (sym next_is) (one_more tracks old mid new first head n k t some few sides (subst (λ (i : ℕ). AreSidesLinked old mid head i k t) from_is (so sides)) call)

-- all but the first have it
pub linked_all : (old new : Content) (head : List ℕ) (from k : ℕ) (t : Place) → from ≤ 1 → (1 ≤ k → 1 ≤ from) → AreSidesLinked old new head from k t → AreSidesLinked old new head 1 k t
linked_all old new head from k t low some so = record {
  each = λ i l m. so.each i (omega (arith, low, l)) m;
  others = λ p apart. so.others p (λ i l m. apart i (omega (arith, l, some (omega (arith, m)))) m);
}
