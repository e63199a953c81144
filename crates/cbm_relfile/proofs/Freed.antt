-- The side sectors that the first one lists are given back one by one.
use Rattle.std.proofs.Common.{◌≡◌, ◌≢◌, ℕ, ◌+◌, ◌-◌, ◌*◌, ◌<◌, ◌≤◌, List, ◌∷◌, get_or, drop, refl, sym, ap, subst, ◌∙◌, arith}
use Rattle.cbm_medium.specs.Place.{Place, Has}
use Rattle.cbm_bam.specs.Map.{IsGiven, Frees}
use Rattle.cbm_relfile.specs.SideSectors.{AllHave, named_in, sides_listed}
use Rattle.cbm_relfile.proofs.Listed.{at_bytes, list_none, list_some}

-- the side sectors that are listed from a place on
abbrev pub sides_left : ℕ → List ℕ → List Place
sides_left n head = named_in (6 - n) (drop (4 + 2 * n) head)

-- what is left to be given back makes the whole
pub record Freeing (tracks : ℕ) (old now head : List ℕ) (n : ℕ) : Type 0 where
  pub forth : (new : List ℕ) → Frees tracks now (sides_left n head) new → Frees tracks old (sides_listed head) new
  pub have : AllHave tracks (sides_listed head) → AllHave tracks (sides_left n head)

pub freeing_begun : (tracks : ℕ) (old head : List ℕ) → Freeing tracks old old head 0
freeing_begun tracks old head = record { forth = λ new h. h; have = λ h. h }

pub left_some : (n : ℕ) (head : List ℕ) (p : Place) → n < 6 → p ≡ at_bytes head (4 + 2 * n) → p.track ≢ 0 → sides_left n head ≡ p ∷ sides_left (n + 1) head
left_some n head p l is ne = list_some 6 4 n head l (λ z. ne (ap (λ (q : Place). q.track) is ∙ z)) ∙ ap (λ (q : Place). q ∷ sides_left (n + 1) head) (sym is)

-- one sector more
pub freeing_next : (tracks : ℕ) (old now mid head : List ℕ) (n : ℕ) (p : Place) → Freeing tracks old now head n → n < 6 → p ≡ at_bytes head (4 + 2 * n) → p.track ≢ 0 → IsGiven tracks now mid p → Freeing tracks old mid head (n + 1)
freeing_next tracks old now mid head n p h l is ne given =
    let some = left_some n head p l is ne in
    record {
      forth = λ new f. h.forth new (subst (λ (xs : List Place). Frees tracks now xs new) (sym some) (mid, given, f));
      have = λ a. (subst (λ (xs : List Place). AllHave tracks xs) some (h.have a)).1;
    }

-- it is a sector of the disk
pub left_has : (tracks : ℕ) (old now head : List ℕ) (n : ℕ) (p : Place) → Freeing tracks old now head n → n < 6 → p ≡ at_bytes head (4 + 2 * n) → p.track ≢ 0 → AllHave tracks (sides_listed head) → Has tracks p
left_has tracks old now head n p h l is ne a = (subst (λ (xs : List Place). AllHave tracks xs) (left_some n head p l is ne) (h.have a)).0

-- no more are listed
pub freed_listed : (tracks : ℕ) (old now head : List ℕ) (n : ℕ) → Freeing tracks old now head n → n < 6 → get_or head (4 + 2 * n) 0 ≡ 0 → Frees tracks old (sides_listed head) now
freed_listed tracks old now head n h l z = h.forth now (subst (λ (xs : List Place). Frees tracks now xs now) (sym (list_none 6 4 n head l z)) refl)

-- all six places are done
pub freed_six : (tracks : ℕ) (old now head : List ℕ) (n : ℕ) → Freeing tracks old now head n → 6 ≤ n → Frees tracks old (sides_listed head) now
freed_six tracks old now head n h l =
    let none : 6 - n ≡ 0 = omega (arith, l) in
    h.forth now (subst (λ (m : ℕ). Frees tracks now (named_in m (drop (4 + 2 * n) head)) now) (sym none) refl)
