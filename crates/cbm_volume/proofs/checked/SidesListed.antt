-- The places that a side sector names, one by one.
use Rattle.std.proofs.Common.{◌≡◌, ◌≢◌, ℕ, ◌+◌, ◌-◌, ◌*◌, ◌<◌, List, [], ◌∷◌, get_or, drop, Bool, true, false, Option, Some, None, Err, refl, sym, ap, subst, ◌∙◌, arith, inl, inr}
use Rattle.std.specs.Prelude.{if◌then◌else◌, ◌&&◌, ◌==◌}
use Rattle.std.proofs.lemmas.Bool.{eq-eqb, ne_eqb}
use Rattle.cbm_medium.specs.Place.{Place, has}
use Rattle.cbm_medium.specs.Content.{Content}
use Rattle.cbm_medium.specs.Links.{bytes_at, or_nothing}
use Rattle.cbm_relfile.specs.SideSectors.{named_in, listed_following}
use Rattle.cbm_bam.specs.Map.{with_bit}
use Rattle.cbm_volume.specs.check.Claims.{wrong_at, fault_at}
use Rattle.cbm_volume.specs.check.SideLists.{ClaimsEach, MeetsAmong, step_along, along, side_along, side_found, sides_along}
use Rattle.cbm_volume.specs.declared.check.unsound.Part.{Part}
use Rattle.cbm_volume.specs.declared.check.unsound.Unsound.{Unsound}
use Rattle.cbm_relfile.proofs.Listed.{at_bytes, list_none, list_some, listed_some}

-- the first of a list under another name
headed : (p q : Place) (xs rest : List Place) → p ≡ q → xs ≡ q ∷ rest → xs ≡ p ∷ rest
headed p q xs rest is e = e ∙ ap (λ (x : Place). x ∷ rest) (sym is)

pub sides_none : (n : ℕ) (bytes : List ℕ) → n < 6 → get_or bytes (4 + 2 * n) 0 ≡ 0 → named_in (6 - n) (drop (4 + 2 * n) bytes) ≡ []
sides_none n bytes l e = list_none 6 4 n bytes l e

pub sides_some : (n : ℕ) (bytes : List ℕ) (p : Place) → n < 6 → p ≡ at_bytes bytes (4 + 2 * n) → p.track ≢ 0
    → named_in (6 - n) (drop (4 + 2 * n) bytes) ≡ p ∷ named_in (6 - (n + 1)) (drop (4 + 2 * (n + 1)) bytes)
sides_some n bytes p l is ne = headed p (at_bytes bytes (4 + 2 * n)) _ _ is (list_some 6 4 n bytes l (λ z. ne (ap (λ (q : Place). q.track) is ∙ z)))

pub block_some : (n : ℕ) (side : List ℕ) (p : Place) → n < 120 → p ≡ at_bytes side (16 + 2 * n) → p.track ≢ 0 → listed_following n side ≡ p ∷ listed_following (n + 1) side
block_some n side p l is ne = headed p (at_bytes side (16 + 2 * n)) _ _ is (listed_some n side l (λ z. ne (ap (λ (q : Place). q.track) is ∙ z)))

-- one sector more is claimed
pub each_step : (part : Part) (tracks : ℕ) (content : Content) (claimed claimed2 after : Place → Bool) (p : Place) (whole rest : List Place) → whole ≡ p ∷ rest → wrong_at part tracks content claimed p ≡ None
    → claimed2 ≡ with_bit claimed p true → ClaimsEach part tracks content claimed2 rest after → ClaimsEach part tracks content claimed whole after
each_step part tracks content claimed claimed2 after p whole rest e n m w =
    subst (λ (xs : List Place). ClaimsEach part tracks content claimed xs after) (sym e) (n, subst (λ (c : Place → Bool). ClaimsEach part tracks content c rest after) m w)

pub among_step : (part : Part) (tracks : ℕ) (content : Content) (claimed claimed2 : Place → Bool) (u : Unsound) (p : Place) (whole rest : List Place) → whole ≡ p ∷ rest → wrong_at part tracks content claimed p ≡ None
    → claimed2 ≡ with_bit claimed p true → MeetsAmong part tracks content claimed2 rest u → MeetsAmong part tracks content claimed whole u
among_step part tracks content claimed claimed2 u p whole rest e n m w =
    subst (λ (xs : List Place). MeetsAmong part tracks content claimed xs u) (sym e) (inr (n, subst (λ (c : Place → Bool). MeetsAmong part tracks content c rest u) m w))

pub among_here : (part : Part) (tracks : ℕ) (content : Content) (claimed : Place → Bool) (u : Unsound) (p : Place) (whole rest : List Place) → whole ≡ p ∷ rest → wrong_at part tracks content claimed p ≡ Some u.number
    → u ≡ fault_at u.number p → MeetsAmong part tracks content claimed whole u
among_here part tracks content claimed u p whole rest e n w = subst (λ (xs : List Place). MeetsAmong part tracks content claimed xs u) (sym e) (inl (n, w))

-- a side sector with its number and length is as its list is
pub side_right : (tracks : ℕ) (content : Content) (width n : ℕ) (side : List ℕ) (a : Place) → get_or side 2 0 ≡ n → get_or side 3 0 ≡ width → side_along tracks content width n side a ≡ along tracks content (listed_following 0 side) a
side_right tracks content width n side a e f =
    ap (λ (b : Bool). if b && (get_or side 3 0 == width) then along tracks content (listed_following 0 side) a else None) (eq-eqb (get_or side 2 0) n e)
    ∙ ap (λ (b : Bool). if b then along tracks content (listed_following 0 side) a else None) (eq-eqb (get_or side 3 0) width f)

-- one block more along the chain
pub along_some : (tracks : ℕ) (content : Content) (p a b : Place) (whole rest : List Place) → whole ≡ p ∷ rest → step_along tracks content p a ≡ Some b → along tracks content whole a ≡ along tracks content rest b
along_some tracks content p a b whole rest e h = ap (λ (xs : List Place). along tracks content xs a) e
    ∙ ap (λ (o : Option Place). elim o [ Some q ↦ along tracks content rest q | None ↦ None ]) h

pub along_none : (tracks : ℕ) (content : Content) (p a : Place) (whole rest : List Place) → whole ≡ p ∷ rest → step_along tracks content p a ≡ None → along tracks content whole a ≡ None
along_none tracks content p a whole rest e h = ap (λ (xs : List Place). along tracks content xs a) e
    ∙ ap (λ (o : Option Place). elim o [ Some q ↦ along tracks content rest q | None ↦ None ]) h

-- a side sector that doesn't read has not the records' length
pub side_unread : (tracks : ℕ) (content : Content) (width n : ℕ) (s a : Place) (code : ℕ) → 0 < width → content s ≡ Err code → side_found tracks content width n s a ≡ None
side_unread tracks content width n s a code l h =
    let none : bytes_at content s ≡ [] = ap or_nothing h in
    ap (λ (bytes : List ℕ). if has tracks s then side_along tracks content width n bytes a else None) none
    ∙ ap (λ (b : Bool). if has tracks s then (if (0 == n) && b then along tracks content (listed_following 0 []) a else None) else None) (ne_eqb 0 width (λ z. omega (arith, z, l)))
    ∙ empty (has tracks s) (0 == n) (along tracks content (listed_following 0 []) a)
  where
    empty : (h e : Bool) (x : Option Place) → (if h then (if e && false then x else None) else None) ≡ None
    empty true true x = refl
    empty true false x = refl
    empty false e x = refl

pub sides_one : (tracks : ℕ) (content : Content) (width n : ℕ) (p a b : Place) (whole rest : List Place) → whole ≡ p ∷ rest → side_found tracks content width n p a ≡ Some b
    → sides_along tracks content width n whole a ≡ sides_along tracks content width (n + 1) rest b
sides_one tracks content width n p a b whole rest e h = ap (λ (xs : List Place). sides_along tracks content width n xs a) e
    ∙ ap (λ (o : Option Place). elim o [ Some q ↦ sides_along tracks content width (n + 1) rest q | None ↦ None ]) h

pub sides_stop : (tracks : ℕ) (content : Content) (width n : ℕ) (p a : Place) (whole rest : List Place) → whole ≡ p ∷ rest → side_found tracks content width n p a ≡ None → sides_along tracks content width n whole a ≡ None
sides_stop tracks content width n p a whole rest e h = ap (λ (xs : List Place). sides_along tracks content width n xs a) e
    ∙ ap (λ (o : Option Place). elim o [ Some q ↦ sides_along tracks content width (n + 1) rest q | None ↦ None ]) h
