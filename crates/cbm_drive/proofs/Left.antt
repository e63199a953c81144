-- Reactions before a limit come to an end.
use Rattle.std.proofs.Common.{◌≡◌, ℕ, zero, suc, length, ◌+◌, ◌-◌, ◌*◌, ◌<◌, ◌≤◌, List, [], ◌∷◌, Option, Some, None, refl, sym, ap, subst, ◌∙◌, inl, inr, arith}
use Rattle.std.specs.Prelude.{◌==◌, if◌then◌else◌, Bool, true, false}
use Rattle.std.proofs.lemmas.Bool.{cases_lt}
use Rattle.cbm_iec.specs.Ports.{port_due}
use Rattle.cbm_session.specs.Following.{IsInTime}
use Rattle.cbm_session.specs.Playing.{IsLaterDue}
use Rattle.cbm_drive.specs.Progress.{IsNearer, due_at, due_now, sooner, soonest, left, left_from}
use Rattle.cbm_drive.specs.Seats.{Seated, AreInTime, IsFirstDue}

-- what is due soonest is due no sooner than all
soonest_in_time : {D : Type 0} (t : ℕ) (xs : List (Seated D)) → AreInTime t xs → IsInTime t (soonest xs)
soonest_in_time t [] h = tt
soonest_in_time t (x ∷ xs) h = both (port_due x.port) (soonest xs) h.0 (soonest_in_time t xs h.1)
  where
    both : (a b : Option ℕ) → IsInTime t a → IsInTime t b → IsInTime t (sooner a b)
    both None b f g = g
    both (Some u) None f g = f
    both (Some u) (Some v) f g = omega (arith, f, g)

own_soonest : (t : ℕ) (b : Option ℕ) → IsInTime t b → sooner (Some t) b ≡ Some t
own_soonest t None h = refl
own_soonest t (Some u) h = ap Some (omega (arith, h))

later_soonest : (t : ℕ) (a : Option ℕ) → IsLaterDue t a → sooner a (Some t) ≡ Some t
later_soonest t None h = refl
later_soonest t (Some u) h = ap Some (omega (arith, h))

first_soonest : {D : Type 0} (n t : ℕ) (xs : List (Seated D)) → IsFirstDue xs (n, t) → soonest xs ≡ Some t
first_soonest n t [] h = absurd h
first_soonest zero t (x ∷ xs) h = ap (λ a. sooner a (soonest xs)) h.0 ∙ own_soonest t (soonest xs) (soonest_in_time t xs h.1)
first_soonest (suc n) t (x ∷ xs) h = ap (sooner (port_due x.port)) (first_soonest n t xs h.1) ∙ later_soonest t (port_due x.port) h.0

at_most_one : (t : ℕ) (due : Option ℕ) → due_at t due ≤ 1
at_most_one t None = omega arith
at_most_one t (Some u) = by_test (t == u)
  where
    by_test : (b : Bool) → (if b then 1 else 0) ≤ 1
    by_test true = omega arith
    by_test false = omega arith

at_most_all : {D : Type 0} (t : ℕ) (xs : List (Seated D)) → due_now t xs ≤ length xs
at_most_all t [] = omega arith
at_most_all t (x ∷ xs) = omega (arith, at_most_one t (port_due x.port), at_most_all t xs)

-- LESS IS LEFT after a reaction
pub less_left : {D : Type 0} (n t limit : ℕ) (xs ys : List (Seated D)) → IsFirstDue xs (n, t) → t < limit → length ys ≤ 4 → IsNearer t xs ys → left limit ys < left limit xs
less_left n t limit xs ys first before few near =
    subst (λ (k : ℕ). left limit ys < k) (sym (ap (left_from limit xs) (first_soonest n t xs first))) (by_soonest (soonest ys) (soonest_in_time t ys near.in_time))
  where
    by_soonest : (b : Option ℕ) → IsInTime t b → left_from limit ys b < 5 * (limit - t) + due_now t xs
    by_soonest None h = (let f = near.fewer in omega (arith, before, f))
    by_soonest (Some u) h = elim (cases_lt t u) [
      | inl later ↦ (let m = at_most_all u ys in omega (arith, before, later, m, few))
      | inr same ↦ (let e : u ≡ t = omega (arith, h, same) in let f = near.fewer in subst (λ (v : ℕ). 5 * (limit - v) + due_now v ys < 5 * (limit - t) + due_now t xs) (sym e) (omega (arith, f)))
    ]
