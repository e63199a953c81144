-- One reaction less is due after a reaction.
use Rattle.std.proofs.Common.{◌≡◌, ℕ, zero, suc, length, ◌+◌, ◌<◌, ◌≤◌, Bool, List, [], ◌∷◌, ◌++◌, Option, Some, None, refl, sym, ap, subst, ◌∙◌, inl, inr, arith}
use Rattle.std.proofs.lemmas.Bool.{eq-eqb, ne_eqb}
use Rattle.std.specs.Prelude.{if◌then◌else◌}
use Rattle.cbm_iec.specs.Ports.{port_due}
use Rattle.cbm_session.specs.Following.{IsInTime}
use Rattle.cbm_session.specs.Playing.{IsLaterDue}
use Rattle.cbm_drive.specs.Progress.{IsKeptOrLater, AreKept, IsNearer, due_at, due_now}
use Rattle.cbm_drive.specs.Seats.{Seated, AreInTime, IsFirstDue, AreIdle}
use Rattle.cbm_drive.proofs.Firsts.{first_in_time}

not_now : (t u : ℕ) → t < u → due_at t (Some u) ≡ 0
not_now t u l = ap one (ne_eqb t u (λ e. absurd (omega (arith, l, e))))
  where
    one : Bool → ℕ
    one b = if b then 1 else 0

later_none : (t : ℕ) (due : Option ℕ) → IsLaterDue t due → due_at t due ≡ 0
later_none t None l = refl
later_none t (Some u) l = not_now t u l

later_is_in_time : (t : ℕ) (due : Option ℕ) → IsLaterDue t due → IsInTime t due
later_is_in_time t None l = tt
later_is_in_time t (Some u) l = omega (arith, l)

kept_in_time : (t : ℕ) (was now : Option ℕ) → IsKeptOrLater t was now → IsInTime t was → IsInTime t now
kept_in_time t was now (inl e) h = subst (IsInTime t) (sym e) h
kept_in_time t was now (inr l) h = later_is_in_time t now l

kept_no_more : (t : ℕ) (was now : Option ℕ) → IsKeptOrLater t was now → due_at t now ≤ due_at t was
kept_no_more t was now (inl e) = (let z : due_at t now ≡ due_at t was = ap (due_at t) e in omega (arith, z))
kept_no_more t was now (inr l) = (let z : due_at t now ≡ 0 = later_none t now l in omega (arith, z))

all_in_time : {D : Type 0} (t : ℕ) (xs ys : List (Seated D)) → AreKept t xs ys → AreInTime t xs → AreInTime t ys
all_in_time t [] [] k h = tt
all_in_time t [] (y ∷ ys) k h = absurd k
all_in_time t (x ∷ xs) [] k h = absurd k
all_in_time t (x ∷ xs) (y ∷ ys) k h = (kept_in_time t (port_due x.port) (port_due y.port) k.0 h.0, all_in_time t xs ys k.1 h.1)

no_more : {D : Type 0} (t : ℕ) (xs ys : List (Seated D)) → AreKept t xs ys → due_now t ys ≤ due_now t xs
no_more t [] [] k = omega arith
no_more t [] (y ∷ ys) k = absurd k
no_more t (x ∷ xs) [] k = absurd k
no_more t (x ∷ xs) (y ∷ ys) k = (let a = kept_no_more t (port_due x.port) (port_due y.port) k.0 in let b = no_more t xs ys k.1 in omega (arith, a, b))

own_now : (t : ℕ) (due : Option ℕ) → due ≡ Some t → due_at t due ≡ 1
own_now t due e = ap (due_at t) e ∙ ap one (eq-eqb t t refl)
  where
    one : Bool → ℕ
    one b = if b then 1 else 0

joined_in_time : {D : Type 0} (t : ℕ) (xs : List (Seated D)) (x : Seated D) (ys : List (Seated D)) → AreInTime t xs → IsInTime t (port_due x.port) → AreInTime t ys → AreInTime t (xs ++ x ∷ ys)
joined_in_time t [] x ys a h b = (h, b)
joined_in_time t (y ∷ xs) x ys a h b = (a.0, joined_in_time t xs x ys a.1 h b)

front_of : {D : Type 0} (t : ℕ) (xs : List (Seated D)) (x : Seated D) (ys : List (Seated D)) → AreInTime t (xs ++ x ∷ ys) → AreInTime t xs
front_of t [] x ys h = tt
front_of t (y ∷ xs) x ys h = (h.0, front_of t xs x ys h.1)

back_of : {D : Type 0} (t : ℕ) (xs : List (Seated D)) (x : Seated D) (ys : List (Seated D)) → AreInTime t (xs ++ x ∷ ys) → AreInTime t ys
back_of t [] x ys h = h.1
back_of t (y ∷ xs) x ys h = back_of t xs x ys h.1

joined_now : {D : Type 0} (t : ℕ) (xs : List (Seated D)) (x : Seated D) (ys : List (Seated D)) → due_now t (xs ++ x ∷ ys) ≡ due_now t xs + (due_at t (port_due x.port) + due_now t ys)
joined_now t [] x ys = omega arith
joined_now t (y ∷ xs) x ys = omega (arith, joined_now t xs x ys)

due_there : {D : Type 0} (n t : ℕ) (xs : List (Seated D)) (x : Seated D) (ys : List (Seated D)) → length xs ≡ n → IsFirstDue (xs ++ x ∷ ys) (n, t) → port_due x.port ≡ Some t
due_there zero t [] x ys e h = h.0
due_there (suc n) t [] x ys e h = absurd (omega (arith, e))
due_there zero t (y ∷ xs) x ys e h = absurd (omega (arith, e))
due_there (suc n) t (y ∷ xs) x ys e h = due_there n t xs x ys (omega (arith, e)) h.1

-- what the reacting drive and the others owe after it
pub nearer : {D : Type 0} (n t : ℕ) (front : List (Seated D)) (x x' : Seated D) (back front' back' : List (Seated D)) → length front ≡ n → IsFirstDue (front ++ x ∷ back) (n, t)
    → (port_due x.port ≡ Some t → IsLaterDue t (port_due x'.port)) → AreKept t front front' → AreKept t back back' → IsNearer t (front ++ x ∷ back) (front' ++ x' ∷ back')
nearer n t front x x' back front' back' len first later kf kb =
    let due = due_there n t front x back len first in
    let after = later due in
    let in_time = first_in_time t t n (front ++ x ∷ back) (omega arith) first in
    let was = joined_now t front x back in
    let now = joined_now t front' x' back' in
    let one = own_now t (port_due x.port) due in
    let none = later_none t (port_due x'.port) after in
    let f = no_more t front front' kf in
    let b = no_more t back back' kb in
    record {
      in_time = joined_in_time t front' x' back' (all_in_time t front front' kf (front_of t front x back in_time)) (later_is_in_time t (port_due x'.port) after) (all_in_time t back back' kb (back_of t front x back in_time));
      fewer = omega (arith, was, now, one, none, f, b);
    }

-- where nothing is due nothing is due first
pub idle_first : {D : Type 0} (n t : ℕ) (xs : List (Seated D)) → AreIdle xs → IsFirstDue xs (n, t) → ⊥
idle_first n t [] a h = h
idle_first zero t (x ∷ xs) a h = (let z : None ≡ Some t = sym a.0 ∙ h.0 in cc)
idle_first (suc n) t (x ∷ xs) a h = idle_first n t xs a.1 h.1

-- each as it was
pub kept_same : {D : Type 0} (t : ℕ) (xs : List (Seated D)) → AreKept t xs xs
kept_same t [] = tt
kept_same t (x ∷ xs) = (inl refl, kept_same t xs)

kept_on : (t : ℕ) (a b c : Option ℕ) → IsKeptOrLater t a b → IsKeptOrLater t b c → IsKeptOrLater t a c
kept_on t a b c h (inr l) = inr l
kept_on t a b c (inl e) (inl f) = inl (f ∙ e)
kept_on t a b c (inr l) (inl f) = inr (subst (IsLaterDue t) (sym f) l)

pub kept_then : {D : Type 0} (t : ℕ) (xs ys zs : List (Seated D)) → AreKept t xs ys → AreKept t ys zs → AreKept t xs zs
kept_then t [] [] [] h k = tt
kept_then t [] [] (z ∷ zs) h k = absurd k
kept_then t [] (y ∷ ys) zs h k = absurd h
kept_then t (x ∷ xs) [] zs h k = absurd h
kept_then t (x ∷ xs) (y ∷ ys) [] h k = absurd k
kept_then t (x ∷ xs) (y ∷ ys) (z ∷ zs) h k = (kept_on t (port_due x.port) (port_due y.port) (port_due z.port) h.0 k.0, kept_then t xs ys zs h.1 k.1)
