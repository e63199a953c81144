-- Which reaction is due first.
use Rattle.std.proofs.Common.{◌≡◌, ℕ, zero, suc, ◌≤◌, ◌<◌, List, [], ◌∷◌, ◌++◌, length, MatchOption, Option, Some, None, sym, refl, ap, subst, ◌∙◌, arith}
use Rattle.cbm_iec.specs.Ports.{port_due}
use Rattle.cbm_session.specs.Following.{IsInTime}
use Rattle.cbm_session.specs.Playing.{IsLaterDue}
use Rattle.cbm_drive.specs.Seats.{Seated, IsFirstDue, AreInTime, AreIdle, AreLater}

in_time : (t u : ℕ) (due : Option ℕ) → t ≤ u → IsInTime u due → IsInTime t due
in_time t u None l h = tt
in_time t u (Some v) l h = omega (arith, l, h)

later_in_time : (t u : ℕ) (due : Option ℕ) → t ≤ u → IsLaterDue u due → IsInTime t due
later_in_time t u None l h = tt
later_in_time t u (Some v) l h = omega (arith, l, h)

all_in_time : {D : Type 0} (t u : ℕ) (xs : List (Seated D)) → t ≤ u → AreInTime u xs → AreInTime t xs
all_in_time t u [] l h = tt
all_in_time t u (x ∷ xs) l h = (in_time t u (port_due x.port) l h.0, all_in_time t u xs l h.1)

pub idle_in_time : {D : Type 0} (t : ℕ) (xs : List (Seated D)) → AreIdle xs → AreInTime t xs
idle_in_time t [] h = tt
idle_in_time t (x ∷ xs) h = (subst (IsInTime t) (sym h.0) tt, idle_in_time t xs h.1)

-- What is due first is due no sooner than this.
pub first_in_time : {D : Type 0} (t u n : ℕ) (xs : List (Seated D)) → t ≤ u → IsFirstDue xs (n, u) → AreInTime t xs
first_in_time t u n [] l h = absurd h
first_in_time t u zero (x ∷ xs) l h = (subst (IsInTime t) (sym h.0) l, all_in_time t u xs l h.1)
first_in_time t u (suc n) (x ∷ xs) l h = (later_in_time t u (port_due x.port) l h.0, first_in_time t u n xs l h.1)

-- The first drive's reaction comes before that of those after it.
pub sooner : {D : Type 0} (t u n : ℕ) (x : Seated D) (xs : List (Seated D)) → Some t ≡ port_due x.port → t ≤ u → IsFirstDue xs (n, u) → IsFirstDue (x ∷ xs) (0, t)
sooner t u n x xs due l h = (sym due, first_in_time t u n xs l h)

-- Where nothing else is due this drive's reaction is due first.
pub alone : {D : Type 0} (t : ℕ) (x : Seated D) (xs : List (Seated D)) → Some t ≡ port_due x.port → AreIdle xs → IsFirstDue (x ∷ xs) (0, t)
alone t x xs due h = (sym due, idle_in_time t xs h)

not_before : {D : Type 0} (t u k : ℕ) (xs : List (Seated D)) → AreInTime t xs → IsFirstDue xs (k, u) → t ≤ u
not_before t u k [] a h = absurd h
not_before t u zero (x ∷ xs) a h = subst (IsInTime t) h.0 a.0
not_before t u (suc k) (x ∷ xs) a h = not_before t u k xs a.1 h.1

apart : (t u : ℕ) (due : Option ℕ) → due ≡ Some t → IsLaterDue u due → t ≤ u → ⊥
apart t u due e l h = (let later : u < t = subst (IsLaterDue u) e l in omega (arith, later, h))

pub some_same : (t u : ℕ) (due : Option ℕ) → due ≡ Some t → due ≡ Some u → t ≡ u
some_same t u due e f = (let z : Some t ≡ Some u = sym e ∙ f in cc)

-- Only one drive's reaction is due first.
pub one_first : {D : Type 0} (n t k u : ℕ) (xs : List (Seated D)) → IsFirstDue xs (n, t) → IsFirstDue xs (k, u) → (n ≡ k) × (t ≡ u)
one_first n t k u [] h g = absurd h
one_first zero t zero u (x ∷ xs) h g = (refl, some_same t u (port_due x.port) h.0 g.0)
one_first zero t (suc k) u (x ∷ xs) h g = absurd (apart t u (port_due x.port) h.0 g.0 (not_before t u k xs h.1 g.1))
one_first (suc n) t zero u (x ∷ xs) h g = absurd (apart u t (port_due x.port) g.0 h.0 (not_before u t n xs g.1 h.1))
one_first (suc n) t (suc k) u (x ∷ xs) h g = (let e = one_first n t k u xs h.1 g.1 in (ap suc e.0, e.1))

-- ---- one drive more, after those that were looked at

later_than : (t u : ℕ) (due : Option ℕ) → u < t → IsInTime t due → IsLaterDue u due
later_than t u None l h = tt
later_than t u (Some v) l h = omega (arith, l, h)

later_still : (t u : ℕ) (due : Option ℕ) → u < t → IsLaterDue t due → IsLaterDue u due
later_still t u None l h = tt
later_still t u (Some v) l h = omega (arith, l, h)

all_later : {D : Type 0} (t u : ℕ) (xs : List (Seated D)) → u < t → AreInTime t xs → AreLater u xs
all_later t u [] l h = tt
all_later t u (x ∷ xs) l h = (later_than t u (port_due x.port) l h.0, all_later t u xs l h.1)

-- before what is due first nothing is
before_first : {D : Type 0} (n t u : ℕ) (xs : List (Seated D)) → u < t → IsFirstDue xs (n, t) → AreLater u xs
before_first n t u [] l h = absurd h
before_first zero t u (x ∷ xs) l h = (subst (IsLaterDue u) (sym h.0) l, all_later t u xs l h.1)
before_first (suc n) t u (x ∷ xs) l h = (later_still t u (port_due x.port) l h.0, before_first n t u xs l h.1)

idle_later : {D : Type 0} (u : ℕ) (xs : List (Seated D)) → AreIdle xs → AreLater u xs
idle_later u [] h = tt
idle_later u (x ∷ xs) h = (subst (IsLaterDue u) (sym h.0) tt, idle_later u xs h.1)

-- it is due first
last_first : {D : Type 0} (u : ℕ) (xs : List (Seated D)) (x : Seated D) → AreLater u xs → port_due x.port ≡ Some u → IsFirstDue (xs ++ x ∷ []) (length xs, u)
last_first u [] x l due = (due, tt)
last_first u (y ∷ ys) x l due = (l.0, last_first u ys x l.1 due)

more_idle : {D : Type 0} (xs : List (Seated D)) (x : Seated D) → AreIdle xs → port_due x.port ≡ None → AreIdle (xs ++ x ∷ [])
more_idle [] x h due = (due, tt)
more_idle (y ∷ ys) x h due = (h.0, more_idle ys x h.1 due)

more_in_time : {D : Type 0} (t : ℕ) (xs : List (Seated D)) (x : Seated D) → AreInTime t xs → IsInTime t (port_due x.port) → AreInTime t (xs ++ x ∷ [])
more_in_time t [] x h l = (l, tt)
more_in_time t (y ∷ ys) x h l = (h.0, more_in_time t ys x h.1 l)

-- it isn't
still_first : {D : Type 0} (n t : ℕ) (xs : List (Seated D)) (x : Seated D) → IsFirstDue xs (n, t) → IsInTime t (port_due x.port) → IsFirstDue (xs ++ x ∷ []) (n, t)
still_first n t [] x h l = absurd h
still_first zero t (y ∷ ys) x h l = (h.0, more_in_time t ys x h.1 l)
still_first (suc n) t (y ∷ ys) x h l = (h.0, still_first n t ys x h.1 l)

-- THE FIRST OF THEM ALL, in the words of the call
abbrev pub FirstOf : {D : Type 0} → List (Seated D) → Option (ℕ × ℕ) → Type 0
FirstOf xs first = MatchOption first (AreIdle xs) (IsFirstDue xs)

-- nothing is due to it
pub first_stays : {D : Type 0} (xs : List (Seated D)) (x : Seated D) (first : Option (ℕ × ℕ)) → None ≡ port_due x.port → FirstOf xs first → FirstOf (xs ++ x ∷ []) first
first_stays xs x None due h = more_idle xs x h (sym due)
first_stays xs x (Some f) due h = still_first f.0 f.1 xs x h (subst (IsInTime f.1) due tt)

-- what is due to it isn't sooner
pub first_before : {D : Type 0} (xs : List (Seated D)) (x : Seated D) (n t u : ℕ) → Some u ≡ port_due x.port → t ≤ u → IsFirstDue xs (n, t) → IsFirstDue (xs ++ x ∷ []) (n, t)
first_before xs x n t u due l h = still_first n t xs x h (subst (IsInTime t) due l)

-- what is due to it is sooner than all else, if anything is due
pub first_then : {D : Type 0} (xs : List (Seated D)) (x : Seated D) (first : Option (ℕ × ℕ)) (place u : ℕ) → Some u ≡ port_due x.port → place ≡ length xs → ((n t : ℕ) → first ≡ Some (n, t) → u < t) → FirstOf xs first → IsFirstDue (xs ++ x ∷ []) (place, u)
first_then xs x first place u due at sooner h = subst (λ (m : ℕ). IsFirstDue (xs ++ x ∷ []) (m, u)) (sym at) (last_first u xs x (by_first first sooner h) (sym due))
  where
    by_first : (o : Option (ℕ × ℕ)) → ((n t : ℕ) → o ≡ Some (n, t) → u < t) → FirstOf xs o → AreLater u xs
    by_first None s k = idle_later u xs k
    by_first (Some f) s k = before_first f.0 f.1 u xs (s f.0 f.1 refl) k

pub sooner_than : (n t m u v : ℕ) → ◌≡◌ {A = Option (ℕ × ℕ)} (Some (n, t)) (Some (m, u)) → v < u → v < t
sooner_than n t m u v e l = (let same : t ≡ u = ap (λ (o : Option (ℕ × ℕ)). elim o [ None ↦ t | Some p ↦ p.1 ]) e in omega (arith, same, l))
