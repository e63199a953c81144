-- What is due after a change and after a reaction: nothing before that moment, so that reactions come to an end.
use Rattle.std.specs.Prelude.{ℕ, ◌*◌, ◌+◌, ◌-◌, min, [], ◌∷◌, ◌≡◌, ◌<◌, ◌⊎◌, ◌==◌, Option, Some, None, List, if◌then◌else◌}
use Rattle.std.specs.List.{AllZip}
use Rattle.cbm_iec.specs.Ports.{port_due}
use Rattle.cbm_session.specs.Playing.{IsLaterDue}
use Rattle.cbm_drive.specs.Seats.{Seated, AreInTime, total}

-- What was due is still due, or something is due later than this moment, or nothing.
abbrev pub IsKeptOrLater : ℕ → Option ℕ → Option ℕ → Type 0
IsKeptOrLater t was now = (now ≡ was) ⊎ IsLaterDue t now

-- the same of drives, one by one
abbrev pub AreKept : {D : Type 0} → ℕ → List (Seated D) → List (Seated D) → Type 0
AreKept t xs ys = AllZip (λ x y. IsKeptOrLater t (port_due x.port) (port_due y.port)) xs ys

-- a reaction that is due at this moment, or none
abbrev pub due_at : ℕ → Option ℕ → ℕ
due_at t None = 0
due_at t (Some u) = if t == u then 1 else 0

-- how many reactions are due at this moment
abbrev pub due_now : {D : Type 0} → ℕ → List (Seated D) → ℕ
due_now t xs = total (λ x. due_at t (port_due x.port)) xs

-- the sooner of two moments, where there are such
abbrev pub sooner : Option ℕ → Option ℕ → Option ℕ
sooner None b = b
sooner (Some t) None = Some t
sooner (Some t) (Some u) = Some (min t u)

-- when the next reaction of these drives is due
abbrev pub soonest : {D : Type 0} → List (Seated D) → Option ℕ
soonest [] = None
soonest (x ∷ xs) = sooner (port_due x.port) (soonest xs)

-- How long reactions may go on before a limit, where the next one is due then: there are four drives at most, so each moment has at most four
-- reactions.
abbrev pub left_from : {D : Type 0} → ℕ → List (Seated D) → Option ℕ → ℕ
left_from limit xs None = 0
left_from limit xs (Some t) = 5 * (limit - t) + due_now t xs

-- how long reactions of these drives may go on before a limit
abbrev pub left : {D : Type 0} → ℕ → List (Seated D) → ℕ
left limit xs = left_from limit xs (soonest xs)

-- ONE REACTION LESS is due at this moment, and none before it.
pub record IsNearer {D : Type 0} (t : ℕ) (old new : List (Seated D)) : Type 0 where
  pub in_time : AreInTime t new
  pub fewer : due_now t new < due_now t old
