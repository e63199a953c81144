-- Where no machine of a bus failed, none of its parts did.
use Rattle.std.proofs.Common.{ℕ, ◌≡◌, ◌≤◌, List, [], ◌∷◌, ◌++◌, refl, sym, ◌∙◌, arith}
use Rattle.std.proofs.lemmas.List.{map-append}
use Rattle.cbm_drive.specs.Seats.{Seated, failed, Unfailed, AreCarried}
use Rattle.cbm_drive.proofs.Reacted.{total_parts}

module _ {D : Type 0} (failures : D → ℕ) (front : List (Seated D)) (x : Seated D) (back front2 : List (Seated D)) (x2 : Seated D) (back2 : List (Seated D)) where
  -- the drives before one, that drive, and those after it
  pub unfailed_each : Unfailed failures front2 front → failures x.machine ≤ failures x2.machine → Unfailed failures back2 back → Unfailed failures (front ++ x ∷ back) (front2 ++ x2 ∷ back2)
      → Unfailed failures front front2 × (failures x2.machine ≤ failures x.machine) × Unfailed failures back back2
  unfailed_each a b e u =
      let was = total_parts (λ (y : Seated D). failures y.machine) front x back in
      let now = total_parts (λ (y : Seated D). failures y.machine) front2 x2 back2 in
      (omega (arith, a, b, e, u, was, now), omega (arith, a, b, e, u, was, now), omega (arith, a, b, e, u, was, now))

  -- each was counted, so all were
  pub counted_all : Unfailed failures front2 front → failures x.machine ≤ failures x2.machine → Unfailed failures back2 back → Unfailed failures (front2 ++ x2 ∷ back2) (front ++ x ∷ back)
  counted_all a b e =
      let was = total_parts (λ (y : Seated D). failures y.machine) front x back in
      let now = total_parts (λ (y : Seated D). failures y.machine) front2 x2 back2 in
      omega (arith, a, b, e, was, now)

-- the drives before one, that drive, and those after it went on, so all did
pub carried_all : {D : Type 0} {number failures : D → ℕ} (front : List (Seated D)) (x : Seated D) (back front2 : List (Seated D)) (x2 : Seated D) (back2 : List (Seated D)) → AreCarried number failures front front2
    → number x2.machine ≡ number x.machine → failures x.machine ≤ failures x2.machine → AreCarried number failures back back2 → AreCarried number failures (front ++ x ∷ back) (front2 ++ x2 ∷ back2)
carried_all {number = number} {failures = failures} front x back front2 x2 back2 a same counted b = record {
  lasting = map-append (λ (y : Seated _). number y.machine) front2 (x2 ∷ back2) ∙ (λ i. a.lasting i ++ same i ∷ b.lasting i) ∙ sym (map-append (λ (y : Seated _). number y.machine) front (x ∷ back));
  counted = counted_all failures front x back front2 x2 back2 a.counted counted b.counted;
}

-- two calls one after the other
pub carried_on : {D : Type 0} {lasting failures : D → ℕ} {xs ys zs : List (Seated D)} → AreCarried lasting failures xs ys → AreCarried lasting failures ys zs → AreCarried lasting failures xs zs
carried_on h k = record { lasting = k.lasting ∙ h.lasting; counted = (let a = h.counted in let b = k.counted in omega (arith, a, b)) }

-- nothing was done
pub carried_none : {D : Type 0} {lasting failures : D → ℕ} (xs : List (Seated D)) → AreCarried lasting failures xs xs
carried_none xs = record { lasting = refl; counted = omega arith }

-- machines that never fail didn't
module _ {D : Type 0} (failures : D → ℕ) (never : (x : D) → failures x ≡ 0) where
  none_of : (xs : List (Seated D)) → failed failures xs ≡ 0
  none_of [] = refl
  none_of (x ∷ xs) = omega (arith, never x.machine, none_of xs)

  pub never_failed : (xs ys : List (Seated D)) → Unfailed failures xs ys
  never_failed xs ys = omega (arith, none_of xs, none_of ys)
