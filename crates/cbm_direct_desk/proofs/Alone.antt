-- Of one drive that went on, the number that lasts says what is known of the disk that was put in.
use Rattle.std.proofs.Common.{◌≡◌, ℕ, List, [], ◌∷◌, refl, ap, subst, arith, ◌∙◌}
use Rattle.cbm_medium.specs.Seen.{Seen}
use Rattle.cbm_drive.specs.Seats.{Seated, numbers}
use Rattle.cbm_direct.specs.declared.vouch.Vouch.{Vouch}
use Rattle.cbm_direct.specs.declared.vouch.Vouch.TheVariants.{Sound, Unsound, Unknown}
use Rattle.cbm_direct.specs.Vouching.{IsSoundSince, vouch_number}
use Rattle.cbm_direct_desk.specs.DirectDesks.{DirectAddressed}

-- one drive is still one, with the same number
pub one_left : {D : Type 0} (f : D → ℕ) (ys : List (Seated D)) (a : ℕ) → numbers f ys ≡ a ∷ [] → (y : Seated D) × (ys ≡ y ∷ []) × (f y.machine ≡ a)
one_left f [] a e = absurd cc
one_left f (y ∷ []) a e = (y, refl, (cc))
one_left f (y ∷ z ∷ ys) a e = absurd cc

-- the number says all of it
pub same_vouch : (v w : Vouch) → vouch_number v ≡ vouch_number w → v ≡ w
same_vouch Unsound Unsound e = refl
same_vouch Unsound Unknown e = absurd (omega (arith, e))
same_vouch Unsound (Sound n) e = absurd (omega (arith, e))
same_vouch Unknown Unsound e = absurd (omega (arith, e))
same_vouch Unknown Unknown e = refl
same_vouch Unknown (Sound n) e = absurd (omega (arith, e))
same_vouch (Sound n) Unsound e = absurd (omega (arith, e))
same_vouch (Sound n) Unknown e = absurd (omega (arith, e))
same_vouch (Sound m) (Sound n) e = ap Sound (omega (arith, e))

-- so what is true of its disk afterwards is what was to be true before
pub lasts : {M : Type 0} (seen : M → Seen) (xs ys : List (Seated (DirectAddressed M))) (out : M)
    → numbers (λ (b : DirectAddressed M). vouch_number b.dos.vouched.vouch) ys ≡ numbers (λ (b : DirectAddressed M). vouch_number b.dos.vouched.vouch) xs
    → ((y : Seated (DirectAddressed M)) → ys ≡ y ∷ [] → IsSoundSince y.machine.dos.vouched.vouch (seen out))
    → (x : Seated (DirectAddressed M)) → xs ≡ x ∷ [] → IsSoundSince x.machine.dos.vouched.vouch (seen out)
lasts seen xs ys out same sound x one =
    let f : DirectAddressed _ → ℕ = λ b. vouch_number b.dos.vouched.vouch in
    let y = one_left f ys (f x.machine) (same ∙ ap (numbers f) one) in
    subst (λ v. IsSoundSince v (seen out)) (same_vouch y.0.machine.dos.vouched.vouch x.machine.dos.vouched.vouch y.2) (sound y.0 y.1)
