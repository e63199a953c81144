-- Numbers that last say what is known of each disk.
use Rattle.std.proofs.Common.{◌≡◌, ℕ, List, [], ◌∷◌, refl, ap, ◌∙◌}
use Rattle.cbm_direct.specs.declared.vouch.Vouch.{Vouch}
use Rattle.cbm_direct.specs.Vouching.{vouch_number}
use Rattle.cbm_direct_desk.specs.DirectDesks.{DirectAddressed}
use Rattle.cbm_direct_desk.proofs.Alone.{same_vouch}
use Rattle.cbm_drive.specs.Seats.{Seated, numbers}
use Rattle.cbm_direct_bus.specs.DirectBuses.{vouches_of}

-- the numbers are the same, and so is what is known
pub same_vouches : {M : Type 0} (xs ys : List (Seated (DirectAddressed M))) → numbers (λ (d : DirectAddressed M). vouch_number d.dos.vouched.vouch) ys ≡ numbers (λ (d : DirectAddressed M). vouch_number d.dos.vouched.vouch) xs
    → vouches_of ys ≡ vouches_of xs
same_vouches [] [] e = refl
same_vouches [] (y ∷ ys) e = absurd cc
same_vouches (x ∷ xs) [] e = absurd cc
same_vouches {M} (x ∷ xs) (y ∷ ys) e =
    let n : DirectAddressed M → ℕ = λ d. vouch_number d.dos.vouched.vouch in
    let one : n y.machine ≡ n x.machine = cc in
    let rest : numbers n ys ≡ numbers n xs = cc in
    ap (λ (v : Vouch). v ∷ vouches_of ys) (same_vouch y.machine.dos.vouched.vouch x.machine.dos.vouched.vouch one)
    ∙ ap (λ (vs : List Vouch). x.machine.dos.vouched.vouch ∷ vs) (same_vouches xs ys rest)

-- two drives are still two, and the same is known of their disks
pub two_left : {M : Type 0} (ys : List (Seated (DirectAddressed M))) (a b : Vouch) → vouches_of ys ≡ a ∷ b ∷ []
    → (x : Seated (DirectAddressed M)) × (y : Seated (DirectAddressed M)) × (ys ≡ x ∷ y ∷ []) × (x.machine.dos.vouched.vouch ≡ a) × (y.machine.dos.vouched.vouch ≡ b)
two_left [] a b e = absurd cc
two_left (x ∷ []) a b e = absurd cc
two_left (x ∷ y ∷ []) a b e = (x, y, refl, (cc), (cc))
two_left (x ∷ y ∷ z ∷ ys) a b e = absurd cc
