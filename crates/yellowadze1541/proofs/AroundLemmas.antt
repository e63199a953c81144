-- What is made around odd entries, as C has it.
use Rattle.std.proofs.Common.{◌≡◌, ◌⊎◌, ℕ, List, Bool, true, false, refl, sym, subst, inl, inr}
use Rattle.std.specs.Prelude.{Result, Ok, Err, IfOk, IfErr, MatchResult}
use Rattle.cbm_machine.specs.Machines.{Machine}
use Rattle.cbm_image.specs.Images.{kind_of}
use Rattle.cbm_device.specs.declared.refusal.DeviceRefusal.{DeviceRefusal}
use Rattle.cbm_device.specs.declared.refusal.DeviceRefusal.TheVariants.{Memory, Invalid, NoRoom, Absent, NoImage, Unsound, NoDrive, Status}
use Rattle.cbm_shell.specs.declared.changing.DiskChange.{DiskChange}
use Rattle.cbm_shell.specs.declared.fault.ShellFault.{ShellFault}
use Rattle.cbm_shell.specs.Changing.{disk_after_change}
use Rattle.cbm_odd.specs.declared.odd.Odd.{Odd}
use Rattle.cbm_odd.specs.declared.away.Away.{Away}
use Rattle.cbm_odd.specs.Away.{IsAwayIn}
use Rattle.cbm_odd.specs.Back.{IsBackIn, IsNotBackIn}
use Rattle.cbm_odd.specs.Changes.{IsChangedAround, IsNotChangedAround}
use Rattle.yellowadze1541.specs.Slots.{IsSomeFault}
use Rattle.yellowadze1541.specs.Odd.{is_unsound, IsWholeOf, IsNotWholeOf, IsMadeAround, IsNotMadeAround}

-- ---- put back

pub whole_made : {A : Type 0} (items : A → List ℕ) (r : Result A ShellFault) (image changed : List ℕ) (away : Away) (odds : List Odd) → IsAwayIn image away → odds ≡ away.odds.items
    → IfOk r (λ v. IsBackIn (kind_of image) image odds changed (items v)) → IfOk r (λ v. IsWholeOf image changed (items v))
whole_made items (Ok v) image changed away odds put e back = (away, put, subst (λ o. IsBackIn (kind_of image) image o changed (items v)) e back)
whole_made items (Err f) image changed away odds put e back = tt

pub whole_failed : {A : Type 0} (r : Result A ShellFault) (image changed : List ℕ) (away : Away) (odds : List Odd) → IsAwayIn image away → odds ≡ away.odds.items
    → IfErr r (IsNotBackIn image odds changed) → IfErr r (IsNotWholeOf image changed)
whole_failed (Ok v) image changed away odds put e back = tt
whole_failed (Err f) image changed away odds put e back = inr (away, put, subst (λ o. IsNotBackIn image o changed f) e back)

-- ---- a change, or the same around odd entries

-- on a sound disk it is the change
pub kept_made : {A : Type 0} (r s : Result A DeviceRefusal) (P : A → Type 0) (Q : DeviceRefusal → Type 0) → (is_unsound r ≡ false → s ≡ r) → (Q Unsound → ⊥) → MatchResult r P Q → MatchResult s P Q
kept_made (Ok v) s P Q same never h = subst (λ x. MatchResult x P Q) (sym (same refl)) h
kept_made (Err Unsound) s P Q same never h = absurd (never h)
kept_made (Err Memory) s P Q same never h = subst (λ x. MatchResult x P Q) (sym (same refl)) h
kept_made (Err Invalid) s P Q same never h = subst (λ x. MatchResult x P Q) (sym (same refl)) h
kept_made (Err NoRoom) s P Q same never h = subst (λ x. MatchResult x P Q) (sym (same refl)) h
kept_made (Err Absent) s P Q same never h = subst (λ x. MatchResult x P Q) (sym (same refl)) h
kept_made (Err NoImage) s P Q same never h = subst (λ x. MatchResult x P Q) (sym (same refl)) h
kept_made (Err NoDrive) s P Q same never h = subst (λ x. MatchResult x P Q) (sym (same refl)) h
kept_made (Err (Status code)) s P Q same never h = subst (λ x. MatchResult x P Q) (sym (same refl)) h

-- around them
made_around : {A : Type 0} (items : A → List ℕ) (s : Result A DeviceRefusal) (image : List ℕ) (change : DiskChange) (after : Machine → Machine) (X : Type 0) (W : DeviceRefusal → Type 0)
    → ((m : Machine) → disk_after_change change m ≡ after m)
    → MatchResult s (λ v. IsChangedAround image change (items v)) (IsSomeFault (IsNotChangedAround image change))
    → MatchResult s (λ v. X ⊎ IsMadeAround image after (items v)) (λ r. W r ⊎ IsSomeFault (IsNotMadeAround image after) r)
made_around items (Ok v) image change after X W same h = inr (record { change = change; same = same; around = h })
made_around items (Err r) image change after X W same h = inr (h.0, record { change = change; same = same; fails = h.1 }, h.2)

by_same : {A : Type 0} (items : A → List ℕ) (s : Result A DeviceRefusal) (image : List ℕ) (after : Machine → Machine) (X : Type 0) (W : DeviceRefusal → Type 0)
    → MatchResult s (λ v. X) W → MatchResult s (λ v. X ⊎ IsMadeAround image after (items v)) (λ r. W r ⊎ IsSomeFault (IsNotMadeAround image after) r)
by_same items (Ok v) image after X W h = inl h
by_same items (Err r) image after X W h = inl h

by_either : {A : Type 0} (items : A → List ℕ) (r s : Result A DeviceRefusal) (b : Bool) (image : List ℕ) (change : DiskChange) (after : Machine → Machine) (X : Type 0) (W : DeviceRefusal → Type 0)
    → is_unsound r ≡ b → ((m : Machine) → disk_after_change change m ≡ after m) → (is_unsound r ≡ false → s ≡ r)
    → (is_unsound r ≡ true → MatchResult s (λ v. IsChangedAround image change (items v)) (IsSomeFault (IsNotChangedAround image change)))
    → MatchResult r (λ v. X) W → MatchResult s (λ v. X ⊎ IsMadeAround image after (items v)) (λ q. W q ⊎ IsSomeFault (IsNotMadeAround image after) q)
by_either items r s true image change after X W is means same around h = made_around items s image change after X W means (around is)
by_either items r s false image change after X W is means same around h = by_same items s image after X W (subst (λ x. MatchResult x (λ v. X) W) (sym (same is)) h)

-- of any disk
pub any_made : {A : Type 0} (items : A → List ℕ) (r s : Result A DeviceRefusal) (may : Bool) (image : List ℕ) (change : DiskChange) (after : Machine → Machine) (X : Type 0) (W : DeviceRefusal → Type 0)
    → ((m : Machine) → disk_after_change change m ≡ after m) → (is_unsound r ≡ false → s ≡ r) → (may ≡ false → s ≡ r)
    → (is_unsound r ≡ true → may ≡ true → MatchResult s (λ v. IsChangedAround image change (items v)) (IsSomeFault (IsNotChangedAround image change)))
    → MatchResult r (λ v. X) W → MatchResult s (λ v. X ⊎ IsMadeAround image after (items v)) (λ q. W q ⊎ IsSomeFault (IsNotMadeAround image after) q)
any_made items r s true image change after X W means same stays around h = by_either items r s (is_unsound r) image change after X W refl means same (λ is. around is refl) h
any_made items r s false image change after X W means same stays around h = by_same items s image after X W (subst (λ x. MatchResult x (λ v. X) W) (sym (stays refl)) h)

-- what doesn't go around them is the change
pub stays_made : {A : Type 0} (r s : Result A DeviceRefusal) (P : A → Type 0) (Q : DeviceRefusal → Type 0) → s ≡ r → MatchResult r P Q → MatchResult s P Q
stays_made r s P Q e h = subst (λ x. MatchResult x P Q) (sym e) h
