-- A file that is deleted by its slot, step by step.
use Rattle.std.proofs.Common.{◌≡◌, ℕ, List, inl, inr, subst, sym, ◌<◌, ◌+◌, true, ◌≤◌, ◌⊎◌, arith}
use Rattle.std.specs.Prelude.{false, Result, Ok, Err, IfErr, IfOk}
use Rattle.std.proofs.lemmas.Bool.{cases_lt}
use Rattle.std.specs.Result.{IsErrAnd}
use Rattle.cbm_image.specs.Images.{kind_of}
use Rattle.cbm_shell.specs.declared.fault.ShellFault.{ShellFault}
use Rattle.cbm_shell.specs.Images.{IsSoundImage}
use Rattle.cbm_shell.specs.Editing.{IsUneditedIn, HasNoSlotIn}
use Rattle.cbm_shell.specs.Art.{IsDressedIn}
use Rattle.cbm_slots.specs.InSlots.{IsDeletedInSlot, has_name, spare_of, IsNotDeletedInSlot, IsNotScratched, IsNotNamed}

-- the entry has its name again
pub named_again : {A : Type 0} (items : A → List ℕ) (r : Result A ShellFault) (image scratched name : List ℕ) (slot blocks : ℕ)
    → ((new : List ℕ) → IsDressedIn scratched slot name blocks false new → IsSoundImage (kind_of scratched) new → IsDeletedInSlot image slot new)
    → IfOk r (λ v. IsDressedIn scratched slot name blocks false (items v)) → IfOk r (λ v. IsSoundImage (kind_of scratched) (items v))
    → IfOk r (λ v. IsDeletedInSlot image slot (items v))
named_again items (Ok v) image scratched name slot blocks make dressed sound = make (items v) dressed sound
named_again items (Err f) image scratched name slot blocks make dressed sound = tt

-- or it hasn't
pub not_named : {A : Type 0} (r : Result A ShellFault) (image scratched : List ℕ) (slot : ℕ) → ((f : ShellFault) → IsUneditedIn scratched (HasNoSlotIn scratched slot) f → IsNotNamed image slot f)
    → IfErr r (IsUneditedIn scratched (HasNoSlotIn scratched slot)) → IfErr r (IsNotDeletedInSlot image slot)
not_named (Ok v) image scratched slot make h = tt
not_named (Err f) image scratched slot make h = inr (inr (inr (inr (inr (make f h)))))

-- the drive doesn't scratch it
pub not_scratched : {A : Type 0} (r : Result A ShellFault) (image : List ℕ) (slot : ℕ) (f : ShellFault) → IsErrAnd r (λ g. g ≡ f) → IsNotScratched image slot f → IfErr r (IsNotDeletedInSlot image slot)
not_scratched (Ok v) image slot f is h = tt
not_scratched (Err g) image slot f is h = inr (inr (inr (inr (inl (subst (λ x. IsNotScratched image slot x) (sym is) h)))))

-- one spare name more is taken
pub one_more : (entries : List (List ℕ)) (k n : ℕ) → ((m : ℕ) → m < k → has_name (spare_of m) entries ≡ true) → has_name (spare_of k) entries ≡ true → n < k + 1 → has_name (spare_of n) entries ≡ true
one_more entries k n before here small = by_case (cases_lt n k)
  where
    by_case : (n < k) ⊎ (k ≤ n) → has_name (spare_of n) entries ≡ true
    by_case (inl less) = before n less
    by_case (inr more) = let same : k ≡ n = omega (arith, more, small) in subst (λ m. has_name (spare_of m) entries ≡ true) same here
