-- A file that is copied by its slot, step by step.
use Rattle.std.proofs.Common.{◌≡◌, ℕ, List, inl, inr, subst, sym, Bool}
use Rattle.std.specs.Prelude.{false, Result, Ok, Err, IfErr, IfOk}
use Rattle.std.specs.Result.{IsErrAnd}
use Rattle.cbm_image.specs.Images.{kind_of}
use Rattle.cbm_shell.specs.declared.fault.ShellFault.{ShellFault}
use Rattle.cbm_shell.specs.Images.{IsSoundImage}
use Rattle.cbm_shell.specs.Editing.{IsUneditedIn, HasNoSlotIn}
use Rattle.cbm_shell.specs.Art.{IsDressedIn}
use Rattle.cbm_slots.specs.InSlots.{copy_text, IsCommanded, IsDoubled, IsNotDoubled, IsCopyRefused, IsNotItself, IsNamedAs, IsNotNamedAs, IsCopyUnnamed, IsCopiedInSlot, IsNotCopiedInSlot}

-- the file has its own name again, beside its copy
pub beside : {A : Type 0} (items : A → List ℕ) (r : Result A ShellFault) (image hidden copied old new name : List ℕ) (slot blocks : ℕ) (locked : Bool) → IsDressedIn image slot old blocks false hidden
    → IsCommanded hidden (copy_text new old) copied → IfOk r (λ v. IsDressedIn copied slot name blocks locked (items v)) → IfOk r (λ v. IsDoubled image slot name blocks locked old new (items v))
beside items (Ok v) image hidden copied old new name slot blocks locked dressed done named = record { hidden = hidden; copied = copied; dressed = dressed; done = done; named = named }
beside items (Err f) image hidden copied old new name slot blocks locked dressed done named = tt

-- or it hasn't
pub not_itself : {A : Type 0} (r : Result A ShellFault) (image copied : List ℕ) (slot : ℕ) → ((f : ShellFault) → IsUneditedIn copied (HasNoSlotIn copied slot) f → IsNotItself image slot f)
    → IfErr r (IsUneditedIn copied (HasNoSlotIn copied slot)) → IfErr r (IsNotDoubled image slot)
not_itself (Ok v) image copied slot make h = tt
not_itself (Err f) image copied slot make h = inr (inr (make f h))

-- the drive doesn't copy it
pub copy_refused : {A : Type 0} (r : Result A ShellFault) (image : List ℕ) (slot : ℕ) (f : ShellFault) → IsErrAnd r (λ g. g ≡ f) → IsCopyRefused image slot f → IfErr r (IsNotDoubled image slot)
copy_refused (Ok v) image slot f is h = tt
copy_refused (Err g) image slot f is h = inr (inl (subst (λ x. IsCopyRefused image slot x) (sym is) h))

-- the file gets no copy
pub not_doubled : {A : Type 0} (r : Result A ShellFault) (image name : List ℕ) (slot : ℕ) (f : ShellFault) → IsErrAnd r (λ g. g ≡ f) → IsNotDoubled image slot f → IfErr r (IsNotCopiedInSlot image slot name)
not_doubled (Ok v) image name slot f is h = tt
not_doubled (Err g) image name slot f is h = inr (inr (inr (inl (subst (λ x. IsNotDoubled image slot x) (sym is) h))))

-- the copy has its name
pub copied_as : {A : Type 0} (items : A → List ℕ) (r : Result A ShellFault) (image both spare name : List ℕ) (slot : ℕ)
    → ((new : List ℕ) → IsNamedAs both spare name new → IsSoundImage (kind_of both) new → IsCopiedInSlot image slot name new)
    → IfOk r (λ v. IsNamedAs both spare name (items v)) → IfOk r (λ v. IsSoundImage (kind_of both) (items v))
    → IfOk r (λ v. IsCopiedInSlot image slot name (items v))
copied_as items (Ok v) image both spare name slot make named sound = make (items v) named sound
copied_as items (Err f) image both spare name slot make named sound = tt

-- or it hasn't
pub copy_unnamed : {A : Type 0} (r : Result A ShellFault) (image both spare name : List ℕ) (slot : ℕ) → ((f : ShellFault) → IsNotNamedAs both spare f → IsCopyUnnamed image slot f)
    → IfErr r (IsNotNamedAs both spare) → IfErr r (IsNotCopiedInSlot image slot name)
copy_unnamed (Ok v) image both spare name slot make h = tt
copy_unnamed (Err f) image both spare name slot make h = inr (inr (inr (inr (make f h))))
