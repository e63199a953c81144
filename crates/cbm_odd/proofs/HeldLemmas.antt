-- Sectors that are held, looked at one after another.
use Rattle.std.proofs.Common.{◌≡◌, ℕ, List, ◌∷◌, Bool, Some, None, sym, ap, subst, ◌∙◌, inl, inr}
use Rattle.std.specs.Prelude.{◌&&◌, is_none}
use Rattle.cbm_medium.specs.Place.{Place}
use Rattle.cbm_medium.specs.Content.{Cell}
use Rattle.cbm_volume.specs.check.Claims.{fault_at}
use Rattle.cbm_shell.specs.declared.fault.ShellFault.{ShellFault}
use Rattle.cbm_shell.specs.declared.fault.ShellFault.TheVariants as fault
use Rattle.cbm_odd.specs.Held.{spoilt_at, are_kept, IsSpoiltAmong}

pub kept_more : (head : Cell) (used : Place → Bool) (p : Place) (rest more : List Place) (whole : Bool) → rest ≡ p ∷ more → are_kept head used rest ≡ whole → spoilt_at head used p ≡ None
    → are_kept head used more ≡ whole
kept_more head used p rest more whole begins before none =
    sym (ap (λ o. is_none o && are_kept head used more) none) ∙ sym (ap (λ l. are_kept head used l) begins) ∙ before

pub spoilt_more : (head : Cell) (used : Place → Bool) (p : Place) (rest more : List Place) (whole : ShellFault → Type 0) → rest ≡ p ∷ more → ((f : ShellFault) → IsSpoiltAmong head used rest f → whole f)
    → (f : ShellFault) → IsSpoiltAmong head used more f → whole f
spoilt_more head used p rest more whole begins before f h = before f (subst (λ l. IsSpoiltAmong head used l f) (sym begins) (inr h))

pub spoilt_here : (head : Cell) (used : Place → Bool) (p : Place) (rest more : List Place) (whole : ShellFault → Type 0) (n : ℕ) (f : ShellFault) → rest ≡ p ∷ more
    → ((g : ShellFault) → IsSpoiltAmong head used rest g → whole g) → spoilt_at head used p ≡ Some n → f ≡ fault.Unsound (fault_at n p) → whole f
spoilt_here head used p rest more whole n f begins before here is = before f (subst (λ l. IsSpoiltAmong head used l f) (sym begins) (inl (n, here, is)))
