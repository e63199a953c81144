-- A change around odd entries, of its three parts.
use Rattle.std.proofs.Common.{◌≡◌, List, ℕ, subst, inr}
use Rattle.std.specs.Prelude.{Result, Ok, Err, IfOk, IfErr}
use Rattle.cbm_image.specs.Images.{kind_of, OpensAgain, KeepsOtherBytes, ChangesSectors}
use Rattle.cbm_shell.specs.declared.changing.DiskChange.{DiskChange}
use Rattle.cbm_shell.specs.declared.fault.ShellFault.{ShellFault}
use Rattle.cbm_shell.specs.Images.{OfHeld, HasChanged}
use Rattle.cbm_shell.proofs.ImageLemmas.{again_then, bytes_then}
use Rattle.cbm_odd.specs.declared.odd.Odd.{Odd}
use Rattle.cbm_odd.specs.declared.away.Away.{Away}
use Rattle.cbm_odd.specs.Away.{IsAwayIn}
use Rattle.cbm_odd.specs.Back.{IsBackIn, IsNotBackIn}
use Rattle.cbm_odd.specs.Changes.{IsChangedAround, IsNotChangedAround}

pub changed_around : {A : Type 0} (items : A → List ℕ) (r : Result A ShellFault) (image : List ℕ) (change : DiskChange) (away : Away) (changed given : List ℕ) (odds : List Odd) (made : List ℕ)
    → IsAwayIn image away → given ≡ away.image.items → odds ≡ away.odds.items → made ≡ changed
    → OfHeld given (λ d. HasChanged given change d changed) → IfOk r (λ v. IsBackIn (kind_of image) image odds made (items v))
    → IfOk r (λ v. IsChangedAround image change (items v))
changed_around items (Err f) image change away changed given odds made put a b m h back = tt
changed_around items (Ok v) image change away changed given odds made put a b m h back = record {
  away = away;
  put = put;
  changed = changed;
  made = subst (λ xs. OfHeld xs (λ d. HasChanged xs change d changed)) a h;
  back = subst (λ xs. IsBackIn (kind_of image) image away.odds.items xs (items v)) m (subst (λ xs. IsBackIn (kind_of image) image xs made (items v)) b back);
}

pub not_changed : {A : Type 0} (r : Result A ShellFault) (image : List ℕ) (change : DiskChange) (away : Away) (changed given : List ℕ) (odds : List Odd) (made : List ℕ)
    → IsAwayIn image away → given ≡ away.image.items → odds ≡ away.odds.items → made ≡ changed
    → OfHeld given (λ d. HasChanged given change d changed) → IfErr r (IsNotBackIn image odds made)
    → IfErr r (IsNotChangedAround image change)
not_changed (Ok v) image change away changed given odds made put a b m h back = tt
not_changed (Err f) image change away changed given odds made put a b m h back =
    inr (
      away,
      put,
      inr (
        changed,
        subst (λ xs. OfHeld xs (λ d. HasChanged xs change d changed)) a h,
        subst (λ xs. IsNotBackIn image away.odds.items xs f) m (subst (λ xs. IsNotBackIn image xs made f) b back),
      ),
    )

-- what comes of the change around the odd entries opens again
pub again_around : {A : Type 0} (items : A → List ℕ) (r : Result A ShellFault) (image left changed : List ℕ) → ChangesSectors image left → OpensAgain left changed → IfOk r (λ v. ChangesSectors changed (items v))
    → IfOk r (λ v. OpensAgain image (items v))
again_around items (Ok v) image left changed away made back = again_then image changed (items v) (again_then image left changed away.again made) back.again
again_around items (Err f) image left changed away made back = tt

-- and has the bytes of the image outside the sectors
pub bytes_around : {A : Type 0} (items : A → List ℕ) (r : Result A ShellFault) (image left changed : List ℕ) → ChangesSectors image left → OpensAgain left changed → KeepsOtherBytes left changed → IfOk r (λ v. ChangesSectors changed (items v))
    → IfOk r (λ v. KeepsOtherBytes image (items v))
bytes_around items (Ok v) image left changed away made kept back =
    bytes_then image changed (items v) (again_then image left changed away.again made).same_kind (bytes_then image left changed away.again.same_kind away.bytes kept) back.bytes
bytes_around items (Err f) image left changed away made kept back = tt
