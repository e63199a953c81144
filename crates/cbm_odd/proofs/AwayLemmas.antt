-- Odd entries put away and back, one after another.
use Rattle.std.proofs.Common.{◌≡◌, ℕ, suc, ◌+◌, ◌<◌, List, [], ◌∷◌, length, drop, drop-cons, get_or, sym, subst, refl, ap, ◌∙◌, arith, inl, inr}
use Rattle.cbm_medium.specs.Content.{Content}
use Rattle.cbm_directory.specs.Entries.{EntersLed}
use Rattle.cbm_odd.specs.declared.odd.Odd.{Odd}
use Rattle.cbm_odd.specs.Away.{away_entry, ArePutAway}
use Rattle.cbm_directory.specs.Slots.{directory_of}
use Rattle.cbm_shell.specs.declared.fault.ShellFault.{ShellFault}
use Rattle.cbm_odd.specs.Back.{IsPutBack, ArePutBack, IsMissing, IsNotBackFrom}

pub one_off : {A : Type 0} (xs : List A) (x : A) (i : ℕ) → x ≡ get_or xs i x → i < length xs → drop i xs ≡ x ∷ drop (i + 1) xs
one_off xs x i e h =
    let next : suc i ≡ i + 1 = omega arith in
    drop-cons xs i x h ∙ ap (λ y. y ∷ drop (suc i) xs) (sym e) ∙ ap (λ k. x ∷ drop k xs) next

-- wherever those that are left lead from now, all of them lead from the beginning
abbrev pub Putting : ℕ → List Odd → Content → List Odd → Content → Type 0
Putting tracks all old left now = (new : Content) → ArePutAway tracks left now new → ArePutAway tracks all old new

pub putting-start : (tracks : ℕ) (all left : List Odd) (old : Content) → all ≡ left → Putting tracks all old left old
putting-start tracks all left old e = λ new h. subst (λ l. ArePutAway tracks l old new) (sym e) h

pub putting-on : (tracks : ℕ) (all left rest : List Odd) (odd : Odd) (old now next : Content) → Putting tracks all old left now → left ≡ odd ∷ rest
    → EntersLed tracks now next odd.slot (away_entry odd.entry) → Putting tracks all old rest next
putting-on tracks all left rest odd old now next w e h = λ new r. w new (subst (λ l. ArePutAway tracks l now new) (sym e) (next, h, r))

pub putting-end : (tracks : ℕ) (all left : List Odd) (old now : Content) → Putting tracks all old left now → left ≡ [] → ArePutAway tracks all old now
putting-end tracks all left old now w e = w now (subst (λ l. ArePutAway tracks l now now) (sym e) refl)

-- the same on the way back
abbrev pub Backing : ℕ → List Odd → Content → List Odd → Content → Type 0
Backing tracks all old left now = (new : Content) → ArePutBack tracks left now new → ArePutBack tracks all old new

pub backing-start : (tracks : ℕ) (all left : List Odd) (old : Content) → all ≡ left → Backing tracks all old left old
backing-start tracks all left old e = λ new h. subst (λ l. ArePutBack tracks l old new) (sym e) h

pub backing-on : (tracks : ℕ) (all left rest : List Odd) (odd : Odd) (old now next : Content) → Backing tracks all old left now → left ≡ odd ∷ rest
    → IsPutBack tracks odd now next → Backing tracks all old rest next
backing-on tracks all left rest odd old now next w e h = λ new r. w new (subst (λ l. ArePutBack tracks l now new) (sym e) (next, h, r))

pub backing-end : (tracks : ℕ) (all left : List Odd) (old now : Content) → Backing tracks all old left now → left ≡ [] → ArePutBack tracks all old now
backing-end tracks all left old now w e = w now (subst (λ l. ArePutBack tracks l now now) (sym e) refl)

-- what fails of those that are left
pub failing-on : (tracks : ℕ) (left rest : List Odd) (odd : Odd) (now next : Content) (f : ShellFault) → left ≡ odd ∷ rest → IsPutBack tracks odd now next → IsNotBackFrom tracks rest next f
    → IsNotBackFrom tracks left now f
failing-on tracks left rest odd now next f e h fails = subst (λ l. IsNotBackFrom tracks l now f) (sym e) (inr (next, h, fails))

pub failing-here : (tracks : ℕ) (left rest : List Odd) (odd : Odd) (now : Content) (f : ShellFault) → left ≡ odd ∷ rest → IsMissing (directory_of tracks now) odd f → IsNotBackFrom tracks left now f
failing-here tracks left rest odd now f e h = subst (λ l. IsNotBackFrom tracks l now f) (sym e) (inl h)
