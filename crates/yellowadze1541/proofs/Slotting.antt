-- What a change of an image gives to C, or the fault that is told.
use Rattle.std.proofs.Common.{◌≡◌, ℕ, List, length, refl, ap, inl, inr, subst, sym}
use Rattle.std.specs.Prelude.{Option, Some, None, ℤ, Result, Ok, Err, IfErr, IfOk, MatchResult}
use Rattle.cbm_shell.specs.declared.fault.ShellFault.{ShellFault}
use Rattle.cbm_device.specs.Answers.{answer_number, refusal_of, AreGiven, GivesBytes}
use Rattle.yellowadze1541.specs.Slots.{IsSomeFault}

-- the new image is given, or the fault is told
pub gives_shell : {A : Type 0} (items : A → List ℕ) (Are : List ℕ → Type 0) (Why : ShellFault → Type 0) (made : Result A ShellFault) (n k : ℤ) (old new : List ℕ) (before needed : ℕ)
    → n ≡ k → IfOk made (λ v. Are (items v)) → IfErr made Why
    → MatchResult made (λ v. (needed ≡ length (items v)) × AreGiven k old new (items v)) (λ f. (k ≡ answer_number (refusal_of f)) × (new ≡ old) × (needed ≡ before))
    → GivesBytes n old new before needed Are (IsSomeFault Why)
gives_shell {A = A} items Are Why made n k old new before needed e ok err given =
    subst (λ m. GivesBytes m old new before needed Are (IsSomeFault Why)) (sym e) (by_result made ok err given)
  where
    by_result : (made : Result A ShellFault) → IfOk made (λ v. Are (items v)) → IfErr made Why
        → MatchResult made (λ v. (needed ≡ length (items v)) × AreGiven k old new (items v)) (λ f. (k ≡ answer_number (refusal_of f)) × (new ≡ old) × (needed ≡ before))
        → GivesBytes k old new before needed Are (IsSomeFault Why)
    by_result (Ok v) ok err given = inl (items v, ok, given.0, given.1)
    by_result (Err f) ok err given = inr (refusal_of f, (f, err, refl), given.0, given.1, given.2)

-- any fault may be told
pub any_fault : {A : Type 0} (made : Result A ShellFault) → IfErr made (λ _. Unit {0})
any_fault (Ok v) = tt
any_fault (Err f) = tt

-- a type is one type
pub same_some : {A : Type 0} (x y : A) → Some x ≡ Some y → x ≡ y
same_some x y e = ap (or_this x) e
  where
    or_this : {A : Type 0} → A → Option A → A
    or_this x None = x
    or_this x (Some v) = v
