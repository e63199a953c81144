-- Changes of lines that C passes, one after another.
use Rattle.std.proofs.Common.{◌≡◌, List, [], ◌∷◌, ◌++◌, Option, Some, None, refl, sym, ap, ◌∙◌, append_assoc, append-nil}
use Rattle.std.specs.Prelude.{ℤ, Result, Ok, Err, IfOk, OnOk}
use Rattle.cbm_iec.specs.declared.lines.Change.{Change}
use Rattle.cbm_device.specs.declared.refusal.DeviceRefusal.{DeviceRefusal}
use Rattle.cbm_device.specs.Answers.{answer, fine}
use Rattle.cbm_device.proofs.Giving.{never_fine}
use Rattle.yellowadze1541.specs.Signals.{put_before, all_before}

-- none is known yet
pub none_known : (o : Option (List Change)) → all_before [] o ≡ o
none_known None = refl
none_known (Some ds) = refl

-- one more is known
pub one_known : (cs : List Change) (c : Change) (o : Option Change) (rest : Option (List Change)) → o ≡ Some c → all_before (cs ++ c ∷ []) rest ≡ all_before cs (put_before o rest)
one_known cs c o rest e = by_rest rest ∙ ap (λ (x : Option Change). all_before cs (put_before x rest)) (sym e)
  where
    by_rest : (rest : Option (List Change)) → all_before (cs ++ c ∷ []) rest ≡ all_before cs (put_before (Some c) rest)
    by_rest None = refl
    by_rest (Some ds) = ap (λ xs. Some xs) (append_assoc cs (c ∷ []) ds)

-- all are known
pub all_known : (cs : List Change) → all_before cs (Some []) ≡ Some cs
all_known cs = ap (λ xs. Some xs) (append-nil cs)

-- one is none
pub not_known : (cs : List Change) (o : Option Change) (rest : Option (List Change)) → o ≡ None → all_before cs (put_before o rest) ≡ None
not_known cs o rest e = ap (λ (x : Option Change). all_before cs (put_before x rest)) e

-- a fact of each value is one of this
pub of_ok : {A E : Type 0} (r : Result A E) (P Q : A → Type 0) → ((v : A) → P v → Q v) → IfOk r P → IfOk r Q
of_ok (Ok v) P Q f h = f v h
of_ok (Err e) P Q f h = tt

-- what a call ensures where all went well
pub when_fine : (done : Result (Unit {0}) DeviceRefusal) (n : ℤ) (P : Type 0) → n ≡ answer done → n ≡ fine → OnOk done P → P
when_fine (Ok v) n P e well h = h
when_fine (Err r) n P e well h = absurd (never_fine r (sym e ∙ well))
