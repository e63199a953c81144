-- What two calls on the medium keep, one after the other.
use Rattle.std.proofs.Common.{◌≡◌, ℕ, Result, Ok, Err, ap, sym, ◌∙◌}
use Rattle.std.specs.Prelude.{IsErrAnd}
use Rattle.std.proofs.lemmas.Result.{err_from_is_err_and}
use Rattle.cbm_medium.specs.declared.fault.Trouble.{Trouble}
use Rattle.cbm_medium.specs.Seen.{Seen, OnlyContent}
use Rattle.cbm_medium.proofs.Sequences.{only_after, only_refused, only_then}

-- the first succeeded
pub after_done : {disk : ℕ} {A B : Type 0} {q : Result A Trouble} {a : A} {r : Result B Trouble} {old mid new : Seen} → q ≡ Ok a → OnlyContent disk q old mid → OnlyContent disk r mid new → OnlyContent disk r old new
after_done {q = q} {a = a} {r = r} {old = old} {mid = mid} {new = new} did h k = only_after q a r old mid new did h k

-- both succeeded
pub both_done : {disk : ℕ} {A B C : Type 0} (x : C) {q : Result A Trouble} {a : A} {r : Result B Trouble} {b : B} {old mid new : Seen} → q ≡ Ok a → r ≡ Ok b → OnlyContent disk q old mid → OnlyContent disk r mid new → OnlyContent disk (Ok x) old new
both_done x {q} {a} {r} {b} {old} {mid} {new} did was h k = only_then r (Ok x) b old new was (only_after q a r old mid new did h k) tt tt

-- the second was refused, and its trouble is handed on
pub second_refused : {disk : ℕ} {A B C : Type 0} {q : Result A Trouble} {a : A} {r : Result B Trouble} {t : Trouble} (s : Result C Trouble) {old mid new : Seen} → q ≡ Ok a → r ≡ Err t → IsErrAnd s (λ u. u ≡ t) → OnlyContent disk q old mid → OnlyContent disk r mid new → OnlyContent disk s old new
second_refused {q = q} {a = a} {r = r} {t = t} s {old} {mid} {new} did was on h k =
    let p = err_from_is_err_and s on in
    only_refused r s p.0 old new (was ∙ ap Err (sym p.2)) p.1 (only_after q a r old mid new did h k)
