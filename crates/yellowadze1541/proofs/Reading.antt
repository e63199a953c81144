-- Bytes that came from a channel, as C has them.
use Rattle.std.proofs.Common.{◌≡◌, ◌∙◌, ◌⊎◌, ◌++◌, ℕ, List, Bool, ap, drop, length, inl, inr, sym, subst}
use Rattle.std.specs.Prelude.{ℤ, Result, Ok, Err, IfErr, IfOk, OnOk, MatchResult}
use Rattle.cbm_device.specs.Answers.{fine, answer_number}
use Rattle.cbm_device.specs.declared.calls.Came.{Came}
use Rattle.cbm_device.specs.declared.refusal.DeviceRefusal.{DeviceRefusal}
use Rattle.cbm_device.specs.declared.refusal.DeviceRefusal.TheVariants.{Invalid}
use Rattle.yellowadze1541.specs.Channels.{AreRead}
use Rattle.yellowadze1541.specs.Looks.{flag}

-- what a drive of either kind ensures is what C is told
pub reads_by : (Callable Uncallable Same : Type 0) (Talked : List ℕ → Bool → Type 0) (done : Result Came DeviceRefusal) (n : ℤ) (out made : List ℕ) (before got unmarked last : ℕ)
    → MatchResult done (λ came. (n ≡ fine) × (got ≡ came.count) × (last ≡ flag came.marked)) (λ why. (n ≡ answer_number why) × (got ≡ before) × (last ≡ unmarked))
    → OnOk done Callable
    → IfOk done (λ came. (bytes : List ℕ) × (length bytes ≡ came.count) × (made ≡ bytes ++ drop came.count out) × Talked bytes came.marked)
    → IfErr done (λ r. (r ≡ Invalid) × Uncallable × Same × (made ≡ out))
    → ((n ≡ fine) × Callable × ((bytes : List ℕ) × (marked : Bool) × AreRead bytes marked out made got last × Talked bytes marked))
    ⊎ ((n ≡ answer_number Invalid) × Uncallable × Same × (made ≡ out) × (got ≡ before) × (last ≡ unmarked))
reads_by Callable Uncallable Same Talked (Ok came) n out made before got unmarked last told callable talked refused =
    let read : AreRead talked.0 came.marked out made got last = record {
      count = told.1 ∙ sym talked.1;
      mark = told.2;
      given = subst (λ (k : ℕ). made ≡ talked.0 ++ drop k out) (sym talked.1) talked.2;
    } in
    inl (told.0, callable, (talked.0, came.marked, read, talked.3))
reads_by Callable Uncallable Same Talked (Err r) n out made before got unmarked last told callable talked refused =
    inr (told.0 ∙ ap answer_number refused.0, refused.1, refused.2, refused.3, told.1, told.2)
