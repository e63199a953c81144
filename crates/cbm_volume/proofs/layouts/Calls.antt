-- The record of a call that writes, over results that aren't known.
use Rattle.std.proofs.Common.{Result, Ok, Err}
use Rattle.std.specs.Prelude.{OnOk, OnErr, IfOk, IfErr, MatchResult}

pub if_ok : {A E : Type 0} (r : Result A E) (P : Type 0) → OnOk r P → IfOk r (λ x. P)
if_ok (Ok x) P h = h
if_ok (Err e) P h = tt

pub on_ok : {A E : Type 0} (r : Result A E) (P : Type 0) → IfOk r (λ x. P) → OnOk r P
on_ok (Ok x) P h = h
on_ok (Err e) P h = tt

-- a fact of all results is one of each that is Ok
pub ok_any : {A E P : Type 0} (r : Result A E) → P → OnOk r P
ok_any (Ok x) p = p
ok_any (Err e) p = tt

-- what an Ok says leads to what else it says
pub ok_so : {A E P Q : Type 0} (r : Result A E) → (P → Q) → OnOk r P → OnOk r Q
ok_so (Ok x) so h = so h
ok_so (Err e) so h = tt

-- with two premises that come after the result
pub ok_given : {A E B : Type 0} (r : Result A E) (P Q R : B → Type 0) → ((x : B) → P x → Q x → OnOk r (R x)) → IfOk r (λ a. (x : B) → P x → Q x → R x)
ok_given (Ok a) P Q R h = h
ok_given (Err e) P Q R h = tt

pub match_of : {A E : Type 0} (r : Result A E) (P : A → Type 0) (Q : E → Type 0) → IfOk r P → IfErr r Q → MatchResult r P Q
match_of (Ok x) P Q h k = h
match_of (Err e) P Q h k = k

pub match_on : {A E : Type 0} (r : Result A E) (P Q : Type 0) → OnOk r P → OnErr r Q → MatchResult r (λ x. P) (λ e. Q)
match_on (Ok x) P Q h k = h
match_on (Err e) P Q h k = k
