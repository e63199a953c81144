-- Calls on the medium one after another, of which all but the last have succeeded, whatever sectors they change.
use Rattle.std.proofs.Common.{◌≡◌, ℕ, ap, sym, subst, ◌∙◌, arith, inl, Result, Ok, Err}
use Rattle.std.specs.Prelude.{OnOk, IfErr, Some, true}
use Rattle.cbm_medium.specs.declared.fault.Trouble.{Trouble}
use Rattle.cbm_medium.specs.Seen.{Seen, HasFailed, IsGrounded, ShowsGround, OnlyContent}
use Rattle.cbm_medium.proofs.Sequences.{IsGuarded, grounded_before, readable_after, readable_same}
use Rattle.cbm_channel.specs.ChannelCalls.{KeepsElse}

-- what a call keeps that changes at most the sectors of a disk
pub only_else : {disk : ℕ} {A : Type 0} (r : Result A Trouble) (old new : Seen) → OnlyContent disk r old new → KeepsElse r old new
only_else r old new h = record { tracks = h.tracks; protected = h.protected; id = h.id; outside = h.outside; counted = h.counted; once = h.once; uncounted = h.uncounted; own = h.own; guarded = h.guarded; shown = h.shown; readable = h.readable }

-- nothing was done
pub else_nothing : {A : Type 0} (r : Result A Trouble) (old new : Seen) → new ≡ old → IsGuarded r old → IfErr r (ShowsGround new) → KeepsElse r old new
else_nothing {A} r old new e guards shows =
    record { tracks = ap (λ (s : Seen). s.tracks) e; protected = ap (λ (s : Seen). s.protected) e; id = ap (λ (s : Seen). s.id) e; outside = ap (λ (s : Seen). s.outside) e; counted = omega (arith, same); once = omega (arith, same); uncounted = on_ok r; own = on_err r; guarded = guards; shown = on_shown r shows; readable = readable_same old.content new.content (ap (λ (s : Seen). s.content) e) }
  where
    same : new.failures ≡ old.failures
    same = ap (λ (s : Seen). s.failures) e

    on_ok : (x : Result A Trouble) → OnOk x (new.failures ≡ old.failures)
    on_ok (Ok a) = same
    on_ok (Err t) = tt

    on_err : (x : Result A Trouble) → IfErr x (λ t. HasFailed old new → new.refused ≡ Some t)
    on_err (Ok a) = tt
    on_err (Err t) = λ failed. absurd (omega (arith, same, failed))

    on_shown : (x : Result A Trouble) → IfErr x (ShowsGround new) → IfErr x (IsGrounded old new)
    on_shown (Ok a) h = tt
    on_shown (Err t) h = inl h

-- one call after another that succeeded
pub else_after : {A B : Type 0} (q : Result A Trouble) (a : A) (r : Result B Trouble) (old mid new : Seen) → q ≡ Ok a → KeepsElse q old mid → KeepsElse r mid new → KeepsElse r old new
else_after {A} {B} q a r old mid new e h k =
    record { tracks = k.tracks ∙ h.tracks; protected = k.protected ∙ h.protected; id = k.id ∙ h.id; outside = k.outside ∙ h.outside; counted = omega (arith, h.counted, k.counted); once = omega (arith, first, k.once); uncounted = on_ok r k.uncounted; own = on_err r k.own; guarded = guards r k.guarded; shown = grounds r k.shown; readable = readable_after old.content mid.content new.content h.readable k.readable }
  where
    first : mid.failures ≡ old.failures
    first = subst (λ (x : Result A Trouble). OnOk x (mid.failures ≡ old.failures)) e h.uncounted

    on_ok : (x : Result B Trouble) → OnOk x (new.failures ≡ mid.failures) → OnOk x (new.failures ≡ old.failures)
    on_ok (Ok b) f = f ∙ first
    on_ok (Err t) f = tt

    on_err : (x : Result B Trouble) → IfErr x (λ t. HasFailed mid new → new.refused ≡ Some t) → IfErr x (λ t. HasFailed old new → new.refused ≡ Some t)
    on_err (Ok b) f = tt
    on_err (Err t) f = λ failed. f (omega (arith, first, failed))

    guards : (x : Result B Trouble) → IsGuarded x mid → IsGuarded x old
    guards (Ok b) f = tt
    guards (Err t) f = λ is. sym h.protected ∙ f is

    grounds : (x : Result B Trouble) → IfErr x (IsGrounded mid new) → IfErr x (IsGrounded old new)
    grounds (Ok b) f = tt
    grounds (Err t) f = grounded_before old mid new t h.counted f

-- a call that only reads after one that succeeded
pub else_then : {A B : Type 0} (q : Result A Trouble) (r : Result B Trouble) (a : A) (old new : Seen) → q ≡ Ok a → KeepsElse q old new → IsGuarded r old → IfErr r (ShowsGround new) → KeepsElse r old new
else_then {A} {B} q r a old new e h guards shows = else_after q a r old new new e h (record { tracks = λ i. new.tracks; protected = λ i. new.protected; id = λ i. new.id; outside = λ i. new.outside; counted = omega arith; once = omega arith; uncounted = on_ok r; own = on_err r; guarded = still r guards; shown = on_shown r shows; readable = readable_same new.content new.content (λ i. new.content) })
  where
    first : new.failures ≡ old.failures
    first = subst (λ (x : Result A Trouble). OnOk x (new.failures ≡ old.failures)) e h.uncounted

    on_ok : (x : Result B Trouble) → OnOk x (new.failures ≡ new.failures)
    on_ok (Ok b) = λ i. new.failures
    on_ok (Err t) = tt

    on_err : (x : Result B Trouble) → IfErr x (λ t. HasFailed new new → new.refused ≡ Some t)
    on_err (Ok b) = tt
    on_err (Err t) = λ failed. absurd (omega (arith, failed))

    still : (x : Result B Trouble) → IsGuarded x old → IsGuarded x new
    still (Ok b) f = tt
    still (Err t) f = λ is. h.protected ∙ f is

    on_shown : (x : Result B Trouble) → IfErr x (ShowsGround new) → IfErr x (IsGrounded new new)
    on_shown (Ok b) f = tt
    on_shown (Err t) f = inl f

-- one call more, whatever it gave
pub else_more : {A : Type 0} (x : A) (old mid new : Seen) → KeepsElse {A = Unit {0}} (Ok tt) old mid → KeepsElse {A = A} (Ok x) mid new → KeepsElse {A = Unit {0}} (Ok tt) old new
else_more {A} x old mid new h k = else_then (Ok x) (Ok tt) x old new (λ i. Ok x) (else_after (Ok tt) tt (Ok x) old mid new (λ i. Ok tt) h k) tt tt

-- a call that hands the refusal of another one on
pub else_refused : {A B : Type 0} (r : Result A Trouble) (s : Result B Trouble) (t : Trouble) (old new : Seen) → r ≡ Err t → s ≡ Err t → KeepsElse r old new → KeepsElse s old new
else_refused {A} {B} r s t old new refuses hands h =
    record {
      tracks = h.tracks;
      protected = h.protected;
      id = h.id;
      outside = h.outside;
      counted = h.counted;
      once = h.once;
      uncounted = subst (λ (x : Result B Trouble). OnOk x (new.failures ≡ old.failures)) (sym hands) tt;
      own = handed (λ u. HasFailed old new → new.refused ≡ Some u) h.own;
      guarded = handed (λ u. u.code ≡ 26 → old.protected ≡ true) h.guarded;
      shown = handed (IsGrounded old new) h.shown;
      readable = h.readable;
    }
  where
    handed : (P : Trouble → Type 0) → IfErr r P → IfErr s P
    handed P f = subst (λ (x : Result B Trouble). IfErr x P) (sym hands) (subst (λ (x : Result A Trouble). IfErr x P) refuses f)
