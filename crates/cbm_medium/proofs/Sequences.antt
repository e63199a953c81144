-- Calls that change at most what the sectors hold, one after another: all but the last have succeeded.
use Rattle.std.proofs.Common.{◌≡◌, ◌≤◌, ℕ, List, ap, sym, subst, ◌∙◌, arith, inl, inr, Result, Ok, Err}
use Rattle.std.specs.Prelude.{OnOk, IfErr, Some, Bool, true, false, if◌then◌else◌}
use Rattle.cbm_medium.specs.declared.fault.Fault.{Fault}
use Rattle.cbm_medium.specs.declared.fault.Trouble.{Trouble}
use Rattle.cbm_medium.specs.Place.{Place, is_place}
use Rattle.cbm_medium.specs.Content.{Content, written}
use Rattle.cbm_medium.specs.Met.{place_of}
use Rattle.cbm_medium.specs.Seen.{Seen, HasFailed, IsRefused, ShowsGround, IsGrounded, KeepsBeyond, KeepsReadable, OnlyContent, trouble_of, with_content, write_refusal}
use Rattle.cbm_medium.proofs.Places.{written_elsewhere}

-- an answer of the code 26 says that the medium is protected
abbrev pub IsGuarded : {A : Type 0} → Result A Trouble → Seen → Type 0
IsGuarded r old = IfErr r (λ t. t.code ≡ 26 → old.protected ≡ true)

-- a trouble that the medium shows is grounded, and stays so for a call that begins earlier: failures never fall
pub shown_grounded : (old new : Seen) (t : Trouble) → ShowsGround new t → IsGrounded old new t
shown_grounded old new t h = inl h

pub grounded_before : (old mid new : Seen) (t : Trouble) → old.failures ≤ mid.failures → IsGrounded mid new t → IsGrounded old new t
grounded_before old mid new t more h = elim h [ inl s ↦ inl s | inr failed ↦ inr (omega (arith, more, failed)) ]

-- a write to this place that is refused
pub refused_grounded : (old new : Seen) (at : Place) (fault : Fault) (t : Trouble) → t ≡ trouble_of fault → fault.at ≡ at → IsRefused (write_refusal old at) fault old new → IsGrounded old new t
refused_grounded old new at fault t says stands h = elim h.cause [
  | inl why ↦ inl (inr (inr (
      ap (λ (s : Seen). write_refusal s (place_of t)) h.same
      ∙ ap (λ (p : Place). write_refusal old p) (ap place_of says ∙ stands) ∙ why ∙ ap (λ (u : Trouble). Some u.code) (sym says))))
  | inr failed ↦ inr failed
]

-- what a call that only reads shows
grounds_of : {A : Type 0} (r : Result A Trouble) (old new : Seen) → IfErr r (ShowsGround new) → IfErr r (IsGrounded old new)
grounds_of (Ok a) old new h = tt
grounds_of (Err t) old new h = shown_grounded old new t h

-- a write to a track of the disk keeps those beyond it, as one does that is refused, and one after another
pub beyond_written : (tracks : ℕ) (old new : Content) (at : Place) (bytes : List ℕ) → at.track ≤ tracks → new ≡ written old at bytes → KeepsBeyond tracks old new
beyond_written tracks old new at bytes few e = record { same = λ p far. ap (λ (c : Content). c p) e ∙ written_elsewhere old at p bytes (λ same. omega (arith, few, far, ap (λ (q : Place). q.track) same)) }

pub beyond_refused : (tracks : ℕ) (old new : Content) → new ≡ old → KeepsBeyond tracks old new
beyond_refused tracks old new e = record { same = λ p far. ap (λ (c : Content). c p) e }

pub beyond_after : (tracks : ℕ) (old mid new : Content) → KeepsBeyond tracks old mid → KeepsBeyond tracks mid new → KeepsBeyond tracks old new
beyond_after tracks old mid new h k = record { same = λ p far. k.same p far ∙ h.same p far }

-- no write makes a sector unreadable, nor one that is refused, nor one after another
pub readable_written : (old new : Content) (at : Place) (bytes : List ℕ) → new ≡ written old at bytes → KeepsReadable old new
readable_written old new at bytes e = record { faults = λ p code fault. before p code (is_place at p) (sym (ap (λ (c : Content). c p) e) ∙ fault) }
  where
    before : (p : Place) (code : ℕ) (here : Bool) → (if here then Ok bytes else old p) ≡ Err code → old p ≡ Err code
    before p code true fault = absurd (cc)
    before p code false fault = fault

pub readable_same : (old new : Content) → new ≡ old → KeepsReadable old new
readable_same old new e = record { faults = λ p code fault. sym (ap (λ (c : Content). c p) e) ∙ fault }

pub readable_after : (old mid new : Content) → KeepsReadable old mid → KeepsReadable mid new → KeepsReadable old new
readable_after old mid new h k = record { faults = λ p code fault. h.faults p code (k.faults p code fault) }

-- a disk of as many tracks or more
pub beyond_within : (few many : ℕ) (old new : Content) → few ≤ many → KeepsBeyond few old new → KeepsBeyond many old new
beyond_within few many old new more h = record { same = λ p far. h.same p (omega (arith, more, far)) }

pub only_within : {few : ℕ} {A : Type 0} (many : ℕ) (r : Result A Trouble) (old new : Seen) → few ≤ many → OnlyContent few r old new → OnlyContent many r old new
only_within {few} {A} many r old new more h =
    record { tracks = h.tracks; protected = h.protected; id = h.id; outside = h.outside; counted = h.counted; once = h.once; uncounted = h.uncounted; own = h.own; guarded = h.guarded; shown = h.shown; beyond = beyond_within few many old.content new.content more h.beyond; readable = h.readable }

-- nothing was done
pub only_nothing : {disk : ℕ} {A : Type 0} (r : Result A Trouble) (old new : Seen) → new ≡ old → IsGuarded r old → IfErr r (ShowsGround new) → OnlyContent disk r old new
only_nothing {disk} {A} r old new e guards shows =
    record { tracks = ap (λ (s : Seen). s.tracks) e; protected = ap (λ (s : Seen). s.protected) e; id = ap (λ (s : Seen). s.id) e; outside = ap (λ (s : Seen). s.outside) e; counted = omega (arith, same); once = omega (arith, same); uncounted = on_ok r; own = on_err r; guarded = guards; shown = grounds_of r old new shows; beyond = beyond_refused disk old.content new.content (ap (λ (s : Seen). s.content) e); readable = readable_same old.content new.content (ap (λ (s : Seen). s.content) e) }
  where
    same : new.failures ≡ old.failures
    same = ap (λ (s : Seen). s.failures) e

    on_ok : (x : Result A Trouble) → OnOk x (new.failures ≡ old.failures)
    on_ok (Ok a) = same
    on_ok (Err t) = tt

    on_err : (x : Result A Trouble) → IfErr x (λ t. HasFailed old new → new.refused ≡ Some t)
    on_err (Ok a) = tt
    on_err (Err t) = λ failed. absurd (omega (arith, same, failed))

-- no call was made yet
pub nothing_yet : {disk : ℕ} (s : Seen) → OnlyContent {A = Unit {0}} disk (Ok tt) s s
nothing_yet {disk} s = only_nothing (Ok tt) s s (λ i. s) tt tt

-- one call after another that succeeded
pub only_after : {disk : ℕ} {A B : Type 0} (q : Result A Trouble) (a : A) (r : Result B Trouble) (old mid new : Seen) → q ≡ Ok a → OnlyContent disk q old mid → OnlyContent disk r mid new → OnlyContent disk r old new
only_after {disk} {A} {B} q a r old mid new e h k =
    record { tracks = k.tracks ∙ h.tracks; protected = k.protected ∙ h.protected; id = k.id ∙ h.id; outside = k.outside ∙ h.outside; counted = omega (arith, h.counted, k.counted); once = omega (arith, first, k.once); uncounted = on_ok r k.uncounted; own = on_err r k.own; guarded = guards r k.guarded; shown = grounds r k.shown; beyond = beyond_after disk old.content mid.content new.content h.beyond k.beyond; readable = readable_after old.content mid.content new.content h.readable k.readable }
  where
    first : mid.failures ≡ old.failures
    first = subst (λ (x : Result A Trouble). OnOk x (mid.failures ≡ old.failures)) e h.uncounted

    on_ok : (x : Result B Trouble) → OnOk x (new.failures ≡ mid.failures) → OnOk x (new.failures ≡ old.failures)
    on_ok (Ok b) f = f ∙ first
    on_ok (Err t) f = tt

    on_err : (x : Result B Trouble) → IfErr x (λ t. HasFailed mid new → new.refused ≡ Some t) → IfErr x (λ t. HasFailed old new → new.refused ≡ Some t)
    on_err (Ok b) f = tt
    on_err (Err t) f = λ failed. f (omega (arith, first, failed))

    guards : (x : Result B Trouble) → IsGuarded x mid → IsGuarded x old
    guards (Ok b) f = tt
    guards (Err t) f = λ is. sym h.protected ∙ f is

    grounds : (x : Result B Trouble) → IfErr x (IsGrounded mid new) → IfErr x (IsGrounded old new)
    grounds (Ok b) f = tt
    grounds (Err t) f = grounded_before old mid new t h.counted f

-- a call that only reads after one that succeeded
pub only_then : {disk : ℕ} {A B : Type 0} (q : Result A Trouble) (r : Result B Trouble) (a : A) (old new : Seen) → q ≡ Ok a → OnlyContent disk q old new → IsGuarded r old → IfErr r (ShowsGround new) → OnlyContent disk r old new
only_then {disk} {A} {B} q r a old new e h guards shows =
    record { tracks = h.tracks; protected = h.protected; id = h.id; outside = h.outside; counted = h.counted; once = h.once; uncounted = on_ok r; own = on_err r; guarded = guards; shown = grounds_of r old new shows; beyond = h.beyond; readable = h.readable }
  where
    same : new.failures ≡ old.failures
    same = subst (λ (x : Result A Trouble). OnOk x (new.failures ≡ old.failures)) e h.uncounted

    on_ok : (x : Result B Trouble) → OnOk x (new.failures ≡ old.failures)
    on_ok (Ok b) = same
    on_ok (Err t) = tt

    on_err : (x : Result B Trouble) → IfErr x (λ t. HasFailed old new → new.refused ≡ Some t)
    on_err (Ok b) = tt
    on_err (Err t) = λ failed. absurd (omega (arith, same, failed))

-- one call more, whatever it gave
pub only_more : {disk : ℕ} {A : Type 0} (x : A) (old mid new : Seen) → OnlyContent {A = Unit {0}} disk (Ok tt) old mid → OnlyContent {A = A} disk (Ok x) mid new → OnlyContent {A = Unit {0}} disk (Ok tt) old new
only_more {disk} {A} x old mid new h k = only_then (Ok x) (Ok tt) x old new (λ i. Ok x) (only_after (Ok tt) tt (Ok x) old mid new (λ i. Ok tt) h k) tt tt

-- a call that hands the refusal of another one on
pub only_refused : {disk : ℕ} {A B : Type 0} (r : Result A Trouble) (s : Result B Trouble) (t : Trouble) (old new : Seen) → r ≡ Err t → s ≡ Err t → OnlyContent disk r old new → OnlyContent disk s old new
only_refused {disk} {A} {B} r s t old new refuses hands h =
    record {
      tracks = h.tracks;
      protected = h.protected;
      id = h.id;
      outside = h.outside;
      counted = h.counted;
      once = h.once;
      uncounted = subst (λ (x : Result B Trouble). OnOk x (new.failures ≡ old.failures)) (sym hands) tt;
      own = subst (λ (x : Result B Trouble). IfErr x (λ u. HasFailed old new → new.refused ≡ Some u)) (sym hands)
          (subst (λ (x : Result A Trouble). IfErr x (λ u. HasFailed old new → new.refused ≡ Some u)) refuses h.own);
      guarded = subst (λ (x : Result B Trouble). IsGuarded x old) (sym hands) (subst (λ (x : Result A Trouble). IsGuarded x old) refuses h.guarded);
      shown = subst (λ (x : Result B Trouble). IfErr x (IsGrounded old new)) (sym hands) (subst (λ (x : Result A Trouble). IfErr x (IsGrounded old new)) refuses h.shown);
      beyond = h.beyond;
      readable = h.readable;
    }

-- ---- a write of the medium's

-- done
pub write_only : {disk : ℕ} (old new : Seen) (at : Place) (bytes : List ℕ) → at.track ≤ disk → new ≡ with_content (written old.content at bytes) old → OnlyContent {A = Unit {0}} disk (Ok tt) old new
write_only {disk} old new at bytes few e = record {
  tracks = ap (λ (s : Seen). s.tracks) e;
  protected = ap (λ (s : Seen). s.protected) e;
  id = ap (λ (s : Seen). s.id) e;
  outside = ap (λ (s : Seen). s.outside) e;
  counted = omega (arith, same);
  once = omega (arith, same);
  uncounted = same;
  own = tt;
  guarded = tt;
  shown = tt;
  beyond = beyond_written disk old.content new.content at bytes few (ap (λ (s : Seen). s.content) e);
  readable = readable_written old.content new.content at bytes (ap (λ (s : Seen). s.content) e);
}
  where
    same : new.failures ≡ old.failures
    same = ap (λ (s : Seen). s.failures) e

-- or refused, and the call hands the fault on
pub write_refused : {disk : ℕ} {B : Type 0} (r : Result B Trouble) (t : Trouble) (fault : Fault) (at : Place) (old new : Seen) → r ≡ Err t → t ≡ trouble_of fault → fault.at ≡ at → IsRefused (write_refusal old at) fault old new → OnlyContent disk r old new
write_refused {disk} {B} r t fault at old new hands says stands h = record {
  tracks = ap (λ (s : Seen). s.tracks) h.same;
  protected = ap (λ (s : Seen). s.protected) h.same;
  id = ap (λ (s : Seen). s.id) h.same;
  outside = ap (λ (s : Seen). s.outside) h.same;
  counted = h.counted;
  once = h.once;
  uncounted = subst (λ (x : Result B Trouble). OnOk x (new.failures ≡ old.failures)) (sym hands) tt;
  own = subst (λ (x : Result B Trouble). IfErr x (λ u. HasFailed old new → new.refused ≡ Some u)) (sym hands) (λ failed. h.own failed ∙ ap Some (sym says));
  guarded = subst (λ (x : Result B Trouble). IsGuarded x old) (sym hands) (λ is. h.only_protected (ap (λ (u : Trouble). u.code) (sym says) ∙ is));
  shown = subst (λ (x : Result B Trouble). IfErr x (IsGrounded old new)) (sym hands) (refused_grounded old new at fault t says stands h);
  beyond = beyond_refused disk old.content new.content (ap (λ (s : Seen). s.content) h.same);
  readable = readable_same old.content new.content (ap (λ (s : Seen). s.content) h.same);
}
