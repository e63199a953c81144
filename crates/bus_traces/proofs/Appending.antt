-- Text that is written piece by piece.
use Rattle.std.proofs.Common.{◌≡◌, ℕ, List, [], ◌∷◌, ◌++◌, Option, Some, None, refl, ap, sym, ◌∙◌, append_assoc, append-nil}
use Rattle.std.specs.Io.KnownBytes.{Appends, Keeps}
use Rattle.cbm_iec.specs.declared.event.Event.{Event}
use Rattle.bus_traces.specs.Events.{event_text, trace_text}

pub appends-nothing : (o : Option (List ℕ)) → Appends o o []
appends-nothing None = tt
appends-nothing (Some xs) = sym (append-nil xs)

pub appends-more : (a b c : Option (List ℕ)) (xs ys : List ℕ) → Appends a b xs → Appends b c ys → Appends a c (xs ++ ys)
appends-more None b c xs ys h k = tt
appends-more (Some l) None c xs ys h k = absurd h
appends-more (Some l) (Some m) None xs ys h k = absurd k
appends-more (Some l) (Some m) (Some n) xs ys h k = k ∙ (ap (λ t. t ++ ys) h ∙ append_assoc l xs ys)

pub appends-kept : (a b c : Option (List ℕ)) (xs : List ℕ) → Appends a b xs → Keeps b c → Appends a c xs
appends-kept None b c xs h k = tt
appends-kept (Some l) None c xs h k = absurd h
appends-kept (Some l) (Some m) None xs h k = absurd k
appends-kept (Some l) (Some m) (Some n) xs h k = k ∙ h

-- ---- events and their text

pub text_on : (xs ys : List Event) → trace_text (xs ++ ys) ≡ trace_text xs ++ trace_text ys
text_on [] ys = refl
text_on (x ∷ xs) ys = ap (λ t. event_text x ++ t) (text_on xs ys) ∙ sym (append_assoc (event_text x) (trace_text xs) (trace_text ys))

pub text_one : (e : Event) → trace_text (e ∷ []) ≡ event_text e
text_one e = append-nil (event_text e)
