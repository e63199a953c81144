-- What is left of a trace's lines as they are read.
use Rattle.std.proofs.Common.{◌≡◌, ℕ, List, ◌∷◌, Option, Some, None, refl, ap, ◌∙◌}
use Rattle.std.specs.Prelude.{⊤}
use Rattle.std.specs.Io.KnownBytes.{IsAtEnd}
use Rattle.cbm_iec.specs.declared.event.Event.{Event}
use Rattle.bus_traces.specs.Lines.{lines_of, TakesLine}
use Rattle.bus_traces.specs.Reading.{line_says, events_from, with_event, moment_after, EventRead}

-- what is left says what there was
abbrev pub SaysSame : ℕ → Option (List ℕ) → Option (List ℕ) → Type 0
SaysSame from None new = ⊤
SaysSame from (Some xs) None = ⊥
SaysSame from (Some xs) (Some ys) = events_from from (lines_of xs) ≡ events_from from (lines_of ys)

pub same-start : (from : ℕ) (old : Option (List ℕ)) → SaysSame from old old
same-start from None = tt
same-start from (Some xs) = refl

-- a line and what it says
front : (from : ℕ) (line : List ℕ) (lines : List (List ℕ)) (says : Option (Option Event)) → line_says from line ≡ says
    → events_from from (line ∷ lines) ≡ with_event says (events_from (moment_after from says) lines)
front from line lines says e = ap (λ (s : Option (Option Event)). with_event s (events_from (moment_after from s) lines)) e

pub same-skipped : (from : ℕ) (a b c : Option (List ℕ)) (line : List ℕ) → SaysSame from a b → TakesLine b c line → line_says from line ≡ Some None → SaysSame from a c
same-skipped from None b c line h k e = tt
same-skipped from (Some xs) None c line h k e = absurd h
same-skipped from (Some xs) (Some ys) None line h k e = absurd k
same-skipped from (Some xs) (Some ys) (Some zs) line h k e = h ∙ (ap (events_from from) k ∙ front from line (lines_of zs) (Some None) e)

pub read-event : (from : ℕ) (a b c : Option (List ℕ)) (line : List ℕ) (e : Event) → SaysSame from a b → TakesLine b c line → line_says from line ≡ Some (Some e) → EventRead a c from (Some e)
read-event from None b c line e h k s = tt
read-event from (Some xs) None c line e h k s = absurd h
read-event from (Some xs) (Some ys) None line e h k s = absurd k
read-event from (Some xs) (Some ys) (Some zs) line e h k s = h ∙ (ap (events_from from) k ∙ front from line (lines_of zs) (Some (Some e)) s)

pub read-end : (from : ℕ) (a b c : Option (List ℕ)) → SaysSame from a b → IsAtEnd b → EventRead a c from None
read-end from None b c h k = tt
read-end from (Some xs) None c h k = absurd h
read-end from (Some xs) (Some ys) c h k = h ∙ ap (λ t. events_from from (lines_of t)) k
