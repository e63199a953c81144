-- The events of a session lie between its first step and its last.
use Rattle.std.proofs.Common.{◌≡◌, ℕ, ◌≤◌, List, [], ◌∷◌, ◌++◌, Bool, Option, Some, sym, ap, ◌∙◌, subst, arith}
use Rattle.std.proofs.lemmas.List.Elements.{All-nil, All-cons}
use Rattle.std.specs.List.{All}
use Rattle.cbm_iec.specs.Ports.{resting, port_due}
use Rattle.cbm_iec.specs.declared.machine.Act.{Act}
use Rattle.cbm_iec.specs.declared.event.Event.{Event}
use Rattle.cbm_iec.specs.declared.event.Who.TheVariants.{Host}
use Rattle.cbm_iec.specs.declared.event.Who.{Who}
use Rattle.cbm_iec.specs.declared.party.Party.{Party}
use Rattle.cbm_session.specs.Laws.{AllAfter, GoesOn}
use Rattle.cbm_session.specs.Playing.{Station, Plays, stays, change, reaction, at_rest, host_event}
use Rattle.cbm_session.specs.Steps.{Step, moment_of, events_of}
use Rattle.cbm_host.proofs.Finished.{all_upto}

-- at or after a moment, and at or before another
abbrev pub IsIn : ℕ → ℕ → Event → Type 0
IsIn start end e = (start ≤ e.change.moment) × (e.change.moment ≤ end)

-- each of these steps is between them, where the last is not later
all_between : (start end : ℕ) (ys front : List Step) (last : Step) → GoesOn ys → ys ≡ front ++ last ∷ [] → AllAfter Host start ys → moment_of last ≤ end → All (IsIn start end) (events_of ys)
all_between start end [] front last g e from over = All-nil (IsIn start end)
all_between start end (y ∷ ys) [] last g e from over =
    let same : y ≡ last = cc in
    let none : ys ≡ [] = cc in
    All-cons (IsIn start end) y.event (events_of ys) (from.0, subst (λ (s : Step). moment_of s ≤ end) (sym same) over) (subst (λ (l : List Step). All (IsIn start end) (events_of l)) (sym none) (All-nil (IsIn start end)))
all_between start end (y ∷ ys) (f ∷ front) last g e from over =
    let tail : ys ≡ front ++ last ∷ [] = cc in
    let upto = all_upto y.event.who (moment_of y) front last (subst (AllAfter y.event.who (moment_of y)) tail g.0) in
    All-cons (IsIn start end) y.event (events_of ys) (from.0, omega (arith, upto, over)) (all_between start end ys front last g.1 tail from.1 over)

module _ (M : Type 0) (step : M → Act → M) (says : M → Option (ℕ × Bool)) where
  -- from rest the host's change comes first
  pub host_first : (ms : ℕ → M) (b : Party) {n n2 : ℕ} {ss2 : List (Station M)} {es : List Event} → Plays M step says n (at_rest M step says ms (b ∷ [])) es n2 ss2 → (x : Event) (xs : List Event) → es ≡ x ∷ xs → x.who ≡ Host
  host_first ms b (stays bytes none from same) x xs e = let no : [] ≡ x ∷ xs = sym none ∙ e in absurd cc
  host_first ms b (change c more bytes later time is plays) x xs e = let both : host_event c ∷ more ≡ x ∷ xs = sym is ∙ e in let same : host_event c ≡ x = cc in ap (λ (y : Event). y.who) (sym same)
  host_first ms b (reaction t before o afterwards more bytes parts first is plays) x xs e = absurd (by before parts)
    where
      one : Station M
      one = record { port = resting b; rest = Rattle.cbm_session.specs.Playing.nobody; machine = ms b.device }

      by : (before : List (Station M)) → at_rest M step says ms (b ∷ []) ≡ before ++ o ∷ afterwards → ⊥
      by [] p = let same : one ≡ o = cc in let due : port_due (resting b) ≡ Some t = ap (λ (s : Station M). port_due s.port) same ∙ first.due in cc
      by (s ∷ []) p = let no : [] ≡ o ∷ afterwards = cc in cc
      by (s ∷ s2 ∷ before) p = let no : [] ≡ s2 ∷ (before ++ o ∷ afterwards) = cc in cc

-- the first step is the host's, at the start: then all are between it and the end
pub between : (start end : ℕ) (s : Step) (ys front : List Step) (last : Step) → GoesOn (s ∷ ys) → s ∷ ys ≡ front ++ last ∷ [] → s.event.who ≡ Host → moment_of s ≡ start → moment_of last ≤ end → All (IsIn start end) (events_of (s ∷ ys))
between start end s ys front last g e host at over =
    all_between start end (s ∷ ys) front last g e
    (let now = at in omega (arith, now), subst (λ (m : ℕ). AllAfter Host m ys) at (subst (λ (w : Who). AllAfter w (moment_of s) ys) host g.0)) over
