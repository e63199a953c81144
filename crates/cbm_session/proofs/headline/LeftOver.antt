-- What the host has still to do in a piece that a machine answers is not before t, where the session's changes of the host that are left aren't: whole or cut.
use Rattle.std.proofs.Common.{◌≡◌, ℕ, ◌≤◌, ◌⊎◌, inl, inr, true, List, [], ◌∷◌, ◌++◌, ap, sym, ◌∙◌, subst, refl}
use Rattle.cbm_iec.specs.declared.event.Event.{Event}
use Rattle.cbm_iec.specs.declared.event.Who.TheVariants.{Host, Drive}
use Rattle.cbm_iec.specs.declared.event.Who.{Who}
use Rattle.cbm_session.proofs.headline.TalkParts.{HostEvents}
use Rattle.cbm_session.proofs.headline.TalkSwap.{Apart, Twin}
use Rattle.cbm_session.specs.Steps.{Step, moment_of, events_of}
use Rattle.cbm_session.specs.Timing.{is_host}

-- the host's next change in the first list is that of the second, or not before t
abbrev pub HostSafe : ℕ → List Step → List Event → Type 0
HostSafe t [] bs = Unit {0}
HostSafe t (y ∷ ys) [] = is_host y.event.who ≡ true → t ≤ moment_of y
HostSafe t (y ∷ ys) (b ∷ bs) = ((y.event ≡ b) ⊎ (is_host y.event.who ≡ true → t ≤ moment_of y)) × (y.event ≡ b → HostSafe t ys bs)

pub apart_late : (t : ℕ) (u : Who) (m : ℕ) (v : Who) (n : ℕ) → Apart t u m v n → is_host u ≡ true → t ≤ m
apart_late t Host m Host n a k = elim a [ ]
apart_late t Host m (Drive o) n a k = a.1
apart_late t (Drive o) m v n a k = absurd cc

pub twin_safe : (t : ℕ) (ys xs : List Step) (rest : List Event) → Twin t ys xs → HostSafe t ys (events_of xs ++ rest)
twin_safe t [] xs rest w = tt
twin_safe t (y ∷ ys) [] rest w = elim w [ ]
twin_safe t (y ∷ ys) (x ∷ xs) rest (inl w) = (inl w.0, λ e. twin_safe t ys xs rest w.1)
twin_safe t (y ∷ ys) (x ∷ xs) rest (inr w) = (inr (λ k. apart_late t y.event.who (moment_of y) x.event.who (moment_of x) w.0 k), λ e. absurd (w.1 e))

pub safe_next : (t : ℕ) (front : List Step) (y : Step) (ys : List Step) (rest : List Event) → HostSafe t (front ++ y ∷ ys) (events_of front ++ rest) → HostEvents t rest → is_host y.event.who ≡ true → t ≤ moment_of y
safe_next t [] y ys [] h r k = h k
safe_next t [] y ys (b ∷ rest) h r k = elim h.0 [
  | inl e ↦ (let at = r.0 (ap (λ (v : Event). is_host v.who) (sym e) ∙ k) in subst (λ (v : Event). t ≤ v.change.moment) (sym e) at)
  | inr f ↦ f k
]
safe_next t (x ∷ front) y ys rest h r k = safe_next t front y ys rest (h.1 refl) r k
