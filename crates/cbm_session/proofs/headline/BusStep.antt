-- Several drives: of all that follow the same steps, the reaction that is due first, by moment and then by the order of ties, is what comes next.
use Rattle.std.proofs.Common.{◌≡◌, ℕ, suc, ◌≤◌, ◌<◌, Bool, true, false, List, [], ◌∷◌, ◌++◌, Option, Some, None, ap, sym, ◌∙◌, subst, arith, refl, eq-eqb}
use Rattle.std.specs.Prelude.{nat_eq}
use Rattle.cbm_iec.specs.Hearing.{ear_due, after_data}
use Rattle.cbm_iec.specs.Ports.{side_due, port_due, told, told_act, reacted, reaction_changes, next_held}
use Rattle.cbm_iec.specs.Speaking.{talk_data}
use Rattle.cbm_iec.specs.declared.ear.Ear.TheVariants.{Idle, Await, Starting, Leaving, Returning, Holding, Freeing, Ready, Timed, Pulsing, EoiNoted, Gathering, Accepting}
use Rattle.cbm_iec.specs.declared.ear.Ear.{Ear}
use Rattle.cbm_iec.specs.declared.event.Event.{Event}
use Rattle.cbm_iec.specs.declared.event.Who.TheVariants.{Host, Drive}
use Rattle.cbm_iec.specs.declared.event.Who.{Who}
use Rattle.cbm_iec.specs.declared.lines.Line.{Line}
use Rattle.cbm_iec.specs.declared.lines.Way.{Way}
use Rattle.cbm_iec.specs.declared.lines.Lines.{Lines}
use Rattle.cbm_iec.specs.declared.mouth.Mouth.TheVariants.{Turned, Answering, Mute, Led, Offering, EoiOffered, EoiPulsed, Sending, Waiting, Ending, Over}
use Rattle.cbm_iec.specs.declared.mouth.Mouth.{Mouth}
use Rattle.cbm_iec.specs.declared.port.Port.{Port}
use Rattle.cbm_iec.specs.declared.port.Side.TheVariants.{Speaking}
use Rattle.cbm_iec.specs.declared.port.Side.{Side}
use Rattle.cbm_session.proofs.headline.Keeping.{HostFrom}
use Rattle.cbm_session.proofs.headline.Meeting.{FirstIs, first_shown, reaction_events}
use Rattle.cbm_session.proofs.joining.Merging.{NoneBefore}
use Rattle.cbm_session.specs.Among.{Rest, wires_of, after_another, after_the_host, FirstIsAfter, CountsFor}
use Rattle.cbm_session.specs.Following.{IsInTime, reaction_steps}
use Rattle.cbm_session.specs.Steps.{Mark, Step, moment_of, events_of, event_of}

-- A change of DATA by another drive leaves a side with something due as it is.
pub ear_undisturbed : (r m t : ℕ) (low : Bool) (ear : Ear) → ear_due ear ≡ Some t → after_data r m low ear ≡ ear
ear_undisturbed r m t low Await e = refl
ear_undisturbed r m t low Idle e = refl
ear_undisturbed r m t low (Starting at) e = refl
ear_undisturbed r m t low (Leaving at) e = refl
ear_undisturbed r m t low (Returning at) e = refl
ear_undisturbed r m t low Holding e = refl
ear_undisturbed r m t low (Freeing at) e = refl
ear_undisturbed r m t low Ready e = absurd cc
ear_undisturbed r m t low (Timed at) e = refl
ear_undisturbed r m t low (Pulsing at) e = refl
ear_undisturbed r m t low EoiNoted e = refl
ear_undisturbed r m t low (Gathering eoi count byte) e = refl
ear_undisturbed r m t low (Accepting at eoi byte) e = refl

pub mouth_undisturbed : (r m t : ℕ) (low : Bool) (mouth : Mouth) → side_due (Speaking mouth) ≡ Some t → talk_data r m low mouth ≡ mouth
mouth_undisturbed r m t low Turned e = refl
mouth_undisturbed r m t low (Answering at) e = refl
mouth_undisturbed r m t low (Led at) e = refl
mouth_undisturbed r m t low (Offering byte last) e = absurd cc
mouth_undisturbed r m t low (EoiOffered byte) e = absurd cc
mouth_undisturbed r m t low (EoiPulsed byte) e = absurd cc
mouth_undisturbed r m t low (Sending at byte last left half) e = refl
mouth_undisturbed r m t low (Waiting byte last) e = absurd cc
mouth_undisturbed r m t low (Mute at) e = refl
mouth_undisturbed r m t low (Ending at) e = refl
mouth_undisturbed r m t low Over e = refl

-- what is due is still due, and in the same state
abbrev pub Steady : ℕ → Lines → Port → Type 0
Steady t l q = port_due q ≡ Some t → (told t l q).side ≡ q.side

abbrev pub Shows : ℕ → Option (ℕ × Bool) → Port → Type 0
Shows t says q = reaction_changes t says q ≡ [] → ⊥

-- A drive that goes with these steps among others: as FollowsAmong says, each of its reactions shows, and what another drive does at the moment of its own leaves it as it is.
pub data Goes (says : Option (ℕ × Bool)) : Rest → Port → List Step → Rest → Port → Type 0 where
  ends : {r r2 : Rest} {q q2 : Port} → r2 ≡ r → q2 ≡ q → Goes says r q [] r2 q2
  tells : {r r2 : Rest} {q q2 : Port} {t : ℕ} {line : Line} {way : Way} {mark : Mark} {ss : List Step} → IsInTime t (port_due q)
      → CountsFor q.party.device mark (told_act (wires_of (after_the_host line way r)) q)
      → Goes says (after_the_host line way r) (told t (wires_of (after_the_host line way r)) q) ss r2 q2 → Goes says r q (record { event = event_of Host t line way; mark = mark } ∷ ss) r2 q2
  hears : {r r2 : Rest} {q q2 : Port} {o t : ℕ} {line : Line} {way : Way} {mark : Mark} {ss : List Step} → nat_eq q.party.device o ≡ false → IsInTime t (port_due q) → Steady t (wires_of (after_another line way r)) q
      → CountsFor q.party.device mark (told_act (wires_of (after_another line way r)) q)
      → Goes says (after_another line way r) (told t (wires_of (after_another line way r)) q) ss r2 q2 → Goes says r q (record { event = event_of (Drive o) t line way; mark = mark } ∷ ss) r2 q2
  reacts : {r r2 : Rest} {q q2 : Port} {ss : List Step} (t : ℕ) (more : List Step) → port_due q ≡ Some t → ss ≡ reaction_steps t says q ++ more → Shows t says q → FirstIsAfter t more
      → Goes says r (reacted t says q) more r2 q2 → Goes says r q ss r2 q2

-- it comes later: a step of a drive at this moment, after others of it
pub data Comes (d t : ℕ) : List Step → Type 0 where
  here : {s : Step} {ss : List Step} → s.event.who ≡ Drive d → moment_of s ≡ t → Comes d t (s ∷ ss)
  there : {s : Step} {ss : List Step} → Comes d t ss → Comes d t (s ∷ ss)

pub comes_first : (d t : ℕ) (rs more : List Step) → FirstIs d t (events_of rs) → Comes d t (rs ++ more)
comes_first d t [] more f = elim f [ ]
comes_first d t (r ∷ rs) more f = here f.0 f.1

same_due : (t : ℕ) (o : Option ℕ) → IsInTime t o → (u : ℕ) → o ≡ Some u → t ≤ u
same_due t None i u e = absurd cc
same_due t (Some v) i u e = let k : v ≡ u = cc in omega (arith, i, k)

-- A drive whose reaction is due at t, where nothing comes before t and no change of the host at t: its own step at t is among what comes.
pub comes_at : (says : Option (ℕ × Bool)) {r r2 : Rest} {q q2 : Port} {ss : List Step} → Goes says r q ss r2 q2 → (t : ℕ) → port_due q ≡ Some t → (port_due q2 ≡ Some t → ⊥) → HostFrom (suc t) ss → NoneBefore t ss → Comes q.party.device t ss
comes_at says (ends i j) t e n h b = absurd (n (ap (λ (v : Port). port_due v) j ∙ e))
comes_at says {r} {r2} {q} (tells {t = u} i k g) t e n h b = let late = h.0 refl in let soon = same_due u (port_due q) i t e in absurd (omega (arith, late, soon))
comes_at says {r} {r2} {q} (hears {o} {t = u} {line} {way} a i y k g) t e n h b =
    let soon = same_due u (port_due q) i t e in
    let not_before = b.0 in
    let at : u ≡ t = omega (arith, soon, not_before) in
    let due : port_due q ≡ Some u = e ∙ ap (λ (v : ℕ). Some v) (sym at) in
    let same : port_due (told u (wires_of (after_another line way r)) q) ≡ Some t = ap (λ (x : Side). side_due x) (y due) ∙ e in
    there (comes_at says g t same n h.1 b.1)
comes_at says {r} {r2} {q} {q2} {ss} (reacts u more d e sh l g) t f n h b =
    let at : u ≡ t = (let k : Some u ≡ Some t = sym d ∙ f in cc) in
    let first = first_shown q.party.device u q.own (next_held says q) sh in
    let own = subst (λ (v : List Event). FirstIs q.party.device u v) (sym (reaction_events says u q)) first in
    subst (λ (v : ℕ). Comes q.party.device v ss) at (subst (λ (v : List Step). Comes q.party.device u v) (sym e) (comes_first q.party.device u (reaction_steps u says q) more own))

-- the order of ties among steps: of two drives' steps at one moment the first is of the drive that stands first
abbrev pub NoneEarlier : (ℕ → ℕ) → ℕ → ℕ → List Step → Type 0
NoneEarlier place d t ss = (e : ℕ) → Comes e t ss → place d ≤ place e

abbrev pub Tied : (ℕ → ℕ) → List Step → Type 0
Tied place [] = Unit {0}
Tied place (s ∷ ss) = ((d : ℕ) → s.event.who ≡ Drive d → NoneEarlier place d (moment_of s) ss) × Tied place ss

pub tied_after : (place : ℕ → ℕ) (xs ys : List Step) → Tied place (xs ++ ys) → Tied place ys
tied_after place [] ys h = h
tied_after place (x ∷ xs) ys h = tied_after place xs ys h.1

-- the first step of a reaction that shows has its moment
pub moment_at : (d u : ℕ) (y : Step) (ys rs more : List Step) → FirstIs d u (events_of rs) → y ∷ ys ≡ rs ++ more → moment_of y ≡ u
moment_at d u y ys [] more f e = elim f [ ]
moment_at d u y ys (x ∷ rs) more f e = let same : y ≡ x = cc in ap (λ (v : Step). moment_of v) same ∙ f.1

-- the drive whose step comes first has its reaction due then
pub first_due : (says : Option (ℕ × Bool)) {r r2 : Rest} {q q2 : Port} {s : Step} {ss : List Step} → Goes says r q (s ∷ ss) r2 q2 → s.event.who ≡ Drive q.party.device → (port_due q ≡ Some (moment_of s))
first_due says (tells i k g) e = absurd cc
first_due says {r} {r2} {q} (hears {o} a i y k g) e =
    let same : o ≡ q.party.device = cc in
    let yes : nat_eq q.party.device o ≡ true = eq-eqb q.party.device o (sym same) in
    let no : true ≡ false = sym yes ∙ a in
    absurd cc
first_due says {r} {r2} {q} {q2} {s} {ss} (reacts u more d e sh l g) f =
    let first = first_shown q.party.device u q.own (next_held says q) sh in
    let own = subst (λ (v : List Event). FirstIs q.party.device u v) (sym (reaction_events says u q)) first in
    d ∙ ap (λ (v : ℕ). Some v) (sym (moment_at q.party.device u s ss (reaction_steps u says q) more own e))

-- So of a drive o that is due at t, and no other due before it, nor one that stands before it at t, the next step is its own: it reacts.
pub record Next (says : Option (ℕ × Bool)) (t : ℕ) (r : Rest) (q : Port) (ss : List Step) (r2 : Rest) (q2 : Port) : Type 0 where
  pub more : List Step
  pub steps : ss ≡ reaction_steps t says q ++ more
  pub goes : Goes says r (reacted t says q) more r2 q2

pub reacts_next : (says : Option (ℕ × Bool)) (place : ℕ → ℕ) {r r2 : Rest} {q q2 : Port} {ss : List Step} → Goes says r q ss r2 q2 → (t : ℕ) → port_due q ≡ Some t → (port_due q2 ≡ Some t → ⊥) → HostFrom (suc t) ss → NoneBefore t ss → Tied place ss
    -- whoever else has the first step there stands before it
    → ((s : Step) (more : List Step) (d : ℕ) → ss ≡ s ∷ more → s.event.who ≡ Drive d → nat_eq q.party.device d ≡ false → moment_of s ≡ t → place q.party.device < place d) → Next says t r q ss r2 q2
reacts_next says place (ends i j) t e n h b w f = absurd (n (ap (λ (v : Port). port_due v) j ∙ e))
reacts_next says place {r} {r2} {q} (tells {t = u} i k g) t e n h b w f = let late = h.0 refl in let soon = same_due u (port_due q) i t e in absurd (omega (arith, late, soon))
reacts_next says place {r} {r2} {q} (hears {o} {t = u} {line} {way} {mark} {ss} a i y k g) t e n h b w f =
    let soon = same_due u (port_due q) i t e in
    let not_before = b.0 in
    let at : u ≡ t = omega (arith, soon, not_before) in
    let due : port_due q ≡ Some u = e ∙ ap (λ (v : ℕ). Some v) (sym at) in
    let same : port_due (told u (wires_of (after_another line way r)) q) ≡ Some t = ap (λ (x : Side). side_due x) (y due) ∙ e in
    let comes : Comes q.party.device t ss = comes_at says g t same n h.1 b.1 in
    let afterwards = w.0 o refl q.party.device (subst (λ (v : ℕ). Comes q.party.device v ss) (sym at) comes) in
    let before = f (record { event = event_of (Drive o) u line way; mark = mark }) ss o refl refl a at in
    absurd (omega (arith, afterwards, before))
reacts_next says place {r} {r2} {q} {q2} {ss} (reacts u more d e sh l g) t f n h b w z =
    let at : u ≡ t = (let k : Some u ≡ Some t = sym d ∙ f in cc) in
    subst (λ (v : ℕ). Next says v r q ss r2 q2) at (record { more = more; steps = e; goes = g })

-- Another drive hears the changes of the reaction, one after the other, and goes on.
pub hears_next : (says : Option (ℕ × Bool)) {r r2 : Rest} {q q2 : Port} {o t : ℕ} {line : Line} {way : Way} {mark : Mark} {ss : List Step} → nat_eq q.party.device o ≡ false → Goes says r q (record { event = event_of (Drive o) t line way; mark = mark } ∷ ss) r2 q2
    → Goes says (after_another line way r) (told t (wires_of (after_another line way r)) q) ss r2 q2
hears_next says n (hears a i y k g) = g
hears_next says {r} {r2} {q} {q2} {o} {t} {line} {way} {mark} {ss} n (reacts u more d e sh l g) =
    let first = first_shown q.party.device u q.own (next_held says q) sh in
    let own = subst (λ (v : List Event). FirstIs q.party.device u v) (sym (reaction_events says u q)) first in
    let s : Step = record { event = event_of (Drive o) t line way; mark = mark } in
    let who : Drive o ≡ Drive q.party.device = who_is (reaction_steps u says q) more own e in
    let same : o ≡ q.party.device = cc in
    let yes : nat_eq q.party.device o ≡ true = eq-eqb q.party.device o (sym same) in
    let no : true ≡ false = sym yes ∙ n in
    absurd cc
  where
    who_is : (rs more : List Step) → FirstIs q.party.device u (events_of rs) → (record { event = event_of (Drive o) t line way; mark = mark }) ∷ ss ≡ rs ++ more → Drive o ≡ Drive q.party.device
    who_is [] more f e = elim f [ ]
    who_is (x ∷ rs) more f e =
        let same : (record { event = event_of (Drive o) t line way; mark = mark }) ≡ x = cc in
        ap (λ (v : Step). v.event.who) same ∙ f.0

-- Going with the same steps from the same state leads to the same state.
tail_same : (xs ys zs : List Step) → xs ++ ys ≡ xs ++ zs → ys ≡ zs
tail_same [] ys zs e = e
tail_same (x ∷ xs) ys zs e = tail_same xs ys zs cc

pub own_first : (says : Option (ℕ × Bool)) (q : Port) (u : ℕ) → Shows u says q → FirstIs q.party.device u (events_of (reaction_steps u says q))
own_first says q u sh = subst (λ (v : List Event). FirstIs q.party.device u v) (sym (reaction_events says u q)) (first_shown q.party.device u q.own (next_held says q) sh)

pub not_mine : (d u : ℕ) (w : Who) (s : Step) (ss rs more : List Step) → s.event.who ≡ w → (w ≡ Drive d → ⊥) → FirstIs d u (events_of rs) → s ∷ ss ≡ rs ++ more → ⊥
not_mine d u w s ss [] more e n f h = elim f [ ]
not_mine d u w s ss (x ∷ rs) more e n f h = let same : s ≡ x = cc in n (sym e ∙ ap (λ (v : Step). v.event.who) same ∙ f.0)

not_empty : (d u : ℕ) (rs more : List Step) → FirstIs d u (events_of rs) → [] ≡ rs ++ more → ⊥
not_empty d u [] more f h = elim f [ ]
not_empty d u (x ∷ rs) more f h = cc

pub another : (d o : ℕ) → nat_eq d o ≡ false → Drive o ≡ Drive d → ⊥
another d o n e = let same : o ≡ d = cc in let yes : nat_eq d o ≡ true = eq-eqb d o (sym same) in let no : true ≡ false = sym yes ∙ n in cc

pub host_drive : (d : ℕ) → Host ≡ Drive d → ⊥
host_drive d e = cc

pub goes_unique : (says : Option (ℕ × Bool)) {r r2 r3 : Rest} {q q2 q3 : Port} {ss : List Step} → Goes says r q ss r2 q2 → Goes says r q ss r3 q3 → (r2 ≡ r3) × (q2 ≡ q3)
goes_unique says (ends a b) (ends c d) = (a ∙ sym c, b ∙ sym d)
goes_unique says {q = q} (ends a b) (reacts t more d e sh l f) = absurd (not_empty q.party.device t (reaction_steps t says q) more (own_first says q t sh) e)
goes_unique says {q = q} (reacts t more d e sh l f) (ends a b) = absurd (not_empty q.party.device t (reaction_steps t says q) more (own_first says q t sh) e)
goes_unique says (tells i k f) (tells j m g) = goes_unique says f g
goes_unique says {q = q} (tells {ss = ss} i k f) (reacts t more d e sh l g) = absurd (not_mine q.party.device t Host _ ss (reaction_steps t says q) more refl (host_drive q.party.device) (own_first says q t sh) e)
goes_unique says {q = q} (reacts t more d e sh l g) (tells {ss = ss} i k f) = absurd (not_mine q.party.device t Host _ ss (reaction_steps t says q) more refl (host_drive q.party.device) (own_first says q t sh) e)
goes_unique says (hears a i y k f) (hears b j z m g) = goes_unique says f g
goes_unique says {q = q} (hears {o} {ss = ss} a i y k f) (reacts t more d e sh l g) = absurd (not_mine q.party.device t (Drive o) _ ss (reaction_steps t says q) more refl (another q.party.device o a) (own_first says q t sh) e)
goes_unique says {q = q} (reacts t more d e sh l g) (hears {o} {ss = ss} a i y k f) = absurd (not_mine q.party.device t (Drive o) _ ss (reaction_steps t says q) more refl (another q.party.device o a) (own_first says q t sh) e)
goes_unique says {r} {r2} {r3} {q} {q2} {q3} (reacts t more d e sh l f) (reacts u more2 d2 e2 sh2 l2 g) =
    let at : u ≡ t = (let k : Some u ≡ Some t = sym d2 ∙ d in cc) in
    let e3 : reaction_steps t says q ++ more ≡ reaction_steps t says q ++ more2 = sym e ∙ e2 ∙ ap (λ (v : ℕ). reaction_steps v says q ++ more2) at in
    let same : more ≡ more2 = tail_same (reaction_steps t says q) more more2 e3 in
    goes_unique says f (subst (λ (v : List Step). Goes says r (reacted t says q) v r3 q3) (sym same) (subst (λ (v : ℕ). Goes says r (reacted v says q) more2 r3 q3) at g))
