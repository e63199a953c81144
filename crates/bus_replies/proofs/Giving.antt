-- Events that are given and written one by one.
use Rattle.std.proofs.Common.{◌≡◌, ℕ, List, [], ◌∷◌, ◌++◌, Option, Some, None, refl, sym, ap, subst, ◌∙◌, arith, append_assoc, append-nil}
use Rattle.std.specs.Prelude.{IfSome, ◌≤◌}
use Rattle.std.specs.Io.KnownBytes.{Appends}
use Rattle.cbm_iec.specs.declared.event.Event.{Event}
use Rattle.cbm_iec.specs.declared.event.Who.{Who}
use Rattle.cbm_iec.specs.declared.event.Who.TheVariants.{Host, Drive}
use Rattle.cbm_iec.specs.declared.lines.Change.{Change}
use Rattle.bus_traces.specs.Events.{event_text, trace_text}
use Rattle.bus_traces.proofs.Appending.{appends-nothing, appends-more, text_on, text_one}
use Rattle.bus_replies.specs.Plays.{IsOfDrive, IsTurnOfReply, IsFromHost, HasGivenEvents, changes_of_host}

-- ---- the changes of the host

pub hosts_on : (xs ys : List Event) → changes_of_host (xs ++ ys) ≡ changes_of_host xs ++ changes_of_host ys
hosts_on [] ys = refl
hosts_on (x ∷ xs) ys = one x.who (hosts_on xs ys)
  where
    one : (w : Who) → changes_of_host (xs ++ ys) ≡ changes_of_host xs ++ changes_of_host ys → changes_of_host ((record { who = w; change = x.change }) ∷ (xs ++ ys)) ≡ changes_of_host ((record { who = w; change = x.change }) ∷ xs) ++ changes_of_host ys
    one Host e = ap (λ cs. x.change ∷ cs) e
    one (Drive d) e = e

-- a change of a drive is none of the host
pub of_drive : (e : Event) → IsOfDrive e.who → changes_of_host (e ∷ []) ≡ []
of_drive e h = one e.who h
  where
    one : (w : Who) → IsOfDrive w → changes_of_host ((record { who = w; change = e.change }) ∷ []) ≡ []
    one Host k = absurd k
    one (Drive d) k = refl

-- the host's change that waited
pub of_host : (e : Event) (c : Change) (was now : Option Change) → e.who ≡ Host → was ≡ Some c → IsTurnOfReply e.who e.change was now → changes_of_host (e ∷ []) ≡ c ∷ []
of_host e c was now host waits turn = one e.who host turn
  where
    one : (w : Who) → w ≡ Host → IsTurnOfReply w e.change was now → changes_of_host ((record { who = w; change = e.change }) ∷ []) ≡ c ∷ []
    one Host h t = (let same : Some e.change ≡ Some c = sym t.0 ∙ waits in ap (λ (x : Change). x ∷ []) (let z : e.change ≡ c = cc in z))
    one (Drive d) h t = absurd (cc)

-- it is the host's, and no change waits then
pub is_hosts : (e : Event) (c : Change) (was now : Option Change) → e.who ≡ Host → was ≡ Some c → IsTurnOfReply e.who e.change was now → (e.change ≡ c) × (now ≡ None)
is_hosts e c was now host waits turn = one e.who host turn
  where
    one : (w : Who) → w ≡ Host → IsTurnOfReply w e.change was now → (e.change ≡ c) × (now ≡ None)
    one Host h t = (let same : Some e.change ≡ Some c = sym t.0 ∙ waits in (let z : e.change ≡ c = cc in z), t.1)
    one (Drive d) h t = absurd (cc)

-- after it the next one may come at its moment
pub from_host : (e : Event) (from : ℕ) → e.who ≡ Host → IsFromHost e.who e.change.moment from → from ≡ e.change.moment
from_host e from host h = one e.who host h
  where
    one : (w : Who) → w ≡ Host → IsFromHost w e.change.moment from → from ≡ e.change.moment
    one Host k f = f
    one (Drive d) k f = absurd (cc)

pub still_waits : (e : Event) (was now : Option Change) → IsOfDrive e.who → IsTurnOfReply e.who e.change was now → now ≡ was
still_waits e was now drive turn = one e.who drive turn
  where
    one : (w : Who) → IsOfDrive w → IsTurnOfReply w e.change was now → now ≡ was
    one Host h t = absurd h
    one (Drive d) h t = t

pub not_host : (w : Who) → (w ≡ Host → ⊥) → IsOfDrive w
not_host Host h = absurd (h refl)
not_host (Drive d) h = tt

-- what waits comes
pub what_comes : (w : Option Change) (c : Change) (P : Type 0) → w ≡ Some c → IfSome w (λ d. d.moment ≤ c.moment → P) → P
what_comes None c P e h = absurd (cc)
what_comes (Some d) c P e h = (let same : d ≡ c = cc in h (subst (λ (x : Change). d.moment ≤ x.moment) same (omega arith)))

-- ---- events that were given

module _ {S Start : Type 0} (gave : S → Start → List Event → Type 0) where
  pub none_given : (a : Option (List ℕ)) (x y : S) → ((s : Start) (es : List Event) → gave x s es → gave y s es) → HasGivenEvents gave a a [] x y
  none_given a x y h = record {
    events = [];
    leads = λ s es k. subst (λ v. gave y s v) (sym (append-nil es)) (h s es k);
    hosts = refl;
    written = appends-nothing a;
  }

  pub event_given : (a b c : Option (List ℕ)) (cs ds : List Change) (x y z : S) (e : Event) → HasGivenEvents gave a b cs x y → ((s : Start) (es : List Event) → gave y s es → gave z s (es ++ e ∷ [])) → changes_of_host (e ∷ []) ≡ ds
      → Appends b c (event_text e) → HasGivenEvents gave a c (cs ++ ds) x z
  event_given a b c cs ds x y z e h next hosts w = record {
    events = h.events ++ e ∷ [];
    leads = λ s es k. subst (λ v. gave z s v) (append_assoc es h.events (e ∷ [])) (next s (es ++ h.events) (h.leads s es k));
    hosts = hosts_on h.events (e ∷ []) ∙ (λ i. h.hosts i ++ hosts i);
    written = subst (λ t. Appends a c t) (sym (text_on h.events (e ∷ []) ∙ ap (λ t. trace_text h.events ++ t) (text_one e))) (appends-more a b c (trace_text h.events) (event_text e) h.written w);
  }

  pub nothing_more : (a b : Option (List ℕ)) (cs : List Change) (x y z : S) → HasGivenEvents gave a b cs x y → ((s : Start) (es : List Event) → gave y s es → gave z s es) → HasGivenEvents gave a b cs x z
  nothing_more a b cs x y z h next = record {
    events = h.events;
    leads = λ s es k. next s (es ++ h.events) (h.leads s es k);
    hosts = h.hosts;
    written = h.written;
  }
