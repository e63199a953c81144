-- Events that a player gives are added to a list, one by one.
use Rattle.std.proofs.Common.{◌≡◌, ℕ, ◌<◌, ◌≤◌, Bool, List, [], ◌∷◌, ◌++◌, Option, Some, None, refl, sym, ap, subst, ◌∙◌, arith}
use Rattle.std.proofs.lemmas.List.{append_assoc, append-nil}
use Rattle.std.specs.Prelude.{Result, Ok, Err, IsErr, MatchResult}
use Rattle.cbm_iec.specs.declared.machine.Act.{Act}
use Rattle.cbm_iec.specs.declared.event.Event.{Event}
use Rattle.cbm_iec.specs.declared.event.Who.TheVariants.{Host, Drive}
use Rattle.cbm_iec.specs.declared.event.Who.{Who}
use Rattle.cbm_iec.specs.declared.lines.Change.{Change}
use Rattle.cbm_session.specs.Playing.{Station, Plays, stays}
use Rattle.cbm_drive.specs.Cables.{Cabled}
use Rattle.cbm_drive.specs.Ordered.{host_changes, with_host}
use Rattle.cbm_drive.specs.Played.{HasPlayed, IsPlayCut}
use Rattle.cbm_drive.specs.Players.{Turns, pending, at_start, nothing_left, change_taken, IsDrives, IsSecond, IsTurnOf, IsAfter, HasAdded}
use Rattle.cbm_drive.specs.Seats.{IsBusAt}
use Rattle.cbm_drive.proofs.Played.{host_append, at_bus}

-- a drive's event is no change of the host
pub none_of_host : (w : Who) (c : Change) (cs : List Change) → IsDrives w → with_host w c cs ≡ cs
none_of_host Host c cs h = absurd h
none_of_host (Drive d) c cs h = refl

-- nor is what is still to be given
pending_quiet : (from : ℕ) (o : Option Event) → IsSecond from o → host_changes (pending o) ≡ []
pending_quiet from None h = refl
pending_quiet from (Some e) h = none_of_host e.who e.change [] h.0

-- the host's own event is the change that waited
pub host_of : (w : Who) (c d : Change) (was now : Option Change) → w ≡ Host → was ≡ Some d → IsTurnOf w c was now → with_host w c [] ≡ d ∷ []
host_of Host c d was now is waits t = (let same : c ≡ d = (let z = sym t.0 ∙ waits in cc) in ap (λ x. x ∷ []) same)
host_of (Drive n) c d was now is waits t = absurd (cc)

-- who isn't the host is a drive
pub not_host : (w : Who) → (w ≡ Host → ⊥) → IsDrives w
not_host Host h = absurd (h refl)
not_host (Drive d) h = tt

-- after an event of a drive the change still waits
pub still_waits : (e : Event) (was now : Option Change) → IsDrives e.who → IsTurnOf e.who e.change was now → now ≡ was
still_waits e was now drive turn = one e.who drive turn
  where
    one : (w : Who) → IsDrives w → IsTurnOf w e.change was now → now ≡ was
    one Host h t = absurd h
    one (Drive d) h t = t

module _ (D M : Type 0) (stands : D → M → Type 0) (step : M → Act → M) (says : M → Option (ℕ × Bool)) where
  -- what was still to be given is given, too
  all_given : (p : Turns) (b : Cabled D) (n : ℕ) (ss : List (Station M)) (es : List Event) → IsAfter D M stands step says p b n ss es → IsAfter D M stands step says (nothing_left p) b n ss (es ++ pending p.second)
  all_given p b n ss es a = record {
    from = a.from;
    stations = a.stations;
    before = a.before;
    plays = subst (λ (v : List Event). Plays M step says n ss v a.from a.stations) (sym (append-nil (es ++ pending p.second))) a.plays;
    now = a.now;
    second = tt;
  }

  -- a change that is taken gives nothing
  pub after_take : (c : Change) (p : Turns) (b : Cabled D) (n : ℕ) (ss : List (Station M)) (es : List Event) → IsAfter D M stands step says p b n ss es → IsAfter D M stands step says (change_taken c p) b n ss es
  after_take c p b n ss es a = record { from = a.from; stations = a.stations; before = a.before; plays = a.plays; now = a.now; second = a.second }

  -- nothing was added yet
  pub added_none : (p : Turns) (b : Cabled D) (old : List Event) (n : ℕ) (ss : List (Station M)) (es : List Event) → p.second ≡ None → IsAfter D M stands step says p b n ss es → HasAdded D M stands step says p b old old [] n ss es
  added_none p b old n ss es none a = record {
    made = [];
    added = sym (append-nil old);
    hosts = refl;
    after = subst (IsAfter D M stands step says p b n ss) (sym (append-nil es)) a;
    second = none;
  }

  -- an event more, with the second one of its reaction
  pub added_event : (p q r : Turns) (b c : Cabled D) (old mid new : List Event) (cs ds all : List Change) (n : ℕ) (ss : List (Station M)) (es : List Event) (e : Event) → HasAdded D M stands step says p b old mid cs n ss es
      → ((fs : List Event) → IsAfter D M stands step says p b n ss fs → IsAfter D M stands step says q c n ss (fs ++ e ∷ [])) → new ≡ mid ++ e ∷ pending q.second → r ≡ nothing_left q → with_host e.who e.change [] ≡ ds → cs ++ ds ≡ all
      → HasAdded D M stands step says r c old new all n ss es
  added_event p q r b c old mid new cs ds all n ss es e h more is left hosts both =
      let after = more (es ++ h.made) h.after in
      let again = all_given q c n ss ((es ++ h.made) ++ e ∷ []) after in
      record {
        made = h.made ++ e ∷ pending q.second;
        added = is ∙ ap (λ (v : List Event). v ++ e ∷ pending q.second) h.added ∙ append_assoc old h.made (e ∷ pending q.second);
        hosts = host_append h.made (e ∷ pending q.second) ∙ (λ i. h.hosts i ++ (ap (with_host e.who e.change) (pending_quiet q.from q.second after.second) ∙ hosts) i) ∙ both;
        after = subst (λ (x : Turns). IsAfter D M stands step says x c n ss (es ++ (h.made ++ e ∷ pending q.second))) (sym left)
            (subst (IsAfter D M stands step says (nothing_left q) c n ss) (append_assoc (es ++ h.made) (e ∷ []) (pending q.second) ∙ append_assoc es h.made (e ∷ pending q.second)) again);
        second = ap (λ (x : Turns). x.second) left;
      }

  -- nothing came, and all is as it was but for the moment from which the host may go on
  pub added_still : (p q : Turns) (b c : Cabled D) (old mid : List Event) (cs : List Change) (n : ℕ) (ss : List (Station M)) (es : List Event) → HasAdded D M stands step says p b old mid cs n ss es
      → ((fs : List Event) → IsAfter D M stands step says p b n ss fs → IsAfter D M stands step says q c n ss fs × (q.second ≡ None)) → HasAdded D M stands step says q c old mid cs n ss es
  added_still p q b c old mid cs n ss es h more =
      let after = more (es ++ h.made) h.after in
      record { made = h.made; added = h.added; hosts = h.hosts; after = after.0; second = after.1 }

  -- the list is the same
  pub added_same : (p : Turns) (b : Cabled D) (old mid new : List Event) (cs : List Change) (n : ℕ) (ss : List (Station M)) (es : List Event) → new ≡ mid → HasAdded D M stands step says p b old mid cs n ss es → HasAdded D M stands step says p b old new cs n ss es
  added_same p b old mid new cs n ss es e h = subst (λ (v : List Event). HasAdded D M stands step says p b old v cs n ss es) (sym e) h

  -- more events were added after these
  pub added_more : (p q : Turns) (b c : Cabled D) (old mid new : List Event) (cs ds all : List Change) (n : ℕ) (ss : List (Station M)) (es : List Event) → (h : HasAdded D M stands step says p b old mid cs n ss es)
      → HasAdded D M stands step says q c mid new ds n ss (es ++ h.made) → cs ++ ds ≡ all → HasAdded D M stands step says q c old new all n ss es
  added_more p q b c old mid new cs ds all n ss es h k both = record {
    made = h.made ++ k.made;
    added = k.added ∙ ap (λ (v : List Event). v ++ k.made) h.added ∙ append_assoc old h.made k.made;
    hosts = host_append h.made k.made ∙ (λ i. h.hosts i ++ k.hosts i) ∙ both;
    after = subst (IsAfter D M stands step says q c n ss) (append_assoc es h.made k.made) k.after;
    second = k.second;
  }

  -- from the beginning: the changes were played
  pub played_of : (p : Turns) (b : Cabled D) (limit : ℕ) (old new : List Event) (cs : List Change) (ss : List (Station M)) → HasAdded D M stands step says p b old new cs 0 ss [] → p.from ≤ limit → HasPlayed D M stands step says b.host limit b.drives old new cs ss
  played_of p b limit old new cs ss h l = record {
    made = h.made;
    from = h.after.from;
    stations = h.after.stations;
    added = h.added;
    plays = subst (λ (v : List Event). Plays M step says 0 ss v h.after.from h.after.stations) (ap (λ o. h.made ++ pending o) h.second ∙ append-nil h.made) h.after.plays;
    hosts = h.hosts;
    before = (let k = h.after.before in omega (arith, k, l));
    now = h.after.now;
  }

  -- or those so far
  pub cut_of : (p : Turns) (b : Cabled D) (old new : List Event) (cs rest all : List Change) (ss : List (Station M)) → HasAdded D M stands step says p b old new cs 0 ss [] → cs ++ rest ≡ all → IsPlayCut D M stands step says b.host b.drives old new all ss
  cut_of p b old new cs rest all ss h e = record {
    made = h.made;
    rest = rest;
    from = h.after.from;
    stations = h.after.stations;
    added = h.added;
    plays = subst (λ (v : List Event). Plays M step says 0 ss v h.after.from h.after.stations) (ap (λ o. h.made ++ pending o) h.second ∙ append-nil h.made) h.after.plays;
    hosts = ap (λ (v : List Change). v ++ rest) h.hosts ∙ e;
    now = h.after.now;
  }

-- what is passed on by `?` is an Err
pub passed_on : {X E : Type 0} (r : Result X E) (P : X → Type 0) (Q : E → Type 0) → IsErr r → ((e : E) → Q e) → MatchResult r P Q
passed_on (Ok x) P Q h f = absurd (cc)
passed_on (Err e) P Q h f = f e

-- of either kind, where each is known
pub either_way : {X E : Type 0} (r : Result X E) (P Q : Type 0) → P → Q → MatchResult r (λ x. P) (λ e. Q)
either_way (Ok x) P Q h k = h
either_way (Err e) P Q h k = k

module _ (D M : Type 0) (stands : D → M → Type 0) (step : M → Act → M) (says : M → Option (ℕ × Bool)) (byte : (x : D) (m : M) (n : ℕ) (last : Bool) → stands x m → says m ≡ Some (n, last) → n < 256) where
  -- before the first change
  pub after_none : (b : Cabled D) (ss : List (Station M)) → IsBusAt D M stands b.host b.drives ss → IsAfter D M stands step says at_start b 0 ss []
  after_none b ss h = record {
    from = 0;
    stations = ss;
    before = omega arith;
    plays = stays (at_bus D M stands step says byte b.host b.drives ss h) refl refl refl;
    now = h;
    second = tt;
  }
