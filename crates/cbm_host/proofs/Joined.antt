-- The events that came are a front of a session which the host performs: event by event, by what is due first in the session and on the bus.
use Rattle.std.proofs.Common.{◌≡◌, ℕ, suc, ◌⊎◌, inl, inr, Bool, List, [], ◌∷◌, ◌++◌, append_assoc, append-nil, Option, refl, sym, ap, ◌∙◌, subst}
use Rattle.cbm_iec.specs.declared.machine.Act.{Act}
use Rattle.cbm_iec.specs.declared.event.Event.{Event}
use Rattle.cbm_iec.specs.declared.event.Who.TheVariants.{Host, Drive}
use Rattle.cbm_iec.specs.declared.event.Who.{Who}
use Rattle.cbm_iec.specs.declared.lines.Change.{Change}
use Rattle.cbm_session.proofs.headline.Keeping.{plays_then}
use Rattle.cbm_session.specs.Playing.{Station, host_event, drive_events, shown, AllInTime, IsFirst, Plays, stays, change, reaction, reacting, at_rest, IsMachine}

-- ---- an event of a play: where it comes

module _ (M : Type 0) (step : M → Act → M) (peek : M → Option (ℕ × Bool)) where
  -- a change of the host finds nothing due before it
  pub record HostComes (n : ℕ) (ss : List (Station M)) (front : List Event) (c : Change) : Type 0 where
    pub from : ℕ
    pub there : List (Station M)
    pub plays : Plays M step peek n ss front from there
    pub time : AllInTime M step peek c.moment there

  -- an event of a drive is one of a reaction that is due first
  pub record DriveComes (n : ℕ) (ss : List (Station M)) (front : List Event) (x : Event) : Type 0 where
    pub before_it : List Event
    pub first : List Event
    pub second : List Event
    pub parts : front ≡ before_it ++ first
    pub from : ℕ
    pub moment : ℕ
    pub before : List (Station M)
    pub o : Station M
    pub afterwards : List (Station M)
    pub plays : Plays M step peek n ss before_it from (before ++ o ∷ afterwards)
    pub due : IsFirst M step peek moment before o afterwards
    pub events : drive_events o.port.party.device (shown M step peek moment o) ≡ first ++ x ∷ second

  abbrev pub Comes : ℕ → List (Station M) → List Event → Who → Event → Type 0
  Comes n ss front Host x = HostComes n ss front x.change
  Comes n ss front (Drive d) x = DriveComes n ss front x

  -- a list that goes on after a first part: an item is in that part, or after it
  split_or : (ds more front : List Event) (x : Event) (back : List Event) → ds ++ more ≡ front ++ x ∷ back → ((d2 : List Event) × (ds ≡ front ++ x ∷ d2)) ⊎ ((f2 : List Event) × (front ≡ ds ++ f2) × (more ≡ f2 ++ x ∷ back))
  split_or [] more front x back e = inr (front, refl, e)
  split_or (d ∷ ds) more [] x back e = inl (ds, (let same : d ≡ x = cc in ap (λ (y : Event). y ∷ ds) same))
  split_or (d ∷ ds) more (f ∷ front) x back e =
      let tail : ds ++ more ≡ front ++ x ∷ back = cc in
      let head : f ≡ d = cc in
      elim (split_or ds more front x back tail) [
        | inl k ↦ inl (k.0, ap (λ (l : List Event). d ∷ l) k.1 ∙ ap (λ (y : Event). y ∷ (front ++ x ∷ k.0)) (sym head))
        | inr k ↦ inr (k.0, ap (λ (l : List Event). f ∷ l) k.1 ∙ ap (λ (y : Event). y ∷ (ds ++ k.0)) head, k.2)
      ]

  pub drive_event : (d : ℕ) (cs : List Change) (front : List Event) (x : Event) (back : List Event) → drive_events d cs ≡ front ++ x ∷ back → x.who ≡ Drive d
  drive_event d [] [] x back e = absurd cc
  drive_event d [] (f ∷ front) x back e = absurd cc
  drive_event d (c ∷ cs) [] x back e = let same : (record { who = Drive d; change = c }) ≡ x = cc in ap (λ (y : Event). y.who) (sym same)
  drive_event d (c ∷ cs) (f ∷ front) x back e = let tail : drive_events d cs ≡ front ++ x ∷ back = cc in drive_event d cs front x back tail

  -- after what was played before
  after_play : (w : Who) (n n1 : ℕ) (ss s1 : List (Station M)) (first front : List Event) (x : Event) → Plays M step peek n ss first n1 s1 → Comes n1 s1 front w x → Comes n ss (first ++ front) w x
  after_play Host n n1 ss s1 first front x p k = record { from = k.from; there = k.there; plays = plays_then M step peek p k.plays; time = k.time }
  after_play (Drive d) n n1 ss s1 first front x p k = record {
    before_it = first ++ k.before_it;
    first = k.first;
    second = k.second;
    parts = ap (λ (l : List Event). first ++ l) k.parts ∙ sym (append_assoc first k.before_it k.first);
    from = k.from;
    moment = k.moment;
    before = k.before;
    o = k.o;
    afterwards = k.afterwards;
    plays = plays_then M step peek p k.plays;
    due = k.due;
    events = k.events;
  }

  first_bytes : {n n2 : ℕ} {ss ss2 : List (Station M)} {es : List Event} → Plays M step peek n ss es n2 ss2 → Rattle.cbm_session.specs.Playing.AllBytes M step peek ss
  first_bytes (stays y e k f) = y
  first_bytes (change c more y l i e p) = y
  first_bytes (reaction t b o h more y u f e p) = y

  pub comes : {n n2 : ℕ} {ss ss2 : List (Station M)} {es : List Event} → Plays M step peek n ss es n2 ss2 → (front : List Event) (x : Event) (back : List Event) → es ≡ front ++ x ∷ back → Comes n ss front x.who x
  comes (stays y e k f) [] x back h = absurd cc
  comes (stays y e k f) (z ∷ front) x back h = absurd cc
  comes {n} {ss = ss} (change c more y l i e p) [] x back h =
      let same : host_event c ≡ x = cc in
      subst (λ (v : Event). Comes n ss [] v.who v) same (record { from = n; there = ss; plays = stays y refl refl refl; time = i })
  comes {n} {ss = ss} (change c more y l i e p) (z ∷ front) x back h =
      let tail : more ≡ front ++ x ∷ back = cc in
      let head : host_event c ≡ z = cc in
      subst (λ (v : Event). Comes n ss (v ∷ front) x.who x) head (after_play x.who n c.moment ss _ (host_event c ∷ []) front x (change c [] y l i refl (stays (first_bytes p) refl refl refl)) (comes p front x back tail))
  comes {n} {ss = ss} (reaction t before o afterwards more y u f e p) front x back h =
      let ds = drive_events o.port.party.device (shown M step peek t o) in
      elim (split_or ds more front x back (sym e ∙ h)) [
        | inl k ↦ subst (λ (w : Who). Comes n ss front w x) (sym (drive_event o.port.party.device (shown M step peek t o) front x k.0 k.1)) (record {
          before_it = [];
          first = front;
          second = k.0;
          parts = refl;
          from = n;
          moment = t;
          before = before;
          o = o;
          afterwards = afterwards;
          plays = stays y refl refl (sym u);
          due = f;
          events = k.1;
        })
        | inr k ↦ subst (λ (l : List Event). Comes n ss l x.who x) (sym k.1) (after_play x.who n (suc t) ss _ ds k.0 x (subst (λ (l : List Event). Plays M step peek n ss l (suc t) (reacting M step peek t before o afterwards)) (append-nil ds) (reaction t before o afterwards [] y u f refl (stays (first_bytes p) refl refl refl))) (comes p k.0 x back k.2))
      ]
