-- ATN's pull on a bus: the host's changes, then the drives' answers, of which some show nothing.
use Rattle.cbm_iec.specs.declared.pace.Pace.TheVariants.{Profile, Kernal}
use Rattle.cbm_iec.specs.declared.pace.Pace.{Pace}
use Rattle.std.proofs.Common.{◌≡◌, ℕ, suc, ◌+◌, ◌≤◌, ◌<◌, ◌⊎◌, inl, inr, Bool, true, false, List, [], ◌∷◌, ◌++◌, map, append_assoc, Option, Some, None, ap, sym, ◌∙◌, subst, arith, refl}
use Rattle.std.specs.Prelude.{nat_eq}
use Rattle.cbm_iec.specs.Hearing.{after_start}
use Rattle.cbm_iec.specs.Machines.{acted}
use Rattle.cbm_iec.specs.Ports.{side_held, side_after, side_due, port_due, told, told_act, reacted, reaction_act, changes_between, reaction_changes}
use Rattle.cbm_iec.specs.declared.machine.Act.{Act}
use Rattle.cbm_iec.specs.declared.ear.Ear.TheVariants.{Starting, Holding, Freeing}
use Rattle.cbm_iec.specs.declared.event.Event.{Event}
use Rattle.cbm_iec.specs.declared.event.Who.TheVariants.{Host, Drive}
use Rattle.cbm_iec.specs.declared.event.Who.{Who}
use Rattle.cbm_iec.specs.declared.lines.Change.{Change}
use Rattle.cbm_iec.specs.declared.lines.Line.TheVariants.{Atn}
use Rattle.cbm_iec.specs.declared.lines.Line.{Line}
use Rattle.cbm_iec.specs.declared.lines.Way.{Way}
use Rattle.cbm_iec.specs.declared.lines.Held.{Held}
use Rattle.cbm_iec.specs.declared.lines.Lines.{Lines}
use Rattle.cbm_iec.specs.declared.port.Port.{Port}
use Rattle.cbm_iec.specs.declared.port.Side.TheVariants.{Hearing}
use Rattle.cbm_iec.specs.declared.port.Side.{Side}
use Rattle.cbm_session.proofs.among.Around.{NotHost}
use Rattle.cbm_session.proofs.among.Calm.{Every}
use Rattle.cbm_session.proofs.among.Fronts.{follows_rest}
use Rattle.cbm_session.proofs.among.Pulls.{clock_held}
use Rattle.cbm_session.proofs.headline.AlongBus.{other_atn, host_atn, devs, OthersIn, Rising, others_before, others_after, rising_first, devs_tell, devs_react}
use Rattle.cbm_session.proofs.headline.BusActs.{HasRun, AllRan, run_on, run_other, mark_acted, own_acted, ran_before, ran_joined, RanOn, ran_then, ran_stays}
use Rattle.cbm_session.proofs.headline.BusStep.{another}
use Rattle.cbm_session.proofs.headline.Keeping.{events_append}
use Rattle.cbm_session.proofs.headline.Meeting.{FirstIs, first_append, first_shown, reaction_events, no_steps}
use Rattle.cbm_session.proofs.headline.PullSettled.{starting_told, holding_told, held, told_held, start_changes, start_act, start_held, no_change, holds_data_alone, not_own, among_told, other_low, host_stays, settled}
use Rattle.cbm_session.proofs.reading.OneReading.{is_atn}
use Rattle.cbm_session.specs.Among.{Rest, wires_of, after_another, after_the_host, CountsFor, FollowsAmong, ends, tells, hears, reacts}
use Rattle.cbm_session.specs.Answers.{run_acts}
use Rattle.cbm_session.specs.Following.{IsInTime, own_steps, reaction_steps}
use Rattle.cbm_session.specs.Playing.{IsLaterDue, Station, host_event, drive_events, tell, hear, hear_all, react, shown, AllInTime, AllLater, reacting, Plays, stays, change, reaction}
use Rattle.cbm_session.specs.Seats.{lines}
use Rattle.cbm_session.specs.Steps.{Mark, Step, moment_of, events_of, event_of, acts_for, Plain}

pub event_head : (x y : Event) (xs ys : List Event) → x ∷ xs ≡ y ∷ ys → x ≡ y
event_head x y xs ys e = cc

pub event_tail : (x y : Event) (xs ys : List Event) → x ∷ xs ≡ y ∷ ys → xs ≡ ys
event_tail x y xs ys e = cc

-- the next event, if there is one, is the host's and later than this moment
abbrev pub NextHost : ℕ → List Event → Type 0
NextHost m [] = Unit {0}
NextHost m (x ∷ xs) = (x.who ≡ Host) × (m < x.change.moment)

host_no_drive : (d : ℕ) (w : Who) → w ≡ Host → w ≡ Drive d → ⊥
host_no_drive d w h k = let e : Host ≡ Drive d = sym h ∙ k in cc

-- what is left after events that two lists have in common
pub same_after_it : (l a b : List Event) → l ++ a ≡ l ++ b → a ≡ b
same_after_it [] a b e = e
same_after_it (x ∷ l) a b e = same_after_it l a b (event_tail x x (l ++ a) (l ++ b) e)

-- the next step of what is followed, where it is another drive's and the drive's own reaction would show; and where it is its own
heard_next : (says : Option (ℕ × Bool)) {r r2 : Rest} {q q2 : Port} {o t : ℕ} {line : Line} {way : Way} {mark : Mark} {ss : List Step} → FollowsAmong says r q (record { event = event_of (Drive o) t line way; mark = mark } ∷ ss) r2 q2 → nat_eq q.party.device o ≡ false
    → ((u : ℕ) → port_due q ≡ Some u → reaction_steps u says q ≡ [] → ⊥) → FollowsAmong says (after_another line way r) (told t (wires_of (after_another line way r)) q) ss r2 q2
heard_next says (hears a i k f) n some = f
heard_next says {q = q} {o = o} {t = t} {line = line} {way = way} {mark = mark} {ss = ss} (reacts u more d e sh l f) n some =
    let s : Step = record { event = event_of (Drive o) t line way; mark = mark } in
    absurd (some u d (not_own q.party.device (reaction_changes u says q) (reaction_act says q) more ss s (another q.party.device o n) e).0)

pub record OwnNext (says : Option (ℕ × Bool)) (t : ℕ) (r : Rest) (q : Port) (ss : List Step) (r2 : Rest) (q2 : Port) : Type 0 where
  pub more : List Step
  pub steps : ss ≡ reaction_steps t says q ++ more
  pub follows : FollowsAmong says r (reacted t says q) more r2 q2

own_next : (says : Option (ℕ × Bool)) {r r2 : Rest} {q q2 : Port} {s : Step} {ss : List Step} → FollowsAmong says r q (s ∷ ss) r2 q2 → s.event.who ≡ Drive q.party.device → (t : ℕ) → port_due q ≡ Some t → OwnNext says t r q (s ∷ ss) r2 q2
own_next says (tells i k f) w t d = absurd cc
own_next says {q = q} (hears {o} a i k f) w t d = absurd (another q.party.device o a w)
own_next says {r} {r2} {q} {q2} {s} {ss} (reacts u more e x sh l f) w t d =
    let same : u ≡ t = (let k : Some u ≡ Some t = sym e ∙ d in cc) in
    subst (λ (v : ℕ). OwnNext says v r q (s ∷ ss) r2 q2) same (record { more = more; steps = x; follows = f })

-- nothing follows but the end
pub ended : (says : Option (ℕ × Bool)) {r r2 : Rest} {q q2 : Port} → FollowsAmong says r q [] r2 q2 → ((u : ℕ) → port_due q ≡ Some u → reaction_steps u says q ≡ [] → ⊥) → (r2 ≡ r) × (q2 ≡ q)
ended says (ends i j) some = (i, j)
ended says {q = q} (reacts u more d e sh l f) some = absurd (some u d (front_none (reaction_steps u says q) more e))
  where
    front_none : (xs ys : List Step) → [] ≡ xs ++ ys → xs ≡ []
    front_none [] ys e = refl
    front_none (x ∷ xs) ys e = absurd cc

in_time_le : (t u : ℕ) (o : Option ℕ) → IsInTime t o → o ≡ Some u → t ≤ u
in_time_le t u o i e = subst (λ (v : Option ℕ). IsInTime t v) e i

module _ (M : Type 0) (step : M → Act → M) (peek : M → Option (ℕ × Bool)) (says : ℕ → Option (ℕ × Bool)) (place : ℕ → ℕ) (at : ℕ) where
  abbrev device_of : Station M → ℕ
  device_of x = x.port.party.device

  -- The answer to the pull is still to come.
  pub record Starts (x : Station M) (u : ℕ) : Type 0 where
    pub side : x.port.side ≡ Hearing (Starting u)
    pub later : at < u
    pub soon : u ≤ at + 60

  -- A drive that the pull reached, as far as the host came, and where it will stand.
  pub record Waits (x : Station M) (ys : List Step) (e : Rest × Port) : Type 0 where
    pub due : ℕ
    pub starts : Starts x due
    pub seen : x.port.others ≡ wires_of x.rest
    pub follows : FollowsAmong (says (device_of x)) x.rest x.port ys e.0 e.1
    pub end : e.1.side ≡ Hearing Holding
    pub end_low : e.0.host.clock_low ≡ true

  -- An answer that will show; and a drive that has answered, or whose answer shows nothing: it goes on as it will from hold.
  pub record Shows (x : Station M) (ys : List Step) (e : Rest × Port) : Type 0 where
    pub due : ℕ
    pub starts : Starts x due
    pub other : x.port.own ≡ lines false true → ⊥
    pub follows : FollowsAmong (says (device_of x)) x.rest x.port ys e.0 e.1

  pub record Rests (x : Station M) (ys : List Step) (e : Rest × Port) : Type 0 where
    pub side : (x.port.side ≡ Hearing Holding) ⊎ ((u : ℕ) × Starts x u)
    pub own : x.port.own ≡ lines false true
    pub follows : FollowsAmong (says (device_of x)) x.rest (held x.port) ys e.0 e.1

  pub record Pulled (x : Station M) (ys : List Step) (e : Rest × Port) : Type 0 where
    pub seen : x.port.others ≡ wires_of x.rest
    pub low : x.rest.host.clock_low ≡ true
    pub end : e.1.side ≡ Hearing Holding
    pub stand : Shows x ys e ⊎ Rests x ys e

  -- of all stations
  abbrev pub AllOf : (Station M → Rest × Port → Type 0) → List (Station M) → List (Rest × Port) → Type 0
  AllOf P [] [] = Unit {0}
  AllOf P [] (e ∷ es) = ⊥
  AllOf P (x ∷ xs) [] = ⊥
  AllOf P (x ∷ xs) (e ∷ es) = P x e × AllOf P xs es

  pub record PartsOf (P : Station M → Rest × Port → Type 0) (before : List (Station M)) (o : Station M) (afterwards : List (Station M)) (es : List (Rest × Port)) : Type 0 where
    pub first : List (Rest × Port)
    pub own : Rest × Port
    pub last : List (Rest × Port)
    pub is : es ≡ first ++ own ∷ last
    pub all_first : AllOf P before first
    pub one : P o own
    pub all_last : AllOf P afterwards last

  pub parts_of : (P : Station M → Rest × Port → Type 0) (before : List (Station M)) (o : Station M) (afterwards : List (Station M)) (es : List (Rest × Port)) → AllOf P (before ++ o ∷ afterwards) es → PartsOf P before o afterwards es
  parts_of P [] o afterwards [] h = elim h [ ]
  parts_of P [] o afterwards (e ∷ es) h = record { first = []; own = e; last = es; is = refl; all_first = tt; one = h.0; all_last = h.1 }
  parts_of P (b ∷ before) o afterwards [] h = elim h [ ]
  parts_of P (b ∷ before) o afterwards (e ∷ es) h =
      let k = parts_of P before o afterwards es h.1 in
      record { first = e ∷ k.first; own = k.own; last = k.last; is = ap (λ (v : List (Rest × Port)). e ∷ v) k.is; all_first = (h.0, k.all_first); one = k.one; all_last = k.all_last }

  all_joined : (P : Station M → Rest × Port → Type 0) (before : List (Station M)) (o : Station M) (afterwards : List (Station M)) (first last : List (Rest × Port)) (own : Rest × Port) → AllOf P before first → P o own → AllOf P afterwards last → AllOf P (before ++ o ∷ afterwards) (first ++ own ∷ last)
  all_joined P [] o afterwards [] last own a b c = (b, c)
  all_joined P [] o afterwards (f ∷ first) last own a b c = elim a [ ]
  all_joined P (x ∷ before) o afterwards [] last own a b c = elim a [ ]
  all_joined P (x ∷ before) o afterwards (f ∷ first) last own a b c = (a.0, all_joined P before o afterwards first last own a.1 b c)

  all_map : (P Q : Station M → Rest × Port → Type 0) (f : Station M → Station M) (xs : List (Station M)) (es : List (Rest × Port)) → ((x : Station M) (e : Rest × Port) → P x e → Q (f x) e) → AllOf P xs es → AllOf Q (map f xs) es
  all_map P Q f [] [] g h = tt
  all_map P Q f [] (e ∷ es) g h = elim h [ ]
  all_map P Q f (x ∷ xs) [] g h = elim h [ ]
  all_map P Q f (x ∷ xs) (e ∷ es) g h = (g x e h.0, all_map P Q f xs es g h.1)

  all_others : (P Q : Station M → Rest × Port → Type 0) (f : Station M → Station M) (o : ℕ) (xs : List (Station M)) (es : List (Rest × Port)) → ((x : Station M) (e : Rest × Port) → nat_eq (device_of x) o ≡ false → P x e → Q (f x) e)
      → OthersIn M step peek says place o (devs M step peek says place xs) → AllOf P xs es → AllOf Q (map f xs) es
  all_others P Q f o [] [] g n h = tt
  all_others P Q f o [] (e ∷ es) g n h = elim h [ ]
  all_others P Q f o (x ∷ xs) [] g n h = elim h [ ]
  all_others P Q f o (x ∷ xs) (e ∷ es) g n h = (g x e n.0 h.0, all_others P Q f o xs es g n.1 h.1)

  -- a reaction that shows nothing is heard by nobody
  unheard : (xs : List (Station M)) → map (λ x. hear_all M step peek [] x) xs ≡ xs
  unheard [] = refl
  unheard (x ∷ xs) = ap (λ (v : List (Station M)). x ∷ v) (unheard xs)

  silent_reacting : (t : ℕ) (before : List (Station M)) (o : Station M) (afterwards : List (Station M)) → shown M step peek t o ≡ [] → reacting M step peek t before o afterwards ≡ before ++ react M step peek t o ∷ afterwards
  silent_reacting t before o afterwards e =
      ap (λ (cs : List Change). map (λ x. hear_all M step peek cs x) before ++ react M step peek t o ∷ map (λ x. hear_all M step peek cs x) afterwards) e
      ∙ ap (λ (v : List (Station M)). v ++ react M step peek t o ∷ map (λ x. hear_all M step peek [] x) afterwards) (unheard before)
      ∙ ap (λ (v : List (Station M)). before ++ react M step peek t o ∷ v) (unheard afterwards)

  -- where its reaction has no act the machine stays
  silent_ran : (t : ℕ) (before : List (Station M)) (o : Station M) (afterwards : List (Station M)) → (reaction_act (peek o.machine) o.port ≡ None) → RanOn M step peek (before ++ o ∷ afterwards) [] (before ++ react M step peek t o ∷ afterwards)
  silent_ran t before o afterwards none = record {
    runs = λ ms done h.
        let k = ran_before M step peek ms done before o afterwards h in
        let same : (react M step peek t o).machine ≡ o.machine = ap (λ (v : Option Act). acted M step v o.machine) none in
        subst (λ (v : List Step). AllRan M step peek ms v (before ++ react M step peek t o ∷ afterwards)) (sym (no_end done)) (ran_joined M step peek ms done before (react M step peek t o) afterwards k.0 (same ∙ k.1) k.2);
  }
    where
      no_end : (l : List Step) → l ++ [] ≡ l
      no_end [] = refl
      no_end (x ∷ l) = ap (λ (v : List Step). x ∷ v) (no_end l)

  -- an answer that shows
  pub some_shown : (t u : ℕ) (says : Option (ℕ × Bool)) (q : Port) → q.side ≡ Hearing (Starting u) → (q.own ≡ lines false true → ⊥) → reaction_changes t says q ≡ [] → ⊥
  some_shown t u says q side other e = other (no_change t q.own (sym (start_changes t u says q side) ∙ e))

  -- Another drive's step is heard, and nothing is told by it.
  hear_pulled : (o : ℕ) (c : Change) (mark : Mark) (ys : List Step) (x : Station M) (e : Rest × Port) → nat_eq (device_of x) o ≡ false → Pulled x (record { event = event_of (Drive o) c.moment c.line c.way; mark = mark } ∷ ys) e
      → Pulled (hear M step peek c x) ys e × ((hear M step peek c x).machine ≡ x.machine)
  hear_pulled o c mark ys x e n h = by h.stand
    where
      now : Rest
      now = after_another c.line c.way x.rest

      low2 : (after_another c.line c.way x.rest).host.clock_low ≡ true
      low2 = other_low c.line c.way x.rest h.low

      same_atn : (wires_of (after_another c.line c.way x.rest)).atn_low ≡ (wires_of x.rest).atn_low
      same_atn = other_atn c.line c.way x.rest

      side_rests : (x.port.side ≡ Hearing Holding) ⊎ ((u : ℕ) × Starts x u)
          → (((told c.moment (wires_of (after_another c.line c.way x.rest)) x.port).side ≡ Hearing Holding) ⊎ ((u : ℕ) × Starts (hear M step peek c x) u)) × (told_act (wires_of (after_another c.line c.way x.rest)) x.port ≡ None)
      side_rests (inl k) = let t = holding_told c.moment x.rest (after_another c.line c.way x.rest) x.port h.seen same_atn (clock_held x.rest h.low) (clock_held (after_another c.line c.way x.rest) low2) k in (inl t.0, t.1)
      side_rests (inr k) =
          let t = starting_told c.moment k.0 x.rest (after_another c.line c.way x.rest) x.port h.seen same_atn k.1.side in
          (inr (k.0, record { side = t.0; later = k.1.later; soon = k.1.soon }), t.1)

      by : Shows x (record { event = event_of (Drive o) c.moment c.line c.way; mark = mark } ∷ ys) e ⊎ Rests x (record { event = event_of (Drive o) c.moment c.line c.way; mark = mark } ∷ ys) e
          → Pulled (hear M step peek c x) ys e × ((hear M step peek c x).machine ≡ x.machine)
      by (inl k) =
          let t = starting_told c.moment k.due x.rest (after_another c.line c.way x.rest) x.port h.seen same_atn k.starts.side in
          let some : (u : ℕ) → port_due x.port ≡ Some u → reaction_steps u (says (device_of x)) x.port ≡ [] → ⊥ = λ u d. no_steps u (says (device_of x)) x.port (some_shown u k.due (says (device_of x)) x.port k.starts.side k.other) in (
            record {
              seen = refl;
              low = low2;
              end = h.end;
              stand = inl (record { due = k.due; starts = record { side = t.0; later = k.starts.later; soon = k.starts.soon }; other = k.other; follows = heard_next (says (device_of x)) k.follows n some });
            },
            ap (λ (v : Option Act). acted M step v x.machine) t.1,
          )
      by (inr k) =
          let t = side_rests k.side in
          let f = heard_next (says (device_of x)) k.follows n (λ u d. absurd cc) in
          let two = told_held c.moment x.rest (after_another c.line c.way x.rest) x.port h.seen same_atn (clock_held x.rest h.low) (clock_held (after_another c.line c.way x.rest) low2) in (
            record {
              seen = refl;
              low = low2;
              end = h.end;
              stand = inr (record { side = t.0; own = k.own; follows = subst (λ (v : Port). FollowsAmong (says (device_of x)) (after_another c.line c.way x.rest) v ys e.0 e.1) two.0 f });
            },
            ap (λ (v : Option Act). acted M step v x.machine) t.1,
          )

  hear_steps : (o : ℕ) (cs : List Change) (more : List Step) (x : Station M) (e : Rest × Port) → (own_steps o cs None ≡ [] → ⊥) → nat_eq (device_of x) o ≡ false → Pulled x (own_steps o cs None ++ more) e
      → Pulled (hear_all M step peek cs x) more e × ((hear_all M step peek cs x).machine ≡ x.machine)
  hear_steps o [] more x e f n h = absurd (f refl)
  hear_steps o (c ∷ []) more x e f n h = hear_pulled o c Plain more x e n h
  hear_steps o (c ∷ d ∷ []) more x e f n h =
      let a = hear_pulled o c Plain (record { event = event_of (Drive o) d.moment d.line d.way; mark = Plain } ∷ more) x e n h in
      let b = hear_pulled o d Plain more (hear M step peek c x) e n a.0 in
      (b.0, b.1 ∙ a.1)
  hear_steps o (c ∷ d ∷ y ∷ cs) more x e f n h = absurd (f refl)

  -- the machines of those who hear it stay
  same_device : (cs : List Change) (x : Station M) → device_of (hear_all M step peek cs x) ≡ device_of x
  same_device [] x = refl
  same_device (c ∷ cs) x = same_device cs (hear M step peek c x)

  heard_ran : (ms : ℕ → M) (done : List Step) (o : ℕ) (cs : List Change) (more : List Step) (xs : List (Station M)) (es : List (Rest × Port)) → (own_steps o cs None ≡ [] → ⊥) → OthersIn M step peek says place o (devs M step peek says place xs)
      → AllOf (λ x e. Pulled x (own_steps o cs None ++ more) e) xs es → AllRan M step peek ms done xs → AllRan M step peek ms (done ++ own_steps o cs None) (map (λ x. hear_all M step peek cs x) xs)
  heard_ran ms done o cs more [] es f n h r = tt
  heard_ran ms done o cs more (x ∷ xs) [] f n h r = elim h [ ]
  heard_ran ms done o cs more (x ∷ xs) (e ∷ es) f n h r = (
    (hear_steps o cs more x e f n.0 h.0).1
        ∙ subst (λ (d : ℕ). x.machine ≡ run_acts M step peek (ms d) (acts_for d (done ++ own_steps o cs None))) (sym (same_device cs x)) (run_other M step peek x.machine (ms (device_of x)) (device_of x) o done cs None n.0 r.0),
    heard_ran ms done o cs more xs es f n.1 h.1 r.1,
  )

  -- What came of a pull: a front of it, where the host's next change is at its moment or all stand as it leaves them so far; or the pull, and more.
  pub record HostNext (back : List Step) (ss : List (Station M)) : Type 0 where
    pub next : Step
    pub others : List Step
    pub is : back ≡ next ∷ others
    pub who : next.event.who ≡ Host
    pub moment : moment_of next ≡ at
    pub in_time : AllInTime M step peek at ss
    -- it is ATN's, or all answers come later
    pub begun : (next.event.change.line ≡ Atn) ⊎ AllLater M step peek at ss

  pub record PullWithin (from : List (Station M)) (ys : List Step) (fin : List (Rest × Port)) (es : List Event) (ss : List (Station M)) : Type 0 where
    pub front : List Step
    pub back : List Step
    pub parts : ys ≡ front ++ back
    pub shown_so : events_of front ≡ es
    pub state : HostNext back ss ⊎ AllOf (λ x e. Pulled x back e) ss fin
    pub ran : RanOn M step peek from front ss

  pub record PullPassed (from : List (Station M)) (ys : List Step) (fin : List (Rest × Port)) (es : List Event) (n2 : ℕ) (ss2 : List (Station M)) : Type 0 where
    pub more : List Event
    pub now : ℕ
    pub there : List (Station M)
    pub shown_so : es ≡ events_of ys ++ more
    pub plays : Plays M step peek now there more n2 ss2
    pub ends : AllOf (λ x e. (x.rest ≡ e.0) × (x.port ≡ e.1)) there fin
    pub ran : RanOn M step peek from ys there

  -- after all answers each stands where it should, once nothing is due before a later change of the host
  all_ended : (m : ℕ) (xs : List (Station M)) (es : List (Rest × Port)) → AllOf (λ x e. Pulled x [] e) xs es → AllInTime M step peek m xs → at + 60 < m → AllOf (λ x e. (x.rest ≡ e.0) × (x.port ≡ e.1)) xs es
  all_ended m [] [] h i l = tt
  all_ended m [] (e ∷ es) h i l = elim h [ ]
  all_ended m (x ∷ xs) [] h i l = elim h [ ]
  all_ended m (x ∷ xs) (e ∷ es) h i l = (one h.0.stand i.0, all_ended m xs es h.1 i.1 l)
    where
      one : Shows x [] e ⊎ Rests x [] e → IsInTime m (port_due x.port) → (x.rest ≡ e.0) × (x.port ≡ e.1)
      one (inl k) j =
          let some : (u : ℕ) → port_due x.port ≡ Some u → reaction_steps u (says (device_of x)) x.port ≡ [] → ⊥ = λ u d. no_steps u (says (device_of x)) x.port (some_shown u k.due (says (device_of x)) x.port k.starts.side k.other) in
          let z = ended (says (device_of x)) k.follows some in
          let c : Hearing Holding ≡ Hearing (Starting k.due) = sym h.0.end ∙ ap (λ (v : Port). v.side) z.1 ∙ k.starts.side in
          absurd cc
      one (inr k) j = by k.side
        where
          by : (x.port.side ≡ Hearing Holding) ⊎ ((u : ℕ) × Starts x u) → (x.rest ≡ e.0) × (x.port ≡ e.1)
          by (inl s) =
              let z = ended (says (device_of x)) k.follows (λ u d. absurd cc) in
              let same : x.port ≡ held x.port = ap (λ (v : Held). record { party = x.port.party; role = x.port.role; own = v; others = x.port.others; side = x.port.side }) k.own
              ∙ ap (λ (v : Side). record { party = x.port.party; role = x.port.role; own = lines false true; others = x.port.others; side = v }) s in
              (sym z.0, same ∙ sym z.1)
          by (inr s) =
              let late : m ≤ s.0 = in_time_le m s.0 (port_due x.port) j (ap (λ (v : Side). side_due v) s.1.side) in
              let soon = s.1.soon in
              absurd (omega (arith, late, soon, l))

  -- the answer of a drive
  pub answered : (t : ℕ) (x : Station M) (ys : List Step) (e : Rest × Port) → Pulled x ys e → Rests x ys e → port_due x.port ≡ Some t → (shown M step peek t x ≡ []) × (reaction_act (peek x.machine) x.port ≡ None) × Pulled (react M step peek t x) ys e
  answered t x ys e h k d = by k.side
    where
      by : (x.port.side ≡ Hearing Holding) ⊎ ((u : ℕ) × Starts x u) → (shown M step peek t x ≡ []) × (reaction_act (peek x.machine) x.port ≡ None) × Pulled (react M step peek t x) ys e
      by (inl s) = let c : Some t ≡ None = sym d ∙ ap (λ (v : Side). side_due v) s in absurd cc
      by (inr s) =
          let side = s.1.side in
          let low : x.port.others.clock_low ≡ true = ap (λ (v : Lines). v.clock_low) h.seen ∙ clock_held x.rest h.low in
          let same : reacted t (peek x.machine) x.port ≡ held x.port = start_held t s.0 (peek x.machine) x.port side low in (
            start_changes t s.0 (peek x.machine) x.port side ∙ ap (λ (v : Held). changes_between t v (lines false true)) k.own,
            start_act s.0 (peek x.machine) x.port side,
            record {
              seen = h.seen;
              low = h.low;
              end = h.end;
              stand = inr (record {
                side = inl (ap (λ (v : Port). v.side) same);
                own = ap (λ (v : Port). v.own) same;
                follows = subst (λ (v : Port). FollowsAmong (says (device_of x)) x.rest (held v) ys e.0 e.1) (sym same) k.follows;
              });
            },
          )

  -- an answer that shows is the next step
  pub record Answers (t : ℕ) (x : Station M) (ys : List Step) (e : Rest × Port) : Type 0 where
    pub more : List Step
    pub steps : ys ≡ own_steps (device_of x) (shown M step peek t x) None ++ more
    pub some : own_steps (device_of x) (shown M step peek t x) None ≡ [] → ⊥
    pub events : events_of (own_steps (device_of x) (shown M step peek t x) None) ≡ drive_events (device_of x) (shown M step peek t x)
    pub silent : reaction_act (peek x.machine) x.port ≡ None
    pub there : Pulled (react M step peek t x) more e

  pub shows_next : (t : ℕ) (x : Station M) (y : Step) (ys : List Step) (e : Rest × Port) → Pulled x (y ∷ ys) e → Shows x (y ∷ ys) e → port_due x.port ≡ Some t → y.event.who ≡ Drive (device_of x) → Answers t x (y ∷ ys) e
  shows_next t x y ys e h k d w =
      let side = k.starts.side in
      let p = says (device_of x) in
      let q = x.port in
      let z = own_next p k.follows w t d in
      let same : reaction_changes t p q ≡ shown M step peek t x = start_changes t k.due p q side ∙ sym (start_changes t k.due (peek x.machine) q side) in
      let steps : reaction_steps t p q ≡ own_steps (device_of x) (shown M step peek t x) None =
      ap (λ (v : Option Act). own_steps (device_of x) (reaction_changes t p q) v) (start_act k.due p q side) ∙ ap (λ (v : List Change). own_steps (device_of x) v None) same in
      let low : q.others.clock_low ≡ true = ap (λ (v : Lines). v.clock_low) h.seen ∙ clock_held x.rest h.low in
      let now : reacted t (peek x.machine) q ≡ held q = start_held t k.due (peek x.machine) q side low in
      let hold : reacted t p q ≡ held q = start_held t k.due p q side low in
      record {
        more = z.more;
        steps = z.steps ∙ ap (λ (v : List Step). v ++ z.more) steps;
        some = λ v. no_steps t p q (some_shown t k.due p q side k.other) (steps ∙ v);
        events = ap (λ (v : List Step). events_of v) (sym steps) ∙ reaction_events p t q ∙ ap (λ (v : List Change). drive_events (device_of x) v) same;
        silent = start_act k.due (peek x.machine) q side;
        there = record {
          seen = h.seen;
          low = h.low;
          end = h.end;
          stand = inr (record {
            side = inl (ap (λ (v : Port). v.side) now);
            own = ap (λ (v : Port). v.own) now;
            follows = subst (λ (v : Port). FollowsAmong p x.rest (held v) z.more e.0 e.1) (sym now) (subst (λ (v : Port). FollowsAmong p x.rest v z.more e.0 e.1) hold z.follows);
          });
        };
      }

  -- the first event of what a drive shows is its own
  shows_own : (t : ℕ) (x : Station M) (more : List Event) → (shown M step peek t x ≡ [] → ⊥) → FirstIs (device_of x) t (drive_events (device_of x) (shown M step peek t x) ++ more)
  shows_own t x more n = first_append (device_of x) t (drive_events (device_of x) (shown M step peek t x)) more (first_shown (device_of x) t x.port.own (Rattle.cbm_iec.specs.Ports.next_held (peek x.machine) x.port) n)

  own_step_first : (d t : ℕ) (y : Step) (ys : List Step) (more : List Event) → FirstIs d t (events_of (y ∷ ys) ++ more) → y.event.who ≡ Drive d
  own_step_first d t y ys more f = f.0

  no_host_first : (d t m : ℕ) (more : List Event) → NextHost m more → FirstIs d t more → ⊥
  no_host_first d t m [] n f = f
  no_host_first d t m (x ∷ xs) n f = host_no_drive d x.who n.0 f.0

  drives_following : (xs ys : List Step) → Every (λ s. NotHost s.event.who) (xs ++ ys) → Every (λ s. NotHost s.event.who) ys
  drives_following [] ys a = a
  drives_following (x ∷ xs) ys a = drives_following xs ys a.1

  not_host_drive : (w : Who) → NotHost w → w ≡ Host → ⊥
  not_host_drive Host n e = n
  not_host_drive (Drive o) n e = cc

  -- after a reaction: what all stand like, and that the devices still rise
  record Reacting (t : ℕ) (before : List (Station M)) (o : Station M) (afterwards : List (Station M)) (ys : List Step) (es : List (Rest × Port)) : Type 0 where
    own : List Step
    more : List Step
    steps : ys ≡ own ++ more
    events : events_of own ≡ drive_events (device_of o) (shown M step peek t o)
    pulled : AllOf (λ x e. Pulled x more e) (reacting M step peek t before o afterwards) es
    ran : RanOn M step peek (before ++ o ∷ afterwards) own (reacting M step peek t before o afterwards)

  reacts_silent : (t : ℕ) (before : List (Station M)) (o : Station M) (afterwards : List (Station M)) (ys : List Step) (es : List (Rest × Port)) → port_due o.port ≡ Some t → (k : PartsOf (λ x e. Pulled x ys e) before o afterwards es) → Rests o ys k.own → Reacting t before o afterwards ys es
  reacts_silent t before o afterwards ys es d k r =
      let a = answered t o ys k.own k.one r d in
      let is = silent_reacting t before o afterwards a.0 in
      record {
        own = [];
        more = ys;
        steps = refl;
        events = ap (λ (v : List Change). drive_events (device_of o) v) (sym a.0);
        pulled = subst (λ (v : List (Station M)). AllOf (λ x e. Pulled x ys e) v es) (sym is)
            (subst (λ (v : List (Rest × Port)). AllOf (λ x e. Pulled x ys e) (before ++ react M step peek t o ∷ afterwards) v) (sym k.is) (all_joined (λ x e. Pulled x ys e) before (react M step peek t o) afterwards k.first k.last k.own k.all_first a.2 k.all_last));
        ran = subst (λ (v : List (Station M)). RanOn M step peek (before ++ o ∷ afterwards) [] v) (sym is) (silent_ran t before o afterwards a.1);
      }

  reacts_shown : (t : ℕ) (before : List (Station M)) (o : Station M) (afterwards : List (Station M)) (ys : List Step) (es : List (Rest × Port)) → Rising M step peek says place (before ++ o ∷ afterwards) → (k : PartsOf (λ x e. Pulled x ys e) before o afterwards es) → Answers t o ys k.own → Reacting t before o afterwards ys es
  reacts_shown t before o afterwards ys es rising k a =
      let d = device_of o in
      let cs = shown M step peek t o in
      let own = own_steps d cs None in
      let before_o = others_before M step peek says place before o afterwards rising in
      let after_o = others_after M step peek says place d afterwards (rising_first M step peek says place before o afterwards rising) in
      let first : AllOf (λ x e. Pulled x (own ++ a.more) e) before k.first = subst (λ (v : List Step). AllOf (λ x e. Pulled x v e) before k.first) a.steps k.all_first in
      let last : AllOf (λ x e. Pulled x (own ++ a.more) e) afterwards k.last = subst (λ (v : List Step). AllOf (λ x e. Pulled x v e) afterwards k.last) a.steps k.all_last in
      let hear = λ (x : Station M) (e : Rest × Port) (n : nat_eq (device_of x) d ≡ false) (h : Pulled x (own ++ a.more) e). (hear_steps d cs a.more x e a.some n h).0 in
      record {
        own = own;
        more = a.more;
        steps = a.steps;
        events = a.events;
        pulled = subst (λ (v : List (Rest × Port)). AllOf (λ x e. Pulled x a.more e) (reacting M step peek t before o afterwards) v) (sym k.is)
            (all_joined (λ x e. Pulled x a.more e) (map (λ x. hear_all M step peek cs x) before) (react M step peek t o) (map (λ x. hear_all M step peek cs x) afterwards) k.first k.last k.own
            (all_others (λ x e. Pulled x (own ++ a.more) e) (λ x e. Pulled x a.more e) (λ x. hear_all M step peek cs x) d before k.first hear before_o first) a.there
            (all_others (λ x e. Pulled x (own ++ a.more) e) (λ x e. Pulled x a.more e) (λ x. hear_all M step peek cs x) d afterwards k.last hear after_o last));
        ran = record {
          runs = λ ms done h.
              let r = ran_before M step peek ms done before o afterwards h in
              let mine : HasRun M step peek ms (done ++ own) (react M step peek t o) =
              ap (λ (v : Option Act). acted M step v o.machine) a.silent ∙ run_on M step peek o.machine (ms d) d done own None r.1 (λ x. own_acted M step peek d cs None x a.some) in
              ran_joined M step peek ms (done ++ own) (map (λ x. hear_all M step peek cs x) before) (react M step peek t o) (map (λ x. hear_all M step peek cs x) afterwards)
              (heard_ran ms done d cs a.more before k.first a.some before_o first r.0) mine (heard_ran ms done d cs a.more afterwards k.last a.some after_o last r.2);
        };
      }

  -- The drives' answers, as they come.
  along_drives : {n n2 : ℕ} {ss ss2 : List (Station M)} {es : List Event} → Plays M step peek n ss es n2 ss2 → (ys : List Step) (fin : List (Rest × Port)) → AllOf (λ x e. Pulled x ys e) ss fin → Every (λ s. NotHost s.event.who) ys → Rising M step peek says place ss
      → (rest more : List Event) → es ++ rest ≡ events_of ys ++ more → NextHost (at + 60) more → PullWithin ss ys fin es ss2 ⊎ PullPassed ss ys fin es n2 ss2
  along_drives {ss = ss} (stays b e k f) ys fin g a r rest more i next =
      inl (record { front = []; back = ys; parts = refl; shown_so = sym e; state = inr (subst (λ (v : List (Station M)). AllOf (λ x e. Pulled x ys e) v fin) (sym f) g); ran = ran_stays M step peek f })
  along_drives {n} {n2} {ss} {ss2} {es} (change c moreE b l i e p) [] fin g a r rest more j next =
      let same : host_event c ∷ (moreE ++ rest) ≡ more = sym (ap (λ (v : List Event). v ++ rest) e) ∙ j in
      let late : (Host ≡ Host) × (at + 60 < c.moment) = subst (λ (v : List Event). NextHost (at + 60) v) (sym same) next in
      inr (record { more = es; now = n; there = ss; shown_so = refl; plays = change c moreE b l i e p; ends = all_ended c.moment ss fin g i late.1; ran = ran_stays M step peek refl })
  along_drives {n} {n2} {ss} {ss2} {es} (change c moreE b l i e p) (y ∷ ys) fin g a r rest more j next =
      let same : host_event c ∷ (moreE ++ rest) ≡ y.event ∷ (events_of ys ++ more) = sym (ap (λ (v : List Event). v ++ rest) e) ∙ j in
      absurd (not_host_drive y.event.who a.0 (ap (λ (v : Event). v.who) (sym (event_head (host_event c) y.event (moreE ++ rest) (events_of ys ++ more) same))))
  along_drives {n} {n2} {ss} {ss2} {es} (reaction t before o afterwards moreE b u f e p) ys fin g a r rest more j next =
      let g2 : AllOf (λ x e. Pulled x ys e) (before ++ o ∷ afterwards) fin = subst (λ (v : List (Station M)). AllOf (λ x e. Pulled x ys e) v fin) u g in
      let r2 : Rising M step peek says place (before ++ o ∷ afterwards) = subst (λ (v : List (Station M)). Rising M step peek says place v) u r in
      let k = parts_of (λ x e. Pulled x ys e) before o afterwards fin g2 in
      let keep = devs_react M step peek says place t before o afterwards in
      let same : drive_events (device_of o) (shown M step peek t o) ++ (moreE ++ rest) ≡ events_of ys ++ more = sym (append_assoc (drive_events (device_of o) (shown M step peek t o)) moreE rest) ∙ sym (ap (λ (v : List Event). v ++ rest) e) ∙ j in
      let go : (z : Reacting t before o afterwards ys fin) → PullWithin (reacting M step peek t before o afterwards) z.more fin moreE ss2 ⊎ PullPassed (reacting M step peek t before o afterwards) z.more fin moreE n2 ss2 =
      λ z. along_drives p z.more fin z.pulled (drives_following z.own z.more (subst (λ (v : List Step). Every (λ s. NotHost s.event.who) v) z.steps a)) (subst (λ (v : List ℕ). Rattle.cbm_session.proofs.headline.AlongBus.RisingIn M step peek says place v) (sym keep) r2) rest more
      (same_after_it (drive_events (device_of o) (shown M step peek t o)) (moreE ++ rest) (events_of z.more ++ more) (same ∙ ap (λ (v : List Step). events_of v ++ more) z.steps ∙ ap (λ (v : List Event). v ++ more) (events_append z.own z.more) ∙ append_assoc (events_of z.own) (events_of z.more) more ∙ ap (λ (v : List Event). v ++ (events_of z.more ++ more)) z.events)) next in
      let z = next_of ys k same f.due r2 next in
      joined z (go z)
    where
      joined : (z : Reacting t before o afterwards ys fin) → PullWithin (reacting M step peek t before o afterwards) z.more fin moreE ss2 ⊎ PullPassed (reacting M step peek t before o afterwards) z.more fin moreE n2 ss2 → PullWithin ss ys fin es ss2 ⊎ PullPassed ss ys fin es n2 ss2
      joined z (inl w) = inl (record {
        front = z.own ++ w.front;
        back = w.back;
        parts = z.steps ∙ ap (λ (v : List Step). z.own ++ v) w.parts ∙ sym (append_assoc z.own w.front w.back);
        shown_so = events_append z.own w.front ∙ ap (λ (v : List Event). v ++ events_of w.front) z.events ∙ ap (λ (v : List Event). drive_events (device_of o) (shown M step peek t o) ++ v) w.shown_so ∙ sym e;
        state = w.state;
        ran = subst (λ (v : List (Station M)). RanOn M step peek v (z.own ++ w.front) ss2) (sym u) (ran_then M step peek z.ran w.ran);
      })
      joined z (inr w) = inr (record {
        more = w.more;
        now = w.now;
        there = w.there;
        shown_so = e ∙ ap (λ (v : List Event). drive_events (device_of o) (shown M step peek t o) ++ v) w.shown_so ∙ ap (λ (v : List Event). v ++ (events_of z.more ++ w.more)) (sym z.events)
            ∙ sym (append_assoc (events_of z.own) (events_of z.more) w.more) ∙ ap (λ (v : List Event). v ++ w.more) (sym (events_append z.own z.more)) ∙ ap (λ (v : List Step). events_of v ++ w.more) (sym z.steps);
        plays = w.plays;
        ends = w.ends;
        ran = subst (λ (v : List (Station M)). RanOn M step peek v ys w.there) (sym u) (subst (λ (v : List Step). RanOn M step peek (before ++ o ∷ afterwards) v w.there) (sym z.steps) (ran_then M step peek z.ran w.ran));
      })

      by_stand : (ys : List Step) (k : PartsOf (λ x e. Pulled x ys e) before o afterwards fin) → FirstIs (device_of o) t (events_of ys ++ more) → port_due o.port ≡ Some t → Rising M step peek says place (before ++ o ∷ afterwards) → NextHost (at + 60) more → Shows o ys k.own → Reacting t before o afterwards ys fin
      by_stand [] k first d rising n s = absurd (no_host_first (device_of o) t (at + 60) more n first)
      by_stand (y ∷ ys) k first d rising n s = reacts_shown t before o afterwards (y ∷ ys) fin rising k (shows_next t o y ys k.own k.one s d (own_step_first (device_of o) t y ys more first))

      next_of : (ys : List Step) (k : PartsOf (λ x e. Pulled x ys e) before o afterwards fin) → drive_events (device_of o) (shown M step peek t o) ++ (moreE ++ rest) ≡ events_of ys ++ more → port_due o.port ≡ Some t → Rising M step peek says place (before ++ o ∷ afterwards) → NextHost (at + 60) more → Reacting t before o afterwards ys fin
      next_of ys k same d rising n = go k.one.stand
        where
          go : Shows o ys k.own ⊎ Rests o ys k.own → Reacting t before o afterwards ys fin
          go (inl s) =
              let some : shown M step peek t o ≡ [] → ⊥ = some_shown t s.due (peek o.machine) o.port s.starts.side s.other in
              by_stand ys k (subst (λ (v : List Event). FirstIs (device_of o) t v) same (shows_own t o (moreE ++ rest) some)) d rising n s
          go (inr s) = reacts_silent t before o afterwards ys fin d k s

  -- A drive that the pull reached, also where the host's other changes of that moment don't come.
  abbrev pub Reached : Station M → Type 0
  Reached x = ((u : ℕ) × ((x.port.side ≡ Hearing (Starting u)) × (at < u))) ⊎ ((port_due x.port ≡ None) ⊎ ((u : ℕ) × ((x.port.side ≡ Hearing (Freeing u)) × (at < u) × (x.port.own.data_low ≡ true))))

  abbrev pub AllReached : List (Station M) → Type 0
  AllReached [] = Unit {0}
  AllReached (x ∷ xs) = Reached x × AllReached xs

  reached_time : (xs : List (Station M)) → AllReached xs → AllInTime M step peek at xs
  reached_time [] h = tt
  reached_time (x ∷ xs) h = (one h.0, reached_time xs h.1)
    where
      due_at : (u : ℕ) → port_due x.port ≡ Some u → at < u → IsInTime at (port_due x.port)
      due_at u e l = subst (λ (o : Option ℕ). IsInTime at o) (sym e) (omega (arith, l))

      one : Reached x → IsInTime at (port_due x.port)
      one (inl k) = due_at k.0 (ap (λ (v : Side). side_due v) k.1.0) k.1.1
      one (inr (inl k)) = subst (λ (v : Option ℕ). IsInTime at v) (sym k) tt
      one (inr (inr k)) = due_at k.0 (ap (λ (v : Side). side_due v) k.1.0) k.1.1

  reached_later : (xs : List (Station M)) → AllReached xs → AllLater M step peek at xs
  reached_later [] h = tt
  reached_later (x ∷ xs) h = (one h.0, reached_later xs h.1)
    where
      due_at : (u : ℕ) → port_due x.port ≡ Some u → at < u → IsLaterDue at (port_due x.port)
      due_at u e l = subst (λ (o : Option ℕ). IsLaterDue at o) (sym e) l

      one : Reached x → IsLaterDue at (port_due x.port)
      one (inl k) = due_at k.0 (ap (λ (v : Side). side_due v) k.1.0) k.1.1
      one (inr (inl k)) = subst (λ (v : Option ℕ). IsLaterDue at v) (sym k) tt
      one (inr (inr k)) = due_at k.0 (ap (λ (v : Side). side_due v) k.1.0) k.1.1

  freeing_shows : (t : ℕ) (own : Held) → own.data_low ≡ true → changes_between t own (lines own.clock_low false) ≡ [] → ⊥
  freeing_shows t own h k = go own.clock_low own.data_low h k
    where
      go : (c d : Bool) → d ≡ true → changes_between t (lines c d) (lines c false) ≡ [] → ⊥
      go true true h k = absurd cc
      go false true h k = absurd cc
      go c false h k = absurd cc

  -- what it does then without showing it
  silent_reached : (t : ℕ) (x : Station M) → Reached x → port_due x.port ≡ Some t → shown M step peek t x ≡ [] → (reaction_act (peek x.machine) x.port ≡ None) × Reached (react M step peek t x)
  silent_reached t x (inl k) d e =
      let q = x.port in
      let p = peek x.machine in
      let side = k.1.0 in
      let at_t : k.0 ≡ t = (let c : Some k.0 ≡ Some t = sym (ap (λ (v : Side). side_due v) side) ∙ d in cc) in
      let later = k.1.1 in
      let late : at < t = omega (arith, later, at_t) in
      let own : (reacted t p q).own ≡ lines false true = ap (λ (v : Side). side_held q.party.pace p q.own v) side in
      let now : (reacted t p q).side ≡ Hearing (after_start q.party.pace q.party.reaction t q.others.clock_low) = ap (λ (v : Side). side_after q.party.pace q.party.reaction t q.others p v) side in
      (start_act k.0 p q side, go x.port.party.pace q.others.clock_low late (ap (λ (h : Held). h.data_low) own) now)
    where
      go : (e : Pace) (low : Bool) → at < t → (react M step peek t x).port.own.data_low ≡ true → (react M step peek t x).port.side ≡ Hearing (after_start e x.port.party.reaction t low) → Reached (react M step peek t x)
      go Profile true l o s = inr (inl (ap (λ (v : Side). side_due v) s))
      go Kernal true l o s = inr (inl (ap (λ (v : Side). side_due v) s))
      go Kernal false l o s = inr (inl (ap (λ (v : Side). side_due v) s))
      go Profile false l o s = inr (inr (t + x.port.party.reaction, (s, omega (arith, l), o)))
  silent_reached t x (inr (inl k)) d e = let c : Some t ≡ None = sym d ∙ k in absurd cc
  silent_reached t x (inr (inr k)) d e =
      let q = x.port in
      let changes : shown M step peek t x ≡ changes_between t q.own (lines q.own.clock_low false) = ap (λ (v : Side). changes_between t q.own (side_held q.party.pace (peek x.machine) q.own v)) k.1.0 in
      absurd (freeing_shows t q.own k.1.2 (sym changes ∙ e))

  reached_parts : (before : List (Station M)) (o : Station M) (afterwards : List (Station M)) → AllReached (before ++ o ∷ afterwards) → AllReached before × Reached o × AllReached afterwards
  reached_parts [] o afterwards h = (tt, h.0, h.1)
  reached_parts (b ∷ before) o afterwards h = let k = reached_parts before o afterwards h.1 in ((h.0, k.0), k.1, k.2)

  reached_joined : (before : List (Station M)) (o : Station M) (afterwards : List (Station M)) → AllReached before → Reached o → AllReached afterwards → AllReached (before ++ o ∷ afterwards)
  reached_joined [] o afterwards a b c = (b, c)
  reached_joined (x ∷ before) o afterwards a b c = (a.0, reached_joined before o afterwards a.1 b c)

  -- Where a change of the host at the pull's moment is the next one and that moment is over, nothing more shows.
  pub no_more : {n n2 : ℕ} {ss ss2 : List (Station M)} {es : List Event} → Plays M step peek n ss es n2 ss2 → at < n → AllReached ss → (x : Event) (tail rest : List Event) → x.who ≡ Host → x.change.moment ≡ at → es ++ rest ≡ x ∷ tail
      → (es ≡ []) × AllReached ss2 × RanOn M step peek ss [] ss2
  no_more (stays b e k f) l g x tail rest w m i = (e, subst (λ (v : List (Station M)). AllReached v) (sym f) g, ran_stays M step peek f)
  no_more (change c more b late i e p) l g x tail rest w m j =
      let same : host_event c ∷ (more ++ rest) ≡ x ∷ tail = sym (ap (λ (v : List Event). v ++ rest) e) ∙ j in
      let now : c.moment ≡ at = ap (λ (v : Event). v.change.moment) (event_head (host_event c) x (more ++ rest) tail same) ∙ m in
      absurd (omega (arith, late, l, now))
  no_more {ss = ss} {ss2 = ss2} {es = es} (reaction t before o afterwards more b u f e p) l g x tail rest w m j =
      let g2 = reached_parts before o afterwards (subst (λ (v : List (Station M)). AllReached v) u g) in
      let go : (cs : List Change) → shown M step peek t o ≡ cs → (es ≡ []) × AllReached ss2 × RanOn M step peek ss [] ss2 = by_changes g2 (λ i s. no_more p (late_now g2.1 f.due) i x tail rest w m s) in
      go (shown M step peek t o) refl
    where
      late_now : Reached o → port_due o.port ≡ Some t → at < suc t
      late_now (inl k) d = let s : Some t ≡ Some k.0 = sym d ∙ ap (λ (v : Side). side_due v) k.1.0 in let n : t ≡ k.0 = cc in let a = k.1.1 in omega (arith, n, a)
      late_now (inr (inl k)) d = let c : Some t ≡ None = sym d ∙ k in absurd cc
      late_now (inr (inr k)) d = let s : Some t ≡ Some k.0 = sym d ∙ ap (λ (v : Side). side_due v) k.1.0 in let n : t ≡ k.0 = cc in let a = k.1.1 in omega (arith, n, a)

      by_changes : AllReached before × Reached o × AllReached afterwards → (AllReached (reacting M step peek t before o afterwards) → more ++ rest ≡ x ∷ tail → (more ≡ []) × AllReached ss2 × RanOn M step peek (reacting M step peek t before o afterwards) [] ss2)
          → (cs : List Change) → shown M step peek t o ≡ cs → (es ≡ []) × AllReached ss2 × RanOn M step peek ss [] ss2
      by_changes g next [] k =
          let a = silent_reached t o g.1 f.due k in
          let is = silent_reacting t before o afterwards k in
          let e2 : es ≡ more = e ∙ ap (λ (v : List Change). drive_events (device_of o) v ++ more) k in
          let z = next (subst (λ (v : List (Station M)). AllReached v) (sym is) (reached_joined before (react M step peek t o) afterwards g.0 a.1 g.2)) (sym (ap (λ (v : List Event). v ++ rest) e2) ∙ j) in
          let ran : RanOn M step peek (before ++ o ∷ afterwards) [] (reacting M step peek t before o afterwards) = subst (λ (v : List (Station M)). RanOn M step peek (before ++ o ∷ afterwards) [] v) (sym is) (silent_ran t before o afterwards a.0) in
          (e2 ∙ z.0, z.1, subst (λ (v : List (Station M)). RanOn M step peek v [] ss2) (sym u) (ran_then M step peek ran z.2))
      by_changes g next (c ∷ cs) k =
          let same : (record { who = Drive (device_of o); change = c }) ∷ (drive_events (device_of o) cs ++ (more ++ rest)) ≡ x ∷ tail =
          sym (append_assoc (drive_events (device_of o) (c ∷ cs)) more rest) ∙ sym (ap (λ (v : List Event). v ++ rest) (e ∙ ap (λ (v : List Change). drive_events (device_of o) v ++ more) k)) ∙ j in
          absurd (host_no_drive (device_of o) x.who w (ap (λ (v : Event). v.who) (sym (event_head (record { who = Drive (device_of o); change = c }) x (drive_events (device_of o) cs ++ (more ++ rest)) tail same))))

  -- The host's part of the pull: a change of CLOCK or DATA at its moment.
  abbrev pub OfHost : Step → Type 0
  OfHost s = (s.event.who ≡ Host) × (moment_of s ≡ at) × (is_atn s.event.change.line ≡ false)

  waits_told : (c : Change) (y : Step) (ys : List Step) (x : Station M) (e : Rest × Port) → y.event ≡ host_event c → c.moment ≡ at → is_atn c.line ≡ false → Waits x (y ∷ ys) e
      → Waits (tell M step peek c x) ys e × CountsFor (device_of x) y.mark (told_act (wires_of (after_the_host c.line c.way x.rest)) x.port)
  waits_told c y ys x e h m atn w =
      let f : FollowsAmong (says (device_of x)) x.rest x.port (record { event = event_of Host c.moment c.line c.way; mark = y.mark } ∷ ys) e.0 e.1 =
      subst (λ (v : Event). FollowsAmong (says (device_of x)) x.rest x.port (record { event = v; mark = y.mark } ∷ ys) e.0 e.1) h w.follows in
      let later = w.starts.later in
      let soon : c.moment ≤ w.due = omega (arith, later, m) in
      let g = among_told (says (device_of x)) f (subst (λ (o : Option ℕ). IsInTime c.moment o) (sym (ap (λ (v : Side). side_due v) w.starts.side)) soon) in
      let side = starting_told c.moment w.due x.rest (after_the_host c.line c.way x.rest) x.port w.seen (host_atn c.line c.way x.rest atn) w.starts.side in
      (record { due = w.due; starts = record { side = side.0; later = w.starts.later; soon = w.starts.soon }; seen = refl; follows = g.1; end = w.end; end_low = w.end_low }, g.0)

  all_told : (c : Change) (y : Step) (ys : List Step) (xs : List (Station M)) (es : List (Rest × Port)) → y.event ≡ host_event c → c.moment ≡ at → is_atn c.line ≡ false → AllOf (λ x e. Waits x (y ∷ ys) e) xs es
      → AllOf (λ x e. Waits x ys e) (map (λ x. tell M step peek c x) xs) es × AllOf (λ x e. CountsFor (device_of x) y.mark (told_act (wires_of (after_the_host c.line c.way x.rest)) x.port)) xs es
  all_told c y ys [] [] h m atn a = (tt, tt)
  all_told c y ys [] (e ∷ es) h m atn a = elim a [ ]
  all_told c y ys (x ∷ xs) [] h m atn a = elim a [ ]
  all_told c y ys (x ∷ xs) (e ∷ es) h m atn a =
      let one = waits_told c y ys x e h m atn a.0 in
      let more = all_told c y ys xs es h m atn a.1 in
      ((one.0, more.0), (one.1, more.1))

  -- what the machines run with a change of the host
  pub counted_ran : (c : Change) (y : Step) (xs : List (Station M)) (es : List (Rest × Port)) → AllOf (λ x e. CountsFor (device_of x) y.mark (told_act (wires_of (after_the_host c.line c.way x.rest)) x.port)) xs es → RanOn M step peek xs (y ∷ []) (map (λ x. tell M step peek c x) xs)
  counted_ran c y xs es a = record { runs = λ ms done h. go ms done xs es a h }
    where
      go : (ms : ℕ → M) (done : List Step) (xs : List (Station M)) (es : List (Rest × Port)) → AllOf (λ x e. CountsFor (device_of x) y.mark (told_act (wires_of (after_the_host c.line c.way x.rest)) x.port)) xs es → AllRan M step peek ms done xs
          → AllRan M step peek ms (done ++ y ∷ []) (map (λ x. tell M step peek c x) xs)
      go ms done [] es a h = tt
      go ms done (x ∷ xs) [] a h = elim a [ ]
      go ms done (x ∷ xs) (e ∷ es) a h =
          (run_on M step peek x.machine (ms (device_of x)) (device_of x) done (y ∷ []) (told_act (wires_of (after_the_host c.line c.way x.rest)) x.port) h.0 (λ m. mark_acted M step peek (device_of x) y.mark (told_act (wires_of (after_the_host c.line c.way x.rest)) x.port) m a.0), go ms done xs es a.1 h.1)

  waits_reached : (ys : List Step) (xs : List (Station M)) (es : List (Rest × Port)) → AllOf (λ x e. Waits x ys e) xs es → AllReached xs
  waits_reached ys [] [] a = tt
  waits_reached ys [] (e ∷ es) a = elim a [ ]
  waits_reached ys (x ∷ xs) [] a = elim a [ ]
  waits_reached ys (x ∷ xs) (e ∷ es) a = (inl (a.0.due, (a.0.starts.side, a.0.starts.later)), waits_reached ys xs es a.1)

  -- after the host's part
  waits_pulled : (ds : List Step) (xs : List (Station M)) (es : List (Rest × Port)) → Every (λ s. NotHost s.event.who) ds → AllOf (λ x e. Waits x ds e) xs es → AllOf (λ x e. Pulled x ds e) xs es
  waits_pulled ds [] [] n a = tt
  waits_pulled ds [] (e ∷ es) n a = elim a [ ]
  waits_pulled ds (x ∷ xs) [] n a = elim a [ ]
  waits_pulled ds (x ∷ xs) (e ∷ es) n a = (one a.0, waits_pulled ds xs es n a.1)
    where
      one : Waits x ds e → Pulled x ds e
      one w =
          let d = device_of x in
          let host : x.rest.host ≡ e.0.host = sym (ap (λ (v : Rest). v.host) (follows_rest (says d) w.follows) ∙ host_stays d x.rest ds n) in
          let low : x.rest.host.clock_low ≡ true = ap (λ (v : Lines). v.clock_low) host ∙ w.end_low in
          record {
            seen = w.seen;
            low = low;
            end = w.end;
            stand = elim (holds_data_alone x.port.own) [
              | inl own ↦ inr (record { side = inr (w.due, w.starts); own = own; follows = settled (says d) w.due w.follows n w.seen low w.starts.side own w.end })
              | inr other ↦ inl (record { due = w.due; starts = w.starts; other = other; follows = w.follows })
            ];
          }

  -- one more step of the host before what came
  pub host_first_within : {from now ss : List (Station M)} {ys : List Step} {fin : List (Rest × Port)} {es more : List Event} (y : Step) (c : Change) → y.event ≡ host_event c → es ≡ host_event c ∷ more → RanOn M step peek from (y ∷ []) now → PullWithin now ys fin more ss → PullWithin from (y ∷ ys) fin es ss
  host_first_within y c same e ran w = record {
    front = y ∷ w.front;
    back = w.back;
    parts = ap (λ (v : List Step). y ∷ v) w.parts;
    shown_so = ap (λ (v : Event). v ∷ events_of w.front) same ∙ ap (λ (v : List Event). host_event c ∷ v) w.shown_so ∙ sym e;
    state = w.state;
    ran = ran_then M step peek ran w.ran;
  }

  pub host_first_passed : {from now ss2 : List (Station M)} {ys : List Step} {fin : List (Rest × Port)} {es more : List Event} {n2 : ℕ} (y : Step) (c : Change) → y.event ≡ host_event c → es ≡ host_event c ∷ more → RanOn M step peek from (y ∷ []) now → PullPassed now ys fin more n2 ss2 → PullPassed from (y ∷ ys) fin es n2 ss2
  host_first_passed {ys = ys} y c same e ran w = record {
    more = w.more;
    now = w.now;
    there = w.there;
    shown_so = e ∙ ap (λ (v : List Event). host_event c ∷ v) w.shown_so ∙ ap (λ (v : Event). v ∷ (events_of ys ++ w.more)) (sym same);
    plays = w.plays;
    ends = w.ends;
    ran = ran_then M step peek ran w.ran;
  }

  -- The host's changes of CLOCK and DATA at the pull's moment, then the answers.
  pub along_host : {n n2 : ℕ} {ss ss2 : List (Station M)} {es : List Event} → Plays M step peek n ss es n2 ss2 → (hs ds : List Step) (fin : List (Rest × Port)) → AllOf (λ x e. Waits x (hs ++ ds) e) ss fin → Every OfHost hs → Every (λ s. NotHost s.event.who) ds
      → Rising M step peek says place ss → (rest more : List Event) → es ++ rest ≡ events_of (hs ++ ds) ++ more → NextHost (at + 60) more → PullWithin ss (hs ++ ds) fin es ss2 ⊎ PullPassed ss (hs ++ ds) fin es n2 ss2
  along_host {ss = ss} p [] ds fin g h n r rest more i next = along_drives p ds fin (waits_pulled ds ss fin n g) n r rest more i next
  along_host {ss = ss} {ss2 = ss2} (stays b e k f) (y ∷ hs) ds fin g h n r rest more i next =
      inl (record {
        front = [];
        back = y ∷ (hs ++ ds);
        parts = refl;
        shown_so = sym e;
        state = inl (record { next = y; others = hs ++ ds; is = refl; who = h.0.0; moment = h.0.1; in_time = subst (λ (v : List (Station M)). AllInTime M step peek at v) (sym f) (reached_time ss (waits_reached (y ∷ (hs ++ ds)) ss fin g)); begun = inr (subst (λ (v : List (Station M)). AllLater M step peek at v) (sym f) (reached_later ss (waits_reached (y ∷ (hs ++ ds)) ss fin g))) });
        ran = ran_stays M step peek f;
      })
  along_host {n = k} {n2 = n2} {ss = ss} {ss2 = ss2} {es = es} (change c moreE b l i e p) (y ∷ hs) ds fin g h n r rest more j next =
      let all : host_event c ∷ (moreE ++ rest) ≡ y.event ∷ (events_of (hs ++ ds) ++ more) = sym (ap (λ (v : List Event). v ++ rest) e) ∙ j in
      let same : y.event ≡ host_event c = sym (event_head (host_event c) y.event (moreE ++ rest) (events_of (hs ++ ds) ++ more) all) in
      let moment : c.moment ≡ at = ap (λ (v : Event). v.change.moment) (sym same) ∙ h.0.1 in
      let atn : is_atn c.line ≡ false = ap (λ (v : Event). is_atn v.change.line) (sym same) ∙ h.0.2 in
      let told = all_told c y (hs ++ ds) ss fin same moment atn g in
      let keep = devs_tell M step peek says place c ss in
      let ran = counted_ran c y ss fin told.1 in
      let go = along_host {n = c.moment} p hs ds fin told.0 h.1 n (subst (λ (v : List ℕ). Rattle.cbm_session.proofs.headline.AlongBus.RisingIn M step peek says place v) (sym keep) r) rest more (event_tail (host_event c) y.event (moreE ++ rest) (events_of (hs ++ ds) ++ more) all) next in
      elim go [
        | inl w ↦ inl (host_first_within y c same e ran w)
        | inr w ↦ inr (host_first_passed y c same e ran w)
      ]
  along_host {ss = ss} {ss2 = ss2} {es = es} (reaction t before o afterwards moreE b u f e p) (y ∷ hs) ds fin g h n r rest more j next =
      let x = no_more_from (waits_reached (y ∷ (hs ++ ds)) ss fin g) in
      inl (record {
        front = [];
        back = y ∷ (hs ++ ds);
        parts = refl;
        shown_so = sym x.0;
        state = inl (record { next = y; others = hs ++ ds; is = refl; who = h.0.0; moment = h.0.1; in_time = reached_time ss2 x.1; begun = inr (reached_later ss2 x.1) });
        ran = x.2;
      })
    where
      no_more_from : AllReached ss → (es ≡ []) × AllReached ss2 × RanOn M step peek ss [] ss2
      no_more_from a = no_more {n = suc at} (reaction t before o afterwards moreE b u f e p) (omega arith) a y.event (events_of (hs ++ ds) ++ more) rest h.0.0 h.0.1 j
