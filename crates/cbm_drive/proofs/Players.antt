-- A player gives the events of a play one by one.
use Rattle.std.proofs.Common.{◌≡◌, ℕ, ◌+◌, ◌<◌, ◌≤◌, Bool, List, [], ◌∷◌, ◌++◌, map, Option, Some, None, refl, sym, ap, subst, ◌∙◌, arith}
use Rattle.std.proofs.lemmas.List.{append_assoc, append-nil}
use Rattle.cbm_iec.specs.declared.machine.Act.{Act}
use Rattle.std.specs.Prelude.{◌^◌, IfSome, IsSome, MatchOption}
use Rattle.cbm_iec.specs.declared.event.Event.{Event}
use Rattle.cbm_iec.specs.declared.event.Who.TheVariants.{Host, Drive}
use Rattle.cbm_iec.specs.declared.event.Who.{Who}
use Rattle.cbm_iec.specs.declared.lines.Change.{Change}
use Rattle.cbm_iec.specs.declared.lines.Lines.{Lines}
use Rattle.cbm_session.specs.Playing.{Station, Plays, tell, host_event, drive_events}
use Rattle.cbm_session.proofs.headline.Keeping.{plays_then}
use Rattle.cbm_drive.specs.Cables.{Cabled}
use Rattle.cbm_drive.specs.Played.{HasSettled}
use Rattle.cbm_drive.specs.Players.{Turns, pending, at_most, IsDrives, IsLessLeft, IsGivenBefore, IsNextEvent, IsWaitingFrom, from_after, IsSecond, IsAfter, HasGiven, IsFinished}
use Rattle.cbm_drive.specs.Progress.{left}
use Rattle.cbm_drive.specs.Reactions.{AreAtMoment}
use Rattle.cbm_drive.specs.Seats.{Seated, IsBusAt, AreInTime}
use Rattle.cbm_drive.proofs.Played.{one_change}

-- a change that waits from a limit on waits after what comes before the limit
pub waits_after : (t limit : ℕ) (w : Option Change) → t < limit → IsWaitingFrom limit w → IsWaitingFrom (t + 1) w
waits_after t limit None l h = tt
waits_after t limit (Some c) l h = (let from = h.0 in omega (arith, l, from), h.1)

pub waits_for : (limit : ℕ) (w : Option Change) (c : Change) → w ≡ Some c → limit ≤ c.moment → c.moment < 2 ^ 59 → IsWaitingFrom limit w
waits_for limit w c e l m = subst (IsWaitingFrom limit) (sym e) (l, m)

pub waits_past : (upto : ℕ) (w : Option Change) → IsWaitingFrom (upto + 1) w → IfSome w (λ c. upto < c.moment)
waits_past upto None h = tt
waits_past upto (Some c) h = (let from = h.0 in omega (arith, from))

-- the first change of a reaction is of its moment
first_at : (t device : ℕ) (cs : List Change) (e : Event) (more : List Event) → AreAtMoment t cs → drive_events device cs ≡ e ∷ more → e.change.moment ≡ t
first_at t device [] e more h k = absurd (cc)
first_at t device (c ∷ cs) e more h k = (let same : (record { who = Drive device; change = c }) ≡ e = cc in sym (ap (λ (x : Event). x.change.moment) same) ∙ h.0)

pub after_match : {A : Type 0} (r : Option A) (P R : A → Type 0) (Q : Type 0) → ((x : A) → P x → R x) → IfSome r P × IsSome r → MatchOption r Q R
after_match None P R Q f h = (let z = h.1 in absurd (cc))
after_match (Some x) P R Q f h = f x h.0

-- and so is the second
second_at : (t device : ℕ) (cs : List Change) (e : Event) (o : Option Event) (from : ℕ) → AreAtMoment t cs → from ≡ t + 1 → drive_events device cs ≡ e ∷ pending o → IsSecond from o
second_at t device cs e None from h f k = tt
second_at t device [] e (Some x) from h f k = absurd (cc)
second_at t device (c ∷ []) e (Some x) from h f k = absurd (cc)
second_at t device (c ∷ d ∷ cs) e (Some x) from h f k =
    let same : (record { who = Drive device; change = d }) ≡ x = cc in
    subst (IsSecond from) (ap (λ (y : Event). Some y) same) (tt, (let at_ = h.1.0 in omega (arith, at_, f)))

-- it is a drive's
first_of_drive : (device : ℕ) (cs : List Change) (e : Event) (more : List Event) → drive_events device cs ≡ e ∷ more → e.who ≡ Drive device
first_of_drive device [] e more k = absurd (cc)
first_of_drive device (c ∷ cs) e more k = (let same : (record { who = Drive device; change = c }) ≡ e = cc in sym (ap (λ (x : Event). x.who) same))

pub some_match : {A : Type 0} (r : Option A) (P : A → Type 0) (Q : Type 0) → IfSome r P × IsSome r → MatchOption r Q P
some_match None P Q h = (let z = h.1 in absurd (cc))
some_match (Some x) P Q h = h.0

-- less is left after a reaction that shows
pub fewer_most : {D : Type 0} (limit : ℕ) (was now : Option Event) (xs ys : List (Seated D)) → left limit ys < left limit xs → at_most limit now ys < at_most limit was xs
fewer_most limit was None xs ys l = omega (arith, l)
fewer_most limit was (Some e) xs ys l = omega (arith, l)

-- after a drive's event the host may change a line one moment later
after_a_drive : (w : Who) (t : ℕ) → IsDrives w → t + 1 ≡ from_after w t
after_a_drive Host t h = absurd h
after_a_drive (Drive d) t h = refl

-- what comes before a limit comes before a later one
given_sooner : (limit until : ℕ) (o : Option Event) → limit ≤ until → IsGivenBefore limit o → IsGivenBefore until o
given_sooner limit until None l h = tt
given_sooner limit until (Some e) l h = (h.0, (let m = h.1 in omega (arith, m, l)))

second_sooner : (limit until : ℕ) (r o : Option Event) → limit ≤ until → IfSome r (λ e. IsGivenBefore limit o) → IfSome r (λ e. IsGivenBefore until o)
second_sooner limit until None o l h = tt
second_sooner limit until (Some e) o l h = given_sooner limit until o l h

fewer_later : {D : Type 0} (p q : Turns) (b c : Cabled D) (limit until : ℕ) (r : Option Event) → limit ≤ until → IfSome r (λ e. IsDrives e.who → IsLessLeft limit p q b c) → IfSome r (λ e. IsDrives e.who → IsLessLeft until p q b c)
fewer_later p q b c limit until None l h = tt
fewer_later p q b c limit until (Some e) l h = λ drive m k. h drive m (omega (arith, l, k))

pub next_sooner : {D : Type 0} (p q : Turns) (b c : Cabled D) (limit until : ℕ) (r : Option Event) → limit ≤ until → IsNextEvent p q b c limit r → IsNextEvent p q b c until r
next_sooner p q b c limit until r l h = record {
  turn = h.turn;
  waiting = h.waiting;
  second = second_sooner limit until r q.second l h.second;
  afterwards = h.afterwards;
  fewer = fewer_later p q b c limit until r l h.fewer;
  taken = h.taken;
}

module _ (D M : Type 0) (stands : D → M → Type 0) (step : M → Act → M) (says : M → Option (ℕ × Bool)) where
  -- the second change of a reaction is given
  pub given_second : (p q : Turns) (b : Cabled D) (upto n : ℕ) (ss : List (Station M)) (es : List Event) (e : Event) → p.second ≡ Some e → q.second ≡ None → q.from ≡ p.from → e.change.moment ≤ upto → (a : IsAfter D M stands step says p b n ss es)
      → HasGiven D M stands step says q b upto n ss es e
  given_second p q b upto n ss es e is none same l a =
      let drives : IsSecond p.from (Some e) = subst (IsSecond p.from) is a.second in
      record {
        after = record {
          from = a.from;
          stations = a.stations;
          before = subst (λ (m : ℕ). a.from ≤ m) (sym same) a.before;
          plays = subst (λ (v : List Event). Plays M step says n ss v a.from a.stations) (ap (λ o. es ++ pending o) is ∙ sym (ap (λ o. (es ++ e ∷ []) ++ pending o) none ∙ append-nil (es ++ e ∷ []))) a.plays;
          now = a.now;
          second = subst (IsSecond q.from) (sym none) tt;
        };
        moment = l;
        from = same ∙ sym drives.1 ∙ after_a_drive e.who e.change.moment drives.0;
      }

  -- what was given up to a moment was given up to a later one
  pub given_by : (q : Turns) (c : Cabled D) (t upto n : ℕ) (ss : List (Station M)) (es : List Event) (e : Event) → t ≤ upto → HasGiven D M stands step says q c t n ss es e → HasGiven D M stands step says q c upto n ss es e
  given_by q c t upto n ss es e l h = record { after = h.after; moment = (let m = h.moment in omega (arith, l, m)); from = h.from }

module _ (D M : Type 0) (stands : D → M → Type 0) (step : M → Act → M) (says : M → Option (ℕ × Bool)) (byte : (x : D) (m : M) (n : ℕ) (last : Bool) → stands x m → says m ≡ Some (n, last) → n < 256) where
  -- nothing was still to be given
  none_pending : (p : Turns) (es : List Event) → p.second ≡ None → es ++ pending p.second ≡ es
  none_pending p es e = ap (λ o. es ++ pending o) e ∙ append-nil es

  -- the first event of what a drive shows, where the second one is kept
  pub given_shown : (stood : D → M → Type 0) (p q : Turns) (b c : Cabled D) (upto t device n until : ℕ) (cs : List Change) (ss : List (Station M)) (es : List Event) (e : Event) → p.second ≡ None → (a : IsAfter D M stood step says p b n ss es)
      → HasSettled D M stands step says b.host until c.drives [] (drive_events device cs) a.from a.stations → c.host ≡ b.host → until ≤ q.from → q.from ≡ t + 1 → AreAtMoment t cs → drive_events device cs ≡ e ∷ pending q.second → t ≤ upto → HasGiven D M stands step says q c upto n ss es e
  given_shown stood p q b c upto t device n until cs ss es e none a s host from afterwards at_ made moment = record {
    after = record {
      from = s.from;
      stations = s.stations;
      before = (let l = s.before in omega (arith, l, from));
      plays = subst (λ (v : List Event). Plays M step says n ss v s.from s.stations)
          ((λ i. none_pending p es none i ++ (sym s.added ∙ made) i) ∙ sym (append_assoc es (e ∷ []) (pending q.second)))
          (plays_then M step says a.plays s.plays);
      now = subst (λ (l : Lines). IsBusAt D M stands l c.drives s.stations) (sym host) s.now;
      second = second_at t device cs e q.second q.from at_ afterwards made;
    };
    moment = (let m = first_at t device cs e (pending q.second) at_ made in omega (arith, m, moment));
    from = afterwards ∙ ap (λ (m : ℕ). m + 1) (sym (first_at t device cs e (pending q.second) at_ made)) ∙ ap (λ (w : Who). from_after w e.change.moment) (sym (first_of_drive device cs e (pending q.second) made));
  }

  -- the change that waited
  pub given_change : (stood mid : D → M → Type 0) (byte_mid : (x : D) (m : M) (n : ℕ) (last : Bool) → mid x m → says m ≡ Some (n, last) → n < 256) (p q : Turns) (b c : Cabled D) (upto n : ℕ) (w : Change) (ys : List (Seated D)) (ss : List (Station M)) (es : List Event) → p.second ≡ None → q.second ≡ None → q.from ≡ w.moment → w.moment ≤ upto → (a : IsAfter D M stood step says p b n ss es)
      → (s : HasSettled D M mid step says b.host w.moment ys [] [] a.from a.stations) → AreInTime w.moment ys → ((us : List (Station M)) → IsBusAt D M mid b.host ys us → IsBusAt D M stands c.host c.drives (map (λ u. tell M step says w u) us))
      → HasGiven D M stands step says q c upto n ss es (host_event w)
  given_change stood mid byte_mid p q b c upto n w ys ss es none none_q from moment a s in_time told = record {
    after = record {
      from = w.moment;
      stations = map (λ u. tell M step says w u) s.stations;
      before = omega (arith, from);
      plays = subst (λ (v : List Event). Plays M step says n ss v w.moment (map (λ u. tell M step says w u) s.stations))
          ((λ i. none_pending p es none i ++ (sym s.added i ++ host_event w ∷ [])) ∙ sym (none_pending q (es ++ host_event w ∷ []) none_q))
          (plays_then M step says a.plays (plays_then M step says s.plays (one_change D M mid stands step says byte_mid byte b.host c.host w s.from ys c.drives s.stations s.now in_time s.before (told s.stations s.now))));
      now = told s.stations s.now;
      second = subst (IsSecond q.from) (sym none_q) tt;
    };
    moment = moment;
    from = from;
  }

  pub shown_next : (stood : D → M → Type 0) (p q : Turns) (b c : Cabled D) (upto t device n : ℕ) (cs : List Change) (ss : List (Station M)) (es : List Event) (r : Option Event) → p.second ≡ None → (a : IsAfter D M stood step says p b n ss es)
      → HasSettled D M stands step says b.host (t + 1) c.drives [] (drive_events device cs) a.from a.stations → c.host ≡ b.host → q.from ≡ t + 1 → AreAtMoment t cs → (cs ≡ [] → ⊥)
      → MatchOption r (cs ≡ []) (λ e. drive_events device cs ≡ e ∷ pending q.second) → t ≤ upto → IfSome r (HasGiven D M stands step says q c upto n ss es) × IsSome r
  shown_next stood p q b c upto t device n cs ss es None none a s host from at_ shows h l = absurd (shows h)
  shown_next stood p q b c upto t device n cs ss es (Some e) none a s host from at_ shows h l =
      (given_shown stood p q b c upto t device n (t + 1) cs ss es e none a s host (omega (arith, from)) from at_ h l, refl)

  -- nothing is due any more: all is over
  pub is_finished : (stood : D → M → Type 0) (p q : Turns) (b c : Cabled D) (upto n : ℕ) (ss : List (Station M)) (es : List Event) → p.second ≡ None → q.second ≡ None → q.from ≡ upto + 1 → (a : IsAfter D M stood step says p b n ss es)
      → HasSettled D M stands step says b.host (upto + 1) c.drives [] [] a.from a.stations → c.host ≡ b.host → AreInTime (upto + 1) c.drives → IsFinished D M stands step says q c upto n ss es
  is_finished stood p q b c upto n ss es none none_q from a s host in_time = record {
    after = record {
      from = s.from;
      stations = s.stations;
      before = (let l = s.before in omega (arith, l, from));
      plays = subst (λ (v : List Event). Plays M step says n ss v s.from s.stations) ((λ i. none_pending p es none i ++ sym s.added i) ∙ (append-nil es ∙ sym (none_pending q es none_q))) (plays_then M step says a.plays s.plays);
      now = subst (λ (l : Lines). IsBusAt D M stands l c.drives s.stations) (sym host) s.now;
      second = subst (IsSecond q.from) (sym none_q) tt;
    };
    settled = in_time;
    second = none_q;
    from = from;
  }
