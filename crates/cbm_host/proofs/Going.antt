-- What the player gives, with the engine that hands it the host's changes.
use Rattle.std.proofs.Common.{◌≡◌, ℕ, ◌+◌, ◌<◌, ◌≤◌, inl, inr, min, Bool, List, [], ◌∷◌, ◌++◌, Option, Some, None, refl, sym, ap, ◌∙◌, subst, arith}
use Rattle.std.specs.Prelude.{IfSome, MatchOption}
use Rattle.cbm_iec.specs.Ports.{port_due}
use Rattle.cbm_iec.specs.declared.machine.Act.{Act}
use Rattle.cbm_iec.specs.declared.event.Event.{Event}
use Rattle.cbm_iec.specs.declared.event.Who.TheVariants.{Host, Drive}
use Rattle.cbm_iec.specs.declared.event.Who.{Who}
use Rattle.cbm_iec.specs.declared.lines.Change.{Change}
use Rattle.cbm_session.specs.Following.{IsInTime}
use Rattle.cbm_session.specs.Playing.{Station, Plays}
use Rattle.cbm_drive.specs.Cables.{Cabled}
use Rattle.cbm_drive.specs.Players.{Turns, pending, from_after, IsSecond, IsWaitingFrom, IsTurnOf, IsAfter, HasGiven, IsStill}
use Rattle.cbm_drive.specs.Silence.{AreSilent, quiet, idle}
use Rattle.cbm_host.proofs.Handed.{handed_on}
use Rattle.cbm_host.specs.Engines.{Engined, engine_due, engine_passed}
use Rattle.cbm_host.specs.Performing.{IsBefore}
use Rattle.cbm_host.specs.Performers.{Performing, IsHandedOn, IsDue, IsAsked, IsChangeRefused, IsQuietUntil, GoesOnFrom, StopsPerforming, engine_after, byte_with, IsGoing, IsHeldBack, IsUnmoved, HasStopped, HasCome, HasNext}
use Rattle.cbm_host.specs.declared.due.Due.{Due}
use Rattle.cbm_host.specs.declared.due.Due.TheVariants.{Makes, Waits, Hears, Over}

-- a change of the host is the one that was handed on, and one of the drive comes before it
turn_due : (w : Who) (c : Change) (p q : Turns) (e : Engined) (upto : ℕ) → IsHandedOn p.waiting e → IsTurnOf w c p.waiting q.waiting → IsAsked upto p.waiting (engine_due e) → c.moment ≤ upto → IsWaitingFrom q.from q.waiting → q.from ≡ from_after w c.moment → IsDue w c e
turn_due Host c p q e upto h t a l w from = subst (λ (o : Option Change). IsHandedOn o e) t.0 h
turn_due (Drive d) c p q e upto h t a l w from = by_due (engine_due e) a
  where
    by_due : (due : Due) → IsAsked upto p.waiting due → IsBefore c.moment due
    by_due (Makes x) a =
        let waits : IsWaitingFrom q.from (Some x) = subst (IsWaitingFrom q.from) (t ∙ a.0) w in
        let late = waits.0 in
        omega (arith, late, from)
    by_due (Waits until) a = omega (arith, a, l)
    by_due Hears a = tt
    by_due (Over at) a = a

turn_handed : (w : Who) (c : Change) (was now : Option Change) (e : Engined) → IsHandedOn was e → IsTurnOf w c was now → IsHandedOn now (engine_after w c e)
turn_handed Host c was now e h t = subst (λ (o : Option Change). IsHandedOn o (engine_after Host c e)) (sym t.1) tt
turn_handed (Drive d) c was now e h t = subst (λ (o : Option Change). IsHandedOn o (engine_after (Drive d) c e)) (sym t) (handed_on was e c h)

-- where the host waits nothing is handed on
none_waits : (w : Option Change) (e e2 : Engined) (until : ℕ) → engine_due e ≡ Waits until → IsHandedOn w e → IsHandedOn w e2
none_waits None e e2 until d h = tt
none_waits (Some c) e e2 until d h = absurd cc

min_sooner : (a b : ℕ) → a ≤ b → min a b ≡ a
min_sooner a b l = omega (arith, l)

min_later : (a b : ℕ) → b ≤ a → min a b ≡ b
min_later a b l = omega (arith, l)

module _ (D M : Type 0) (stands : D → M → Type 0) (step : M → Act → M) (says : M → Option (ℕ × Bool)) where
  -- what is known of a player that gave nothing
  pub still_quiet : (p : Turns) (b : Cabled D) (upto n : ℕ) (ss : List (Station M)) (es : List Event) (a : IsAfter D M stands step says p b n ss es) → IfSome p.second (λ e. upto < e.change.moment) → (p.second ≡ None → AreSilent M step says (upto + 1) a.stations) → IsQuietUntil M step says (upto + 1) n ss es
  still_quiet p b upto n ss es a later silent = record { second = p.second; from = a.from; stations = a.stations; plays = a.plays; later = some_later p.second later; silent = silent }
    where
      some_later : (o : Option Event) → IfSome o (λ e. upto < e.change.moment) → IfSome o (λ e. upto + 1 ≤ e.change.moment)
      some_later None h = tt
      some_later (Some e) h = omega (arith, h)

  -- what came is what comes for another engine that is the same
  goes_same : (n : ℕ) (ss : List (Station M)) (es : List Event) (old mid e : Engined) → mid ≡ old → GoesOnFrom M step says n ss es mid e → GoesOnFrom M step says n ss es old e
  goes_same n ss es old mid e same g = subst (λ (x : Engined). GoesOnFrom M step says n ss es x e) same g

  pub going_same : (old new : Performing) (b b2 : Cabled D) (n : ℕ) (ss : List (Station M)) (es : List Event) → IsGoing D M stands step says old b n ss es → new.player ≡ old.player → b2 ≡ b → IsHandedOn new.player.waiting new.engine → IsGoing D M stands step says new b2 n ss es
  going_same old new b b2 n ss es g player bus handed = record {
    after = subst (λ (x : Turns). IsAfter D M stands step says x b2 n ss es) (sym player) (subst (λ (y : Cabled D). IsAfter D M stands step says old.player y n ss es) (sym bus) g.after);
    handed = handed;
  }

  -- what the player gives, where the engine stays as it is
  pub given_come : (old new : Performing) (b2 : Cabled D) (upto n : ℕ) (ss : List (Station M)) (es : List Event) (e : Event) → new.engine ≡ old.engine → new.limit ≡ old.limit → upto ≤ old.limit → IsHandedOn old.player.waiting old.engine → IsAsked upto old.player.waiting (engine_due old.engine)
      → IsTurnOf e.who e.change old.player.waiting new.player.waiting → IsWaitingFrom new.player.from new.player.waiting → HasGiven D M stands step says new.player b2 upto n ss es e → HasCome D M stands step says old new b2 n ss es e
  given_come old new b2 upto n ss es e engine limit l was a t waits k = record {
    after = k.after;
    goes_on = inl engine;
    due = turn_due e.who e.change old.player new.player new.engine upto handed t (subst (λ (x : Engined). IsAsked upto old.player.waiting (engine_due x)) (sym engine) a) k.moment waits k.from;
    handed = turn_handed e.who e.change old.player.waiting new.player.waiting new.engine handed t;
    moment = (let m = k.moment in omega (arith, m, limit, l));
    from = k.from;
    limit = limit;
  }
    where
      handed : IsHandedOn old.player.waiting new.engine
      handed = subst (λ (x : Engined). IsHandedOn old.player.waiting x) (sym engine) was

  -- what the player answers
  pub asked : (old new : Performing) (p : Turns) (b b2 : Cabled D) (upto n : ℕ) (ss : List (Station M)) (es : List Event) (r : Option Event) → p ≡ old.player → new.engine ≡ old.engine → new.limit ≡ old.limit → upto ≤ old.limit
      → ((a : IsAfter D M stands step says p b n ss es) → MatchOption r (IsStill D M stands step says p new.player b b2 upto a.stations) (HasGiven D M stands step says new.player b2 upto n ss es))
      → IfSome r (λ e. IsTurnOf e.who e.change p.waiting new.player.waiting) → IsWaitingFrom new.player.from new.player.waiting → (g : IsGoing D M stands step says old b n ss es) → IsAsked upto old.player.waiting (engine_due old.engine)
      → MatchOption r (IsStill D M stands step says old.player new.player b b2 upto g.after.stations) (HasCome D M stands step says old new b2 n ss es)
  asked old new p b b2 upto n ss es r player engine limit l given turn waits g a =
      by_answer r (subst (λ (x : Turns). (y : IsAfter D M stands step says x b n ss es) → MatchOption r (IsStill D M stands step says x new.player b b2 upto y.stations) (HasGiven D M stands step says new.player b2 upto n ss es)) player given g.after)
      (subst (λ (x : Turns). IfSome r (λ e. IsTurnOf e.who e.change x.waiting new.player.waiting)) player turn)
    where
      by_answer : (r : Option Event) → MatchOption r (IsStill D M stands step says old.player new.player b b2 upto g.after.stations) (HasGiven D M stands step says new.player b2 upto n ss es) → IfSome r (λ e. IsTurnOf e.who e.change old.player.waiting new.player.waiting)
          → MatchOption r (IsStill D M stands step says old.player new.player b b2 upto g.after.stations) (HasCome D M stands step says old new b2 n ss es)
      by_answer None k t = k
      by_answer (Some e) k t = given_come old new b2 upto n ss es e engine limit l g.handed a t waits k

  -- where the host does nothing and no event comes up to the limit
  pub heard_none : (old new : Performing) (b b2 : Cabled D) (upto n : ℕ) (ss : List (Station M)) (es : List Event) → upto ≡ old.limit → engine_due old.engine ≡ Hears → new.engine ≡ old.engine → new.limit ≡ old.limit → new.player ≡ old.player → b2 ≡ b → IsQuietUntil M step says (upto + 1) n ss es
      → IsGoing D M stands step says old b n ss es → HasStopped D M stands step says old new b2 n ss es
  heard_none old new b b2 upto n ss es all due engine limit same bus quiet_until g = record {
    going = going_same old new b b2 n ss es g same bus (subst (λ (x : Turns). IsHandedOn x.waiting new.engine) (sym same) (subst (λ (x : Engined). IsHandedOn old.player.waiting x) (sym engine) g.handed));
    goes_on = inl engine;
    stops = subst (StopsPerforming M step says new.player new.limit n ss es) (sym (ap engine_due engine ∙ due)) (subst (λ (l : ℕ). IsQuietUntil M step says (l + 1) n ss es) (all ∙ sym limit) quiet_until);
    from = ap (λ (x : Turns). x.from) same;
    limit = limit;
  }

  -- where the host does nothing: what the player answers up to the limit
  pub heard : (old new : Performing) (b b2 : Cabled D) (upto n : ℕ) (ss : List (Station M)) (es : List Event) (r : Option Event) → upto ≡ old.limit → engine_due old.engine ≡ Hears → new.engine ≡ old.engine → new.limit ≡ old.limit
      → ((g : IsGoing D M stands step says old b n ss es) → IsAsked upto old.player.waiting (engine_due old.engine) → MatchOption r (IsStill D M stands step says old.player new.player b b2 upto g.after.stations) (HasCome D M stands step says old new b2 n ss es))
      → IsGoing D M stands step says old b n ss es → MatchOption r (HasStopped D M stands step says old new b2 n ss es) (HasCome D M stands step says old new b2 n ss es)
  heard old new b b2 upto n ss es r all due engine limit come g = by_answer r (come g (subst (IsAsked upto old.player.waiting) (sym due) tt))
    where
      by_answer : (r : Option Event) → MatchOption r (IsStill D M stands step says old.player new.player b b2 upto g.after.stations) (HasCome D M stands step says old new b2 n ss es) → MatchOption r (HasStopped D M stands step says old new b2 n ss es) (HasCome D M stands step says old new b2 n ss es)
      by_answer None k = heard_none old new b b2 upto n ss es all due engine limit k.same k.bus (still_quiet old.player b upto n ss es g.after k.second k.silent) g
      by_answer (Some e) k = k

  -- where the host's change was handed to the player
  pub handed_going : (old mid : Performing) (b : Cabled D) (change : Change) (n : ℕ) (ss : List (Station M)) (es : List Event) → engine_due mid.engine ≡ Makes change → mid.player.second ≡ old.player.second → mid.player.from ≡ old.player.from → mid.player.waiting ≡ Some change → IsGoing D M stands step says old b n ss es
      → IsGoing D M stands step says mid b n ss es
  handed_going old mid b change n ss es due second from waiting g = record {
    after = (let a = g.after in record {
      from = a.from;
      stations = a.stations;
      before = subst (λ (m : ℕ). a.from ≤ m) (sym from) a.before;
      plays = subst (λ (o : Option Event). Plays M step says n ss (es ++ pending o) a.from a.stations) (sym second) a.plays;
      now = a.now;
      second = subst (λ (m : ℕ). IsSecond m mid.player.second) (sym from) (subst (IsSecond old.player.from) (sym second) a.second);
    });
    handed = subst (λ (o : Option Change). IsHandedOn o mid.engine) (sym waiting) due;
  }

  -- the change that waits comes
  pub never_still : (mid new : Performing) (b : Cabled D) (change : Change) (n : ℕ) (ss : List (Station M)) (es : List Event) → mid.player.waiting ≡ Some change → IsWaitingFrom new.player.from new.player.waiting → IsGoing D M stands step says mid b n ss es → IfSome mid.player.second (λ e. change.moment < e.change.moment)
      → (mid.player.second ≡ None → IfSome mid.player.waiting (λ w. change.moment < w.moment)) → new.player ≡ mid.player → ⊥
  never_still mid new b change n ss es waiting ahead going = by_second mid.player.second refl
    where
      by_second : (o : Option Event) → mid.player.second ≡ o → IfSome o (λ e. change.moment < e.change.moment) → (mid.player.second ≡ None → IfSome mid.player.waiting (λ w. change.moment < w.moment)) → new.player ≡ mid.player → ⊥
      by_second None none h k same = let late : IfSome (Some change) (λ w. change.moment < w.moment) = subst (λ (w : Option Change). IfSome w (λ x. change.moment < x.moment)) waiting (k none) in omega (arith, late)
      by_second (Some e) some h k same =
          let soon : IsWaitingFrom mid.player.from (Some change) = subst (IsWaitingFrom mid.player.from) waiting (subst (λ (x : Turns). IsWaitingFrom x.from x.waiting) same ahead) in
          let upto = soon.0 in
          let last : IsSecond mid.player.from (Some e) = subst (IsSecond mid.player.from) some going.after.second in
          let before_it = last.1 in
          omega (arith, upto, before_it, h)

  pub come_after : (old mid new : Performing) (b2 : Cabled D) (n : ℕ) (ss : List (Station M)) (es : List Event) (e : Event) → mid.engine ≡ old.engine → mid.limit ≡ old.limit → HasCome D M stands step says mid new b2 n ss es e → HasCome D M stands step says old new b2 n ss es e
  come_after old mid new b2 n ss es e engine limit k = record {
    after = k.after;
    goes_on = goes_same n ss es old.engine mid.engine new.engine engine k.goes_on;
    due = k.due;
    handed = k.handed;
    moment = k.moment;
    from = k.from;
    limit = k.limit ∙ limit;
  }

  pub played : (old mid new : Performing) (b b2 : Cabled D) (change : Change) (n : ℕ) (ss : List (Station M)) (es : List Event) (r : Option Event) → engine_due old.engine ≡ Makes change → mid.player.second ≡ old.player.second → mid.player.from ≡ old.player.from → mid.engine ≡ old.engine → mid.limit ≡ old.limit
      → (IsHandedOn old.player.waiting old.engine → mid.player.waiting ≡ Some change)
      → ((g : IsGoing D M stands step says mid b n ss es) → IsAsked change.moment mid.player.waiting (engine_due mid.engine) → MatchOption r (IsStill D M stands step says mid.player new.player b b2 change.moment g.after.stations) (HasCome D M stands step says mid new b2 n ss es))
      → IsWaitingFrom new.player.from new.player.waiting → IsGoing D M stands step says old b n ss es → MatchOption r (IsHeldBack D M stands step says old new b b2 change) (HasCome D M stands step says old new b2 n ss es)
  played old mid new b b2 change n ss es r due second from engine limit waits come ahead g = by_answer r (come going (subst (IsAsked change.moment mid.player.waiting) (sym mid_due) (waits g.handed, omega arith)))
    where
      mid_due : engine_due mid.engine ≡ Makes change
      mid_due = ap engine_due engine ∙ due

      going : IsGoing D M stands step says mid b n ss es
      going = handed_going old mid b change n ss es mid_due second from (waits g.handed) g

      by_answer : (r : Option Event) → MatchOption r (IsStill D M stands step says mid.player new.player b b2 change.moment going.after.stations) (HasCome D M stands step says mid new b2 n ss es) → MatchOption r (IsHeldBack D M stands step says old new b b2 change) (HasCome D M stands step says old new b2 n ss es)
      by_answer None k = absurd (never_still mid new b change n ss es (waits g.handed) ahead going k.second k.waiting k.same)
      by_answer (Some e) k = come_after old mid new b2 n ss es e engine limit k

  -- where the player refused it, or where it is too late
  pub held_back : (old new : Performing) (b b2 : Cabled D) (n : ℕ) (ss : List (Station M)) (es : List Event) (change : Change) → engine_due old.engine ≡ Makes change → new.engine ≡ old.engine → new.limit ≡ old.limit → IsHeldBack D M stands step says old new b b2 change → IsGoing D M stands step says old b n ss es → HasStopped D M stands step says old new b2 n ss es
  held_back old new b b2 n ss es change due engine limit k g = record {
    going =
        going_same old new b b2 n ss es g k.player k.bus (subst (λ (x : Turns). IsHandedOn x.waiting new.engine) (sym k.player) (subst (λ (x : Engined). IsHandedOn old.player.waiting x) (sym engine) g.handed));
    goes_on = inl engine;
    stops = subst (StopsPerforming M step says new.player new.limit n ss es) (sym (ap engine_due engine ∙ due)) (subst (λ (x : Turns). IsChangeRefused x new.limit change) (sym k.player) (subst (λ (l : ℕ). IsChangeRefused old.player l change) (sym limit) k.why));
    from = ap (λ (x : Turns). x.from) k.player;
    limit = limit;
  }

  pub made_or_held : (old new : Performing) (b b2 : Cabled D) (n : ℕ) (ss : List (Station M)) (es : List Event) (change : Change) (r : Option Event) → engine_due old.engine ≡ Makes change → new.engine ≡ old.engine → new.limit ≡ old.limit
      → MatchOption r (IsHeldBack D M stands step says old new b b2 change) (HasCome D M stands step says old new b2 n ss es) → IsGoing D M stands step says old b n ss es → MatchOption r (HasStopped D M stands step says old new b2 n ss es) (HasCome D M stands step says old new b2 n ss es)
  made_or_held old new b b2 n ss es change None due engine limit k g = held_back old new b b2 n ss es change due engine limit k g
  made_or_held old new b b2 n ss es change (Some e) due engine limit k g = k

  -- what the player answers before a moment
  pub unmoved : (old new : Performing) (b b2 : Cabled D) (upto until n : ℕ) (ss : List (Station M)) (es : List Event) (r : Option Event) → engine_due old.engine ≡ Waits until → upto + 1 ≡ min until (old.limit + 1)
      → ((g : IsGoing D M stands step says old b n ss es) → IsAsked upto old.player.waiting (engine_due old.engine) → MatchOption r (IsStill D M stands step says old.player new.player b b2 upto g.after.stations) (HasCome D M stands step says old new b2 n ss es))
      → IsGoing D M stands step says old b n ss es → MatchOption r (IsUnmoved D M stands step says old new b b2 until n ss es) (HasCome D M stands step says old new b2 n ss es)
  unmoved old new b b2 upto until n ss es r due last come g = by_answer r (come g (subst (IsAsked upto old.player.waiting) (sym due) (omega (arith, last))))
    where
      by_answer : (r : Option Event) → MatchOption r (IsStill D M stands step says old.player new.player b b2 upto g.after.stations) (HasCome D M stands step says old new b2 n ss es) → MatchOption r (IsUnmoved D M stands step says old new b b2 until n ss es) (HasCome D M stands step says old new b2 n ss es)
      by_answer None k = record { player = k.same; bus = k.bus; quiet = subst (λ (t : ℕ). IsQuietUntil M step says t n ss es) last (still_quiet old.player b upto n ss es g.after k.second k.silent) }
      by_answer (Some e) k = k

  -- before the first moment nothing comes
  pub unmoved_none : (old : Performing) (b : Cabled D) (last until n : ℕ) (ss : List (Station M)) (es : List Event) (r : Option Event) → r ≡ None → (1 ≤ last → ⊥) → last ≡ min until (old.limit + 1) → IsGoing D M stands step says old b n ss es
      → MatchOption r (IsUnmoved D M stands step says old old b b until n ss es) (HasCome D M stands step says old old b n ss es)
  unmoved_none old b last until n ss es r none zero same g =
      subst (λ (x : Option Event). MatchOption x (IsUnmoved D M stands step says old old b b until n ss es) (HasCome D M stands step says old old b n ss es)) (sym none) (record {
        player = refl;
        bus = refl;
        quiet = (let a = g.after in record { second = old.player.second; from = a.from; stations = a.stations; plays = a.plays; later = some_from old.player.second; silent = λ e. all_silent a.stations });
      })
    where
      no_time : min until (old.limit + 1) ≡ 0
      no_time = sym same ∙ omega (arith, zero)

      some_from : (o : Option Event) → IfSome o (λ e. min until (old.limit + 1) ≤ e.change.moment)
      some_from None = tt
      some_from (Some e) = let z = no_time in omega (arith, z)

      in_time : (o : Option ℕ) → IsInTime (min until (old.limit + 1)) o
      in_time None = tt
      in_time (Some t) = let z = no_time in omega (arith, z)

      all_silent : (xs : List (Station M)) → AreSilent M step says (min until (old.limit + 1)) xs
      all_silent [] = tt
      all_silent (x ∷ xs) = (idle (in_time (port_due x.port)), quiet (in_time (port_due x.port)), all_silent xs)

  -- where the host would wait for longer than the limit
  pub gave_up : (old new : Performing) (b b2 : Cabled D) (until n : ℕ) (ss : List (Station M)) (es : List Event) → engine_due old.engine ≡ Waits until → new.engine ≡ old.engine → new.limit ≡ old.limit → old.limit < until → IsUnmoved D M stands step says old new b b2 until n ss es → IsGoing D M stands step says old b n ss es
      → HasStopped D M stands step says old new b2 n ss es
  gave_up old new b b2 until n ss es due engine limit late k g = record {
    going =
        going_same old new b b2 n ss es g k.player k.bus (subst (λ (x : Turns). IsHandedOn x.waiting new.engine) (sym k.player) (subst (λ (x : Engined). IsHandedOn old.player.waiting x) (sym engine) g.handed));
    goes_on = inl engine;
    stops = subst (StopsPerforming M step says new.player new.limit n ss es) (sym (ap engine_due engine ∙ due))
        (omega (arith, late, limit), subst (λ (l : ℕ). IsQuietUntil M step says (l + 1) n ss es) (sym limit) (subst (λ (t : ℕ). IsQuietUntil M step says t n ss es) (min_later until (old.limit + 1) (omega (arith, late))) k.quiet));
    from = ap (λ (x : Turns). x.from) k.player;
    limit = limit;
  }

  -- The host waited to no avail, and its engine goes on.
  module _ (old asked_ mid : Performing) (b b2 : Cabled D) (until n : ℕ) (ss : List (Station M)) (es : List Event) (due : engine_due old.engine ≡ Waits until) (soon : until ≤ old.limit) (player : mid.player ≡ asked_.player) (passed : mid.engine ≡ engine_passed old.engine) (limit : mid.limit ≡ old.limit)
      (k : IsUnmoved D M stands step says old asked_ b b2 until n ss es) (g : IsGoing D M stands step says old b n ss es) where
    pub waited_quiet : IsQuietUntil M step says until n ss es
    waited_quiet = subst (λ (t : ℕ). IsQuietUntil M step says t n ss es) (min_sooner until (old.limit + 1) (omega (arith, soon))) k.quiet

    pub waited : IsGoing D M stands step says mid b2 n ss es
    waited = going_same old mid b b2 n ss es g (player ∙ k.player) k.bus (subst (λ (x : Turns). IsHandedOn x.waiting mid.engine) (sym (player ∙ k.player)) (none_waits old.player.waiting old.engine mid.engine until due g.handed))

    -- it is over
    pub waited_over : (e : Due) → engine_due mid.engine ≡ e → StopsPerforming M step says mid.player mid.limit n ss es e → HasStopped D M stands step says old mid b2 n ss es
    waited_over e is s = record { going = waited; goes_on = inr (until, due, passed, waited_quiet); stops = subst (StopsPerforming M step says mid.player mid.limit n ss es) (sym is) s; from = ap (λ (x : Turns). x.from) (player ∙ k.player); limit = limit }

    -- or its change comes
    pub waited_then : (new : Performing) (b3 : Cabled D) (r : Option Event) → new.engine ≡ mid.engine → MatchOption r (HasStopped D M stands step says mid new b3 n ss es) (HasCome D M stands step says mid new b3 n ss es) → MatchOption r (HasStopped D M stands step says old new b3 n ss es) (HasCome D M stands step says old new b3 n ss es)
    waited_then new b3 None same h = record { going = h.going; goes_on = inr (until, due, same ∙ passed, waited_quiet); stops = h.stops; from = h.from ∙ ap (λ (x : Turns). x.from) (player ∙ k.player); limit = h.limit ∙ limit }
    waited_then new b3 (Some e) same h = record { after = h.after; goes_on = inr (until, due, same ∙ passed, waited_quiet); due = h.due; handed = h.handed; moment = h.moment; from = h.from; limit = h.limit ∙ limit }

  -- the engine is told the event
  pub told_next : (old mid new : Performing) (b : Cabled D) (n : ℕ) (ss : List (Station M)) (es : List Event) (e : Event) → HasCome D M stands step says old mid b n ss es e → new.player ≡ mid.player → new.limit ≡ mid.limit → new.engine ≡ engine_after e.who e.change mid.engine → new.byte ≡ byte_with e.who mid.engine
      → HasNext D M stands step says old new b n ss es e
  told_next old mid new b n ss es e k player limit engine byte = record {
    going = record {
      after = subst (λ (x : Turns). IsAfter D M stands step says x b n ss (es ++ e ∷ [])) (sym player) k.after;
      handed = subst (λ (x : Engined). IsHandedOn new.player.waiting x) (sym engine) (subst (λ (x : Turns). IsHandedOn x.waiting (engine_after e.who e.change mid.engine)) (sym player) k.handed);
    };
    found = mid.engine;
    goes_on = k.goes_on;
    due = k.due;
    engine = engine;
    byte = byte;
    from = ap (λ (x : Turns). x.from) player ∙ k.from;
    limit = limit ∙ k.limit;
  }
