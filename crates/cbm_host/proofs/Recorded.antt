-- Calls of the performer on a drive that a machine plays back: what stood before a call plays back what the drive showed in it, and what stands after it what comes later.
use Rattle.std.proofs.Common.{◌≡◌, ℕ, ◌+◌, ◌≤◌, inr, min, Bool, List, [], ◌++◌, Option, Some, None, refl, sym, ap, ◌∙◌, subst, arith}
use Rattle.std.specs.Prelude.{IfSome, MatchOption}
use Rattle.cbm_iec.specs.declared.machine.Act.{Act}
use Rattle.cbm_iec.specs.declared.event.Event.{Event}
use Rattle.cbm_iec.specs.declared.lines.Change.{Change}
use Rattle.cbm_session.specs.Playing.{Station}
use Rattle.cbm_drive.specs.Cables.{Cabled}
use Rattle.cbm_drive.specs.Players.{Turns, IsWaitingFrom, IsTurnOf, IsAfter, HasGiven, IsStill}
use Rattle.cbm_host.proofs.Going.{still_quiet, given_come, heard_none, handed_going, never_still, come_after, held_back, unmoved_none}
use Rattle.cbm_host.specs.Engines.{engine_due, engine_passed}
use Rattle.cbm_host.specs.Performers.{Performing, IsHandedOn, IsAsked, IsQuietUntil, IsGoing, IsHeldBack, IsUnmoved, HasStopped, HasCome}
use Rattle.cbm_host.specs.declared.due.Due.TheVariants.{Makes, Waits, Hears}

-- where none came
pub match_none : {A : Type 0} (r : Option A) (P : Type 0) (Q : A → Type 0) → r ≡ None → P → MatchOption r P Q
match_none r P Q none h = subst (λ x. MatchOption x P Q) (sym none) h

module _ (A D M : Type 0) (back : List A → D → M → Type 0) (step : M → Act → M) (says : M → Option (ℕ × Bool)) where
  -- where the drive showed nothing, what stood still stands
  pub as_it_was : (trail later : List A) (p : Performing) (b : Cabled D) (n : ℕ) (ss : List (Station M)) (es : List Event) → trail ≡ [] → IsGoing D M (back (trail ++ later)) step says p b n ss es → IsGoing D M (back later) step says p b n ss es
  as_it_was trail later p b n ss es none g = subst (λ (t : List A). IsGoing D M (back (t ++ later)) step says p b n ss es) none g

  pub asked_back : (trail later : List A) (old new : Performing) (p : Turns) (b b2 : Cabled D) (upto n : ℕ) (ss : List (Station M)) (es : List Event) (r : Option Event) → p ≡ old.player → new.engine ≡ old.engine → new.limit ≡ old.limit → upto ≤ old.limit
      → ((a : IsAfter D M (back (trail ++ later)) step says p b n ss es) → MatchOption r ((trail ≡ []) × IsStill D M (back later) step says p new.player b b2 upto a.stations) (HasGiven D M (back later) step says new.player b2 upto n ss es))
      → IfSome r (λ e. IsTurnOf e.who e.change p.waiting new.player.waiting) → IsWaitingFrom new.player.from new.player.waiting → (g : IsGoing D M (back (trail ++ later)) step says old b n ss es) → IsAsked upto old.player.waiting (engine_due old.engine)
      → MatchOption r ((trail ≡ []) × IsStill D M (back later) step says old.player new.player b b2 upto g.after.stations) (HasCome D M (back later) step says old new b2 n ss es)
  asked_back trail later old new p b b2 upto n ss es r player engine limit l given turn waits g a =
      by_answer r (subst (λ (x : Turns). (y : IsAfter D M (back (trail ++ later)) step says x b n ss es) → MatchOption r ((trail ≡ []) × IsStill D M (back later) step says x new.player b b2 upto y.stations) (HasGiven D M (back later) step says new.player b2 upto n ss es)) player given g.after)
      (subst (λ (x : Turns). IfSome r (λ e. IsTurnOf e.who e.change x.waiting new.player.waiting)) player turn)
    where
      by_answer : (r : Option Event) → MatchOption r ((trail ≡ []) × IsStill D M (back later) step says old.player new.player b b2 upto g.after.stations) (HasGiven D M (back later) step says new.player b2 upto n ss es) → IfSome r (λ e. IsTurnOf e.who e.change old.player.waiting new.player.waiting)
          → MatchOption r ((trail ≡ []) × IsStill D M (back later) step says old.player new.player b b2 upto g.after.stations) (HasCome D M (back later) step says old new b2 n ss es)
      by_answer None k t = k
      by_answer (Some e) k t = given_come _ M (back later) step says old new b2 upto n ss es e engine limit l g.handed a t waits k

  pub heard_back : (trail later : List A) (old new : Performing) (b b2 : Cabled D) (upto n : ℕ) (ss : List (Station M)) (es : List Event) (r : Option Event) → upto ≡ old.limit → engine_due old.engine ≡ Hears → new.engine ≡ old.engine → new.limit ≡ old.limit
      → ((g : IsGoing D M (back (trail ++ later)) step says old b n ss es) → IsAsked upto old.player.waiting (engine_due old.engine) → MatchOption r ((trail ≡ []) × IsStill D M (back later) step says old.player new.player b b2 upto g.after.stations) (HasCome D M (back later) step says old new b2 n ss es))
      → IsGoing D M (back (trail ++ later)) step says old b n ss es → MatchOption r (HasStopped D M (back later) step says old new b2 n ss es) (HasCome D M (back later) step says old new b2 n ss es)
  heard_back trail later old new b b2 upto n ss es r all due engine limit come g = by_answer r (come g (subst (IsAsked upto old.player.waiting) (sym due) tt))
    where
      by_answer : (r : Option Event) → MatchOption r ((trail ≡ []) × IsStill D M (back later) step says old.player new.player b b2 upto g.after.stations) (HasCome D M (back later) step says old new b2 n ss es) → MatchOption r (HasStopped D M (back later) step says old new b2 n ss es) (HasCome D M (back later) step says old new b2 n ss es)
      by_answer None k =
          heard_none D M (back later) step says old new b b2 upto n ss es all due engine limit k.1.same k.1.bus
          (still_quiet D M (back (trail ++ later)) step says old.player b upto n ss es g.after k.1.second k.1.silent) (as_it_was trail later old b n ss es k.0 g)
      by_answer (Some e) k = k

  pub played_back : (trail later : List A) (old mid new : Performing) (b b2 : Cabled D) (change : Change) (n : ℕ) (ss : List (Station M)) (es : List Event) (r : Option Event) → engine_due old.engine ≡ Makes change → mid.player.second ≡ old.player.second → mid.player.from ≡ old.player.from → mid.engine ≡ old.engine → mid.limit ≡ old.limit
      → (IsHandedOn old.player.waiting old.engine → mid.player.waiting ≡ Some change)
      → ((g : IsGoing D M (back (trail ++ later)) step says mid b n ss es) → IsAsked change.moment mid.player.waiting (engine_due mid.engine) → MatchOption r ((trail ≡ []) × IsStill D M (back later) step says mid.player new.player b b2 change.moment g.after.stations) (HasCome D M (back later) step says mid new b2 n ss es))
      → IsWaitingFrom new.player.from new.player.waiting → IsGoing D M (back (trail ++ later)) step says old b n ss es → MatchOption r ((trail ≡ []) × IsHeldBack D M (back later) step says old new b b2 change) (HasCome D M (back later) step says old new b2 n ss es)
  played_back trail later old mid new b b2 change n ss es r due second from engine limit waits come ahead g = by_answer r (come going (subst (IsAsked change.moment mid.player.waiting) (sym mid_due) (waits g.handed, omega arith)))
    where
      mid_due : engine_due mid.engine ≡ Makes change
      mid_due = ap engine_due engine ∙ due

      going : IsGoing D M (back (trail ++ later)) step says mid b n ss es
      going = handed_going D M (back (trail ++ later)) step says old mid b change n ss es mid_due second from (waits g.handed) g

      by_answer : (r : Option Event) → MatchOption r ((trail ≡ []) × IsStill D M (back later) step says mid.player new.player b b2 change.moment going.after.stations) (HasCome D M (back later) step says mid new b2 n ss es) → MatchOption r ((trail ≡ []) × IsHeldBack D M (back later) step says old new b b2 change) (HasCome D M (back later) step says old new b2 n ss es)
      by_answer None k = absurd (never_still D M (back (trail ++ later)) step says mid new b change n ss es (waits g.handed) ahead going k.1.second k.1.waiting k.1.same)
      by_answer (Some e) k = come_after D M (back later) step says old mid new b2 n ss es e engine limit k

  pub made_or_held_back : (trail later : List A) (old new : Performing) (b b2 : Cabled D) (n : ℕ) (ss : List (Station M)) (es : List Event) (change : Change) (r : Option Event) → engine_due old.engine ≡ Makes change → new.engine ≡ old.engine → new.limit ≡ old.limit
      → MatchOption r ((trail ≡ []) × IsHeldBack D M (back later) step says old new b b2 change) (HasCome D M (back later) step says old new b2 n ss es) → IsGoing D M (back (trail ++ later)) step says old b n ss es
      → MatchOption r (HasStopped D M (back later) step says old new b2 n ss es) (HasCome D M (back later) step says old new b2 n ss es)
  made_or_held_back trail later old new b b2 n ss es change None due engine limit k g = held_back D M (back later) step says old new b b2 n ss es change due engine limit k.1 (as_it_was trail later old b n ss es k.0 g)
  made_or_held_back trail later old new b b2 n ss es change (Some e) due engine limit k g = k

  pub unmoved_back : (trail later : List A) (old new : Performing) (b b2 : Cabled D) (upto until n : ℕ) (ss : List (Station M)) (es : List Event) (r : Option Event) → engine_due old.engine ≡ Waits until → upto + 1 ≡ min until (old.limit + 1)
      → ((g : IsGoing D M (back (trail ++ later)) step says old b n ss es) → IsAsked upto old.player.waiting (engine_due old.engine) → MatchOption r ((trail ≡ []) × IsStill D M (back later) step says old.player new.player b b2 upto g.after.stations) (HasCome D M (back later) step says old new b2 n ss es))
      → IsGoing D M (back (trail ++ later)) step says old b n ss es → MatchOption r ((trail ≡ []) × IsUnmoved D M (back later) step says old new b b2 until n ss es) (HasCome D M (back later) step says old new b2 n ss es)
  unmoved_back trail later old new b b2 upto until n ss es r due last come g = by_answer r (come g (subst (IsAsked upto old.player.waiting) (sym due) (omega (arith, last))))
    where
      by_answer : (r : Option Event) → MatchOption r ((trail ≡ []) × IsStill D M (back later) step says old.player new.player b b2 upto g.after.stations) (HasCome D M (back later) step says old new b2 n ss es) → MatchOption r ((trail ≡ []) × IsUnmoved D M (back later) step says old new b b2 until n ss es) (HasCome D M (back later) step says old new b2 n ss es)
      by_answer None k = (
        k.0,
        record { player = k.1.same; bus = k.1.bus; quiet = subst (λ (t : ℕ). IsQuietUntil M step says t n ss es) last (still_quiet D M (back (trail ++ later)) step says old.player b upto n ss es g.after k.1.second k.1.silent) },
      )
      by_answer (Some e) k = k

  -- before the first moment nothing comes
  pub unmoved_none_back : (trail later : List A) (old : Performing) (b : Cabled D) (last until n : ℕ) (ss : List (Station M)) (es : List Event) (r : Option Event) → trail ≡ [] → r ≡ None → (1 ≤ last → ⊥) → last ≡ min until (old.limit + 1) → IsGoing D M (back (trail ++ later)) step says old b n ss es
      → MatchOption r ((trail ≡ []) × IsUnmoved D M (back later) step says old old b b until n ss es) (HasCome D M (back later) step says old old b n ss es)
  unmoved_none_back trail later old b last until n ss es r nothing none zero same g =
      subst (λ (x : Option Event). MatchOption x ((trail ≡ []) × IsUnmoved D M (back later) step says old old b b until n ss es) (HasCome D M (back later) step says old old b n ss es)) (sym none)
      (nothing, unmoved_none D M (back later) step says old b last until n ss es None refl zero same (as_it_was trail later old b n ss es nothing g))

  -- The host waited to no avail, and then a change of its own came, or none.
  pub waited_then_back : (later : List A) (old mid new : Performing) (b2 : Cabled D) (until n : ℕ) (ss : List (Station M)) (es : List Event) (r : Option Event) → engine_due old.engine ≡ Waits until → mid.engine ≡ engine_passed old.engine → mid.player.from ≡ old.player.from → mid.limit ≡ old.limit
      → IsQuietUntil M step says until n ss es → new.engine ≡ mid.engine → MatchOption r (HasStopped D M (back later) step says mid new b2 n ss es) (HasCome D M (back later) step says mid new b2 n ss es)
      → MatchOption r (HasStopped D M (back later) step says old new b2 n ss es) (HasCome D M (back later) step says old new b2 n ss es)
  waited_then_back later old mid new b2 until n ss es None due passed from limit over same h = record { going = h.going; goes_on = inr (until, due, same ∙ passed, over); stops = h.stops; from = h.from ∙ from; limit = h.limit ∙ limit }
  waited_then_back later old mid new b2 until n ss es (Some e) due passed from limit over same h = record { after = h.after; goes_on = inr (until, due, same ∙ passed, over); due = h.due; handed = h.handed; moment = h.moment; from = h.from; limit = h.limit ∙ limit }
