-- A bus that plays under a host that keeps the timing keeps to a session: the induction over what is played.
use Rattle.std.proofs.Common.{◌≡◌, ℕ, zero, suc, ◌+◌, ◌≤◌, ◌<◌, ◌⊎◌, inl, inr, Bool, true, false, List, [], ◌∷◌, ◌++◌, append_assoc, append-nil, Option, Some, None, ap, sym, ◌∙◌, subst, arith, refl}
use Rattle.cbm_iec.specs.Ports.{port_due, next_held, changed}
use Rattle.cbm_iec.specs.declared.machine.Act.{Act}
use Rattle.cbm_iec.specs.declared.event.Event.{Event}
use Rattle.cbm_iec.specs.declared.event.Who.TheVariants.{Host, Drive}
use Rattle.cbm_iec.specs.declared.event.Who.{Who}
use Rattle.cbm_iec.specs.declared.lines.Change.{Change}
use Rattle.cbm_iec.specs.declared.lines.Line.TheVariants.{Clock, Data}
use Rattle.cbm_iec.specs.declared.lines.Line.{Line}
use Rattle.cbm_iec.specs.declared.party.Party.{Party}
use Rattle.cbm_session.specs.Answers.{Allowed}
use Rattle.cbm_session.specs.Following.{IsInTime}
use Rattle.cbm_session.specs.Laws.{NotSooner, GoesOn}
use Rattle.cbm_session.specs.Pieces.{Piece}
use Rattle.cbm_session.specs.Playing.{IsLaterDue, Station, host_event, drive_events, shown, AllInTime, AllLater, IsFirst, AllBytes, reacting, Plays, stays, change, reaction, at_rest, RanEach, IsKept}
use Rattle.cbm_session.specs.Sessions.{rest, Splits, acts_of, IsBeginning}
use Rattle.cbm_session.specs.Steps.{Step, moment_of, events_of}
use Rattle.cbm_session.specs.Timing.{is_host, StartsLater, LaterHost, SomeQuiet, Owes, IsLateAt, IsLateBefore, any, HostKeeps}

-- the host's among these are not before t
abbrev pub HostFrom : ℕ → List Step → Type 0
HostFrom t [] = Unit {0}
HostFrom t (s ∷ ss) = (is_host s.event.who ≡ true → t ≤ moment_of s) × HostFrom t ss

pub later_from : (e : ℕ) (ss : List Step) → LaterHost e ss → HostFrom (suc e) ss
later_from e [] h = tt
later_from e (s ∷ ss) h = (λ k. let l = h.0 k in omega (arith, l), later_from e ss h.1)

pub from_later : (e t : ℕ) (ss : List Step) → e < t → HostFrom t ss → LaterHost e ss
from_later e t [] l h = tt
from_later e t (s ∷ ss) l h = (λ k. let a = h.0 k in omega (arith, l, a), from_later e t ss l h.1)

pub host_any : (ss : List Step) → HostFrom zero ss
host_any [] = tt
host_any (s ∷ ss) = (λ k. omega arith, host_any ss)

pub host_after_it : (t : ℕ) (xs ys : List Step) → HostFrom t (xs ++ ys) → HostFrom t ys
host_after_it t [] ys h = h
host_after_it t (x ∷ xs) ys h = host_after_it t xs ys h.1

pub host_front : (t : ℕ) (xs ys : List Step) → HostFrom t (xs ++ ys) → HostFrom t xs
host_front t [] ys h = tt
host_front t (x ∷ xs) ys h = (h.0, host_front t xs ys h.1)

pub events_append : (xs ys : List Step) → events_of (xs ++ ys) ≡ events_of xs ++ events_of ys
events_append [] ys = refl
events_append (x ∷ xs) ys = ap (λ (zs : List Event). x.event ∷ zs) (events_append xs ys)

-- all changes of a reaction, and the first of some events
abbrev pub AllAtMoment : ℕ → List Event → Type 0
AllAtMoment t [] = Unit {0}
AllAtMoment t (x ∷ xs) = (x.change.moment ≡ t) × AllAtMoment t xs

abbrev NextAt : ℕ → List Event → Type 0
NextAt t [] = ⊥
NextAt t (x ∷ xs) = x.change.moment ≡ t

at_append : (d t : ℕ) (xs ys : List Change) → AllAtMoment t (drive_events d xs) → AllAtMoment t (drive_events d ys) → AllAtMoment t (drive_events d (xs ++ ys))
at_append d t [] ys a b = b
at_append d t (x ∷ xs) ys a b = (a.0, at_append d t xs ys a.1 b)

one_at : (d t : ℕ) (line : Line) (was now : Bool) → AllAtMoment t (drive_events d (changed t line was now))
one_at d t line true true = tt
one_at d t line true false = (refl, tt)
one_at d t line false true = (refl, tt)
one_at d t line false false = tt

pub changes_at : (d t : ℕ) (c c2 e e2 : Bool) → AllAtMoment t (drive_events d (changed t Clock c c2 ++ changed t Data e e2))
changes_at d t c c2 e e2 = at_append d t (changed t Clock c c2) (changed t Data e e2) (one_at d t Clock c c2) (one_at d t Data e e2)

module _ (M : Type 0) (step : M → Act → M) (peek : M → Option (ℕ × Bool)) where
  -- one play after another
  pub plays_then : {n n2 n3 : ℕ} {ss ss2 ss3 : List (Station M)} {es es2 : List Event} → Plays M step peek n ss es n2 ss2 → Plays M step peek n2 ss2 es2 n3 ss3 → Plays M step peek n ss (es ++ es2) n3 ss3
  plays_then {n} {n2} {n3} {ss} {ss2} {ss3} {es} {es2} (stays y e k f) g =
      subst (λ (v : List Event). Plays M step peek n ss (v ++ es2) n3 ss3) (sym e) (subst (λ (v : List (Station M)). Plays M step peek n v es2 n3 ss3) f (subst (λ (v : ℕ). Plays M step peek v ss2 es2 n3 ss3) k g))
  plays_then {n} {n2} {n3} {ss} {ss2} {ss3} {es} {es2} (change c more y l i e f) g = change c (more ++ es2) y l i (ap (λ (v : List Event). v ++ es2) e) (plays_then f g)
  plays_then {n} {n2} {n3} {ss} {ss2} {ss3} {es} {es2} (reaction t b o h more y e i k f) g =
      let ds = drive_events o.port.party.device (shown M step peek t o) in
      reaction t b o h (more ++ es2) y e i (ap (λ (v : List Event). v ++ es2) k ∙ append_assoc ds more es2) (plays_then f g)

  -- where a reaction is the first that is due, nothing is due sooner
  pub all_in_time : (t : ℕ) (before : List (Station M)) (o : Station M) (afterwards : List (Station M)) → IsFirst M step peek t before o afterwards → AllInTime M step peek t (before ++ o ∷ afterwards)
  all_in_time t [] o afterwards f = (due (port_due o.port) f.due, f.in_time)
    where
      due : (x : Option ℕ) → x ≡ Some t → IsInTime t x
      due None e = tt
      due (Some u) e = let k : u ≡ t = cc in omega (arith, k)
  all_in_time t (b ∷ before) o afterwards f = (one (port_due b.port) f.later.0, all_in_time t before o afterwards (record { due = f.due; later = f.later.1; in_time = f.in_time }))
    where
      one : (x : Option ℕ) → IsLaterDue t x → IsInTime t x
      one None k = tt
      one (Some u) k = omega (arith, k)

  module _ (bs : List Party) (ms : ℕ → M) where
    abbrev from_rest : List (Station M)
    from_rest = at_rest M step peek ms bs

    abbrev IsAllowed : List Piece → Type 0
    IsAllowed ks = Allowed M step peek (rest bs) ms ks

    -- what was played from rest
    abbrev pub Played : List Event → List (Station M) → Type 0
    Played es ss = (n : ℕ) × Plays M step peek zero from_rest es n ss

    -- an allowed session that begins so, with the host's next changes not before t
    pub record Adopted (es : List Event) (t : ℕ) : Type 0 where
      pub pieces : List Piece
      pub done : List Step
      pub more : List Step
      pub splits : Splits bs pieces done more
      pub events : events_of done ≡ es
      pub allowed : IsAllowed pieces
      pub host : HostFrom t more

    abbrev IsShowing : List Change → Type 0
    IsShowing [] = ⊥
    IsShowing (c ∷ cs) = Unit {0}

    -- What the pieces have to give. Adopts: a session that begins as the play did, with no change of the host before t, where nothing is due before t, can be made an allowed one.
    -- Postpones: where a change of a drive is due at t, the host's changes of that moment can be put off. Next: then the first reaction that is due comes next.
    -- Soon: no drive's change comes before what is due. Ran: the machines ran what counts. Order: a session's moments never go back.
    pub record Laws : Type 0 where
      pub adopts : (es : List Event) (ss : List (Station M)) (t : ℕ) (ks : List Piece) (done more : List Step) → Played es ss → AllInTime M step peek t ss → Splits bs ks done more → events_of done ≡ es → HostFrom t more → Adopted es t
      pub postpones : (es : List Event) (t : ℕ) (before : List (Station M)) (o : Station M) (afterwards : List (Station M)) → Adopted es t → Played es (before ++ o ∷ afterwards) → IsFirst M step peek t before o afterwards → IsShowing (shown M step peek t o) → Adopted es (suc t)
      pub next : (es : List Event) (t : ℕ) (before : List (Station M)) (o : Station M) (afterwards : List (Station M)) (a : Adopted es (suc t)) → Played es (before ++ o ∷ afterwards) → IsFirst M step peek t before o afterwards
          → (rs : List Step) × ((more : List Step) × ((a.more ≡ rs ++ more) × (events_of rs ≡ drive_events o.port.party.device (shown M step peek t o))))
      pub soon : (es : List Event) (ss : List (Station M)) (t : ℕ) (ks : List Piece) (done more : List Step) (s : Step) → Played es ss → AllInTime M step peek t ss → Splits bs ks done (s ∷ more) → events_of done ≡ es → IsAllowed ks → HostFrom t (s ∷ more)
          → is_host s.event.who ≡ false → t ≤ moment_of s
      pub ran : (es : List Event) (ss : List (Station M)) (ks : List Piece) (done more : List Step) → Played es ss → Splits bs ks done more → events_of done ≡ es → IsAllowed ks → RanEach M step peek ms done ss
      pub order : (ks : List Piece) (done more : List Step) → Splits bs ks done more → GoesOn (done ++ more)

    module _ (laws : Laws) where
      in_time_all : (e m : ℕ) (ss : List (Station M)) → e ≤ m → AllInTime M step peek m ss → AllInTime M step peek e ss
      in_time_all e m [] l h = tt
      in_time_all e m (s ∷ ss) l h = (one (port_due s.port) h.0, in_time_all e m ss l h.1)
        where
          one : (o : Option ℕ) → IsInTime m o → IsInTime e o
          one None k = tt
          one (Some t) k = omega (arith, l, k)

      never : (ss : List (Station M)) → AllInTime M step peek zero ss
      never [] = tt
      never (s ∷ ss) = (one (port_due s.port), never ss)
        where
          one : (o : Option ℕ) → IsInTime zero o
          one None = tt
          one (Some t) = omega arith

      later_all : (e : ℕ) (ss : List (Station M)) → AllLater M step peek e ss → AllInTime M step peek (suc e) ss
      later_all e [] h = tt
      later_all e (s ∷ ss) h = (one (port_due s.port) h.0, later_all e ss h.1)
        where
          one : (o : Option ℕ) → IsLaterDue e o → IsInTime (suc e) o
          one None k = tt
          one (Some t) k = omega (arith, k)

      -- a session among these that begins so, allowed, with no change of the host up to e
      record Fit (among : List Piece → Type 0) (es : List Event) (e : ℕ) : Type 0 where
        pub pieces : List Piece
        pub done : List Step
        pub more : List Step
        pub is : among pieces
        pub splits : Splits bs pieces done more
        pub events : events_of done ≡ es
        pub allowed : IsAllowed pieces
        pub quiet : LaterHost e more

      abbrev Gives : (List Piece → Type 0) → Type 0
      Gives among = (es : List Event) (ss : List (Station M)) (e : ℕ) → Played es ss → AllInTime M step peek (suc e) ss → SomeQuiet bs among es e → Fit among es e

      gives_any : Gives any
      gives_any es ss e g i q =
          let k = q.1.1.1.1 in
          let a = laws.adopts es ss (suc e) q.0 q.1.0 q.1.1.0 g i k.splits k.shown (later_from e q.1.1.0 k.quiet) in
          record { pieces = a.pieces; done = a.done; more = a.more; is = tt; splits = a.splits; events = a.events; allowed = a.allowed; quiet = from_later e (suc e) a.more (omega arith) a.host }

      gives_allowed : Gives IsAllowed
      gives_allowed es ss e g i q =
          let k = q.1.1.1.1 in
          record { pieces = q.0; done = q.1.0; more = q.1.1.0; is = q.1.1.1.0; splits = k.splits; events = k.shown; allowed = q.1.1.1.0; quiet = k.quiet }

      module _ (among : List Piece → Type 0) (gives : Gives among) where
        -- where nothing is due up to e, the trace isn't late at e
        prompt_at : (es : List Event) (ss : List (Station M)) (e : ℕ) → Played es ss → AllInTime M step peek (suc e) ss → IsLateAt bs among es e → ⊥
        prompt_at es ss e g i late =
            let x = gives es ss e g i late.some in
            let owes : Owes e x.more = late.each x.pieces x.done x.more x.is (record { splits = x.splits; shown = x.events; quiet = x.quiet }) in
            go x.more x.splits x.quiet owes x.done x.events x.pieces x.allowed
          where
            go : (more : List Step) {ks : List Piece} {d : List Step} → Splits bs ks d more → LaterHost e more → Owes e more → (done : List Step) → events_of d ≡ es → (ps : List Piece) → IsAllowed ks → ⊥
            go [] sp q o done ev ps al = elim o [ ]
            go (s ∷ more) {ks} {d} sp q o done ev ps al =
                let late_by = laws.soon es ss (suc e) ks d more s g i sp ev al (later_from e (s ∷ more) q) o.0 in
                let at = o.1 in
                absurd (omega (arith, late_by, at))

        -- the trace isn't late at a moment between two of its events
        abbrev NotLateYet : List Event → Type 0
        NotLateYet es = (front back : List Event) (x : Event) (e : ℕ) → es ≡ front ++ x ∷ back → e < x.change.moment → IsLateAt bs among front e → ⊥

        not_late : (es : List Event) (ss : List (Station M)) (m : ℕ) → Played es ss → AllInTime M step peek m ss → NotLateYet es → IsLateBefore bs among es m → ⊥
        not_late es ss m g i n z = go z.1.0 z.1.1.1.0 z.1.1.1.1.1.0
          where
            go : (back : List Event) → es ≡ z.0 ++ back → StartsLater z.1.1.0 m back → ⊥
            go [] e l =
                let same : es ≡ z.0 = e ∙ append-nil z.0 in
                prompt_at es ss z.1.1.0 g (in_time_all (suc z.1.1.0) m ss (omega (arith, z.1.1.1.1.0)) i) (subst (λ (v : List Event). IsLateAt bs among v z.1.1.0) (sym same) z.1.1.1.1.1.1)
            go (x ∷ back) e l = n z.0 back x z.1.1.0 e l z.1.1.1.1.1.1

        -- one event more
        not_late_more : (es : List Event) (x : Event) → NotLateYet es → ((e : ℕ) → e < x.change.moment → IsLateAt bs among es e → ⊥) → NotLateYet (es ++ x ∷ [])
        not_late_more es x n h front back y e k l late = elim (last_or es front back k) [
          | inl u ↦ h e (subst (λ (v : Event). e < v.change.moment) (sym u.1) l) (subst (λ (v : List Event). IsLateAt bs among v e) (sym u.0) late)
          | inr u ↦ n front u.0 y e u.1 l late
        ]
          where
            last_or : (es front back : List Event) → es ++ x ∷ [] ≡ front ++ y ∷ back → ((es ≡ front) × (x ≡ y)) ⊎ ((b : List Event) × (es ≡ front ++ y ∷ b))
            last_or [] [] back k = inl (refl, cc)
            last_or [] (f ∷ []) back k = absurd cc
            last_or [] (f ∷ g ∷ front) back k = absurd cc
            last_or (s ∷ es) [] back k = let h : s ≡ y = cc in inr (es, ap (λ (v : Event). v ∷ es) h)
            last_or (s ∷ es) (f ∷ front) back k =
                let h : s ≡ f = cc in
                let t : es ++ x ∷ [] ≡ front ++ y ∷ back = cc in
                elim (last_or es front back t) [
                  | inl u ↦ inl (let g = u.0 in (cc, u.1))
                  | inr u ↦ inr (u.0, (let g = u.1 in cc))
                ]

        -- after a drive's change of this very moment nothing is owed before it
        split_last : (done : List Step) (es : List Event) (y : Event) → events_of done ≡ es ++ y ∷ [] → (d : List Step) × ((s : Step) × ((done ≡ d ++ s ∷ []) × (s.event ≡ y)))
        split_last [] [] y e = absurd cc
        split_last [] (x ∷ es) y e = absurd cc
        split_last (s ∷ []) [] y e = ([], (s, (refl, cc)))
        split_last (s ∷ s2 ∷ done) [] y e = absurd cc
        split_last (s ∷ done) (x ∷ es) y e =
            let k = split_last done es y cc in
            (s ∷ k.0, (k.1.0, (ap (λ (v : List Step). s ∷ v) k.1.1.0, k.1.1.1)))

        last_order : (d : List Step) (s x : Step) (more : List Step) → GoesOn ((d ++ s ∷ []) ++ x ∷ more) → moment_of s ≤ moment_of x
        last_order [] s x more g = sooner s.event.who (moment_of s) x.event.who (moment_of x) g.0.0
          where
            sooner : (w : Who) (m : ℕ) (v : Who) (n : ℕ) → NotSooner w m v n → m ≤ n
            sooner Host m v n h = h
            sooner (Drive o) m Host n h = omega (arith, h)
            sooner (Drive o) m (Drive u) n h = h
        last_order (y ∷ d) s x more g = last_order d s x more g.1

        owes_after : (es : List Event) (y : Event) (e : ℕ) → e < y.change.moment → IsLateAt bs among (es ++ y ∷ []) e → ⊥
        owes_after es y e l late =
            let q = late.some in
            let k = q.1.1.1.1 in
            let last = split_last q.1.0 es y k.shown in
            go q.1.1.0 (laws.order q.0 q.1.0 q.1.1.0 k.splits) (late.each q.0 q.1.0 q.1.1.0 q.1.1.1.0 k) last
          where
            go : (more : List Step) {done : List Step} → GoesOn (done ++ more) → Owes e more → ((d : List Step) × ((s : Step) × ((done ≡ d ++ s ∷ []) × (s.event ≡ y)))) → ⊥
            go [] g o last = elim o [ ]
            go (x ∷ more) g o last =
                let s = last.1.0 in
                let le : moment_of s ≤ moment_of x = last_order last.0 s x more (subst (λ (v : List Step). GoesOn (v ++ x ∷ more)) last.1.1.0 g) in
                let at : e < moment_of s = subst (λ (v : Event). e < v.change.moment) (sym last.1.1.1) l in
                let due = o.1 in
                absurd (omega (arith, le, at, due))

        not_late_reaction : (es : List Event) (ss : List (Station M)) (t : ℕ) (ds : List Event) → Played es ss → AllInTime M step peek t ss → AllAtMoment t ds → NotLateYet es → NotLateYet (es ++ ds)
        not_late_reaction es ss t [] g i a n = subst NotLateYet (sym (append-nil es)) n
        not_late_reaction es ss t (x ∷ ds) g i a n =
            let first = not_late_more es x n (λ e l late. let m = a.0 in prompt_at es ss e g (in_time_all (suc e) t ss (omega (arith, l, m)) i) late) in
            subst NotLateYet (append_assoc es (x ∷ []) ds) (rest_of ds es x a.0 a.1 first)
          where
            rest_of : (ds : List Event) (es : List Event) (x : Event) → x.change.moment ≡ t → AllAtMoment t ds → NotLateYet (es ++ x ∷ []) → NotLateYet ((es ++ x ∷ []) ++ ds)
            rest_of [] es x m a n = subst NotLateYet (sym (append-nil (es ++ x ∷ []))) n
            rest_of (y ∷ ds) es x m a n =
                let k = a.0 in
                let one = not_late_more (es ++ x ∷ []) y n (λ e l late. owes_after es x e (omega (arith, l, m, k)) late) in
                subst NotLateYet (append_assoc (es ++ x ∷ []) (y ∷ []) ds) (rest_of ds (es ++ x ∷ []) y k a.1 one)

      -- the changes of a reaction have its moment
      change_at_all : (d t : ℕ) (s : Station M) → AllAtMoment t (drive_events d (shown M step peek t s))
      change_at_all d t s = changes_at d t s.port.own.clock_low (next_held (peek s.machine) s.port).clock_low s.port.own.data_low (next_held (peek s.machine) s.port).data_low

      begins_here : (es : List Event) (ks : List Piece) (done more : List Step) → Splits bs ks done more → events_of done ≡ es → IsBeginning bs es
      begins_here es ks done more sp e = (acts_of bs done, (ks, (done, (more, (sp, e, refl)))))

      -- of the events of a reaction the trace with them begins a session too
      reaction_begins : (es : List Event) (t : ℕ) (before : List (Station M)) (o : Station M) (afterwards : List (Station M)) → Played es (before ++ o ∷ afterwards) → IsFirst M step peek t before o afterwards
          → Adopted es (suc t) → IsBeginning bs (es ++ drive_events o.port.party.device (shown M step peek t o))
      reaction_begins es t before o afterwards g f a =
          let x = laws.next es t before o afterwards a g f in
          let rs = x.0 in
          let more = x.1.0 in
          let sp : Splits bs a.pieces (a.done ++ rs) more = record {
            linked = a.splits.linked;
            steps = a.splits.steps ∙ ap (λ (v : List Step). a.done ++ v) x.1.1.0 ∙ sym (append_assoc a.done rs more);
          } in
          let ev : events_of (a.done ++ rs) ≡ es ++ drive_events o.port.party.device (shown M step peek t o) =
          events_append a.done rs ∙ ap (λ (v : List Event). v ++ events_of rs) a.events ∙ ap (λ (v : List Event). es ++ v) x.1.1.1 in
          begins_here (es ++ drive_events o.port.party.device (shown M step peek t o)) a.pieces (a.done ++ rs) more sp ev

      -- the quiet session from which the reaction goes on
      adopted : (es ds more : List Event) (ss : List (Station M)) (t end : ℕ) → Played es ss → AllInTime M step peek t ss → IsBeginning bs es → NotLateYet any gives_any es → HostKeeps bs (es ++ (ds ++ more)) end → NextAt t ds → Adopted es t
      adopted es ds more ss zero end g i b n k a =
          let q = b.1 in
          laws.adopts es ss zero q.0 q.1.0 q.1.1.0 g i q.1.1.1.0 q.1.1.1.1 (host_any q.1.1.0)
      adopted es ds more ss (suc e) end g i b n k a =
          let late : IsLateBefore bs any es e → ⊥ = not_late any gives_any es ss e g (in_time_all e (suc e) ss (omega arith) i) n in
          let q = k.due es (ds ++ more) e refl (starts ds a) b late in
          laws.adopts es ss (suc e) q.0 q.1.0 q.1.1.0 g i q.1.1.1.1.splits q.1.1.1.1.shown (later_from e q.1.1.0 q.1.1.1.1.quiet)
        where
          starts : (ds : List Event) → NextAt (suc e) ds → StartsLater e end (ds ++ more)
          starts [] a = elim a [ ]
          starts (d ∷ ds) a = let m = a in omega (arith, m)

      begins_more : (es ds more : List Event) (t end : ℕ) (before : List (Station M)) (o : Station M) (afterwards : List (Station M)) → Played es (before ++ o ∷ afterwards) → IsFirst M step peek t before o afterwards
          → IsBeginning bs es → NotLateYet any gives_any es → HostKeeps bs (es ++ (ds ++ more)) end → ds ≡ drive_events o.port.party.device (shown M step peek t o) → AllAtMoment t ds → IsBeginning bs (es ++ ds)
      begins_more es [] more t end before o afterwards g f b n k e a = subst (λ (v : List Event). IsBeginning bs v) (sym (append-nil es)) b
      begins_more es (d ∷ ds) more t end before o afterwards g f b n k e a =
          let x = adopted es (d ∷ ds) more (before ++ o ∷ afterwards) t end g (all_in_time t before o afterwards f) b n k a.0 in
          let later = laws.postpones es t before o afterwards x g f (showing (shown M step peek t o) e) in
          subst (λ (v : List Event). IsBeginning bs (es ++ v)) (sym e) (reaction_begins es t before o afterwards g f later)
        where
          showing : (cs : List Change) → d ∷ ds ≡ drive_events o.port.party.device cs → IsShowing cs
          showing [] e = absurd cc
          showing (c ∷ cs) e = tt

      bytes_first : {n n2 : ℕ} {ss ss2 : List (Station M)} {es : List Event} → Plays M step peek n ss es n2 ss2 → AllBytes M step peek ss
      bytes_first (stays y e k f) = y
      bytes_first (change c more y l i e f) = y
      bytes_first (reaction t b o h more y e i k f) = y

      kept : {n n2 : ℕ} {ss ss2 : List (Station M)} {es2 : List Event} → Plays M step peek n ss es2 n2 ss2 → (end : ℕ) → AllLater M step peek end ss2
          → (es : List Event) → Plays M step peek zero from_rest es n ss → IsBeginning bs es → NotLateYet any gives_any es → NotLateYet IsAllowed gives_allowed es → HostKeeps bs (es ++ es2) end → IsKept M step peek bs ms (es ++ es2) end ss2
      kept {n} {n2} {ss} {ss2} {es2} (stays y e v f) end i es g b nl na k =
          let q = b.1 in
          let played : Played es ss = (n, g) in
          let same : es ++ es2 ≡ es = ap (λ (v : List Event). es ++ v) e ∙ append-nil es in
          let a = laws.adopts es ss zero q.0 q.1.0 q.1.1.0 played (never ss) q.1.1.1.0 q.1.1.1.1 (host_any q.1.1.0) in
          let over = subst (λ (v : List (Station M)). AllLater M step peek end v) f i in
          let late : IsLateBefore bs IsAllowed es (end + 1) → ⊥ = not_late IsAllowed gives_allowed es ss (end + 1) played (in_time_all (end + 1) (suc end) ss (omega arith) (later_all end ss over)) na in
          subst (λ (v : List Event). IsKept M step peek bs ms v end ss2) (sym same)
          (subst (λ (v : List (Station M)). IsKept M step peek bs ms es end v) (sym f)
          (record { pieces = a.pieces; done = a.done; more = a.more; splits = a.splits; events = a.events; allowed = a.allowed; ran = laws.ran es ss a.pieces a.done a.more played a.splits a.events a.allowed; prompt = late }))
      kept {n} {n2} {ss} {ss2} {es2} (change c more y l i e p) end over es g b nl na k =
          let x = host_event c in
          let played : Played es ss = (n, g) in
          let same : es ++ es2 ≡ (es ++ x ∷ []) ++ more = ap (λ (v : List Event). es ++ v) e ∙ sym (append_assoc es (x ∷ []) more) in
          let split : es ++ es2 ≡ es ++ x ∷ more = ap (λ (v : List Event). es ++ v) e in
          let late : IsLateBefore bs any es c.moment → ⊥ = not_late any gives_any es ss c.moment played i nl in
          let b2 = k.changes es more x split refl b late in
          let g2 = plays_then g (change c [] y l i refl (stays (bytes_first p) refl refl refl)) in
          let n3 = not_late_more any gives_any es x nl (λ e2 l z. prompt_at any gives_any es ss e2 played (in_time_all (suc e2) c.moment ss (omega (arith, l)) i) z) in
          let na3 = not_late_more IsAllowed gives_allowed es x na (λ e2 l z. prompt_at IsAllowed gives_allowed es ss e2 played (in_time_all (suc e2) c.moment ss (omega (arith, l)) i) z) in
          subst (λ (v : List Event). IsKept M step peek bs ms v end ss2) (sym same)
          (kept p end over (es ++ x ∷ []) g2 b2 n3 na3 (subst (λ (v : List Event). HostKeeps bs v end) same k))
      kept {n} {n2} {ss} {ss2} {es2} (reaction t before o afterwards more y u f e p) end over es g b nl na k =
          let ds = drive_events o.port.party.device (shown M step peek t o) in
          let at = change_at_all o.port.party.device t o in
          let same : es ++ es2 ≡ (es ++ ds) ++ more = ap (λ (v : List Event). es ++ v) e ∙ sym (append_assoc es ds more) in
          let gu : Plays M step peek zero from_rest es n (before ++ o ∷ afterwards) = subst (λ (v : List (Station M)). Plays M step peek zero from_rest es n v) u g in
          let played : Played es (before ++ o ∷ afterwards) = (n, gu) in
          let i = all_in_time t before o afterwards f in
          let k1 = subst (λ (v : List Event). HostKeeps bs (es ++ v) end) e k in
          let b2 = begins_more es ds more t end before o afterwards played f b nl k1 refl at in
          let one : Plays M step peek n (before ++ o ∷ afterwards) (ds ++ []) (suc t) (reacting M step peek t before o afterwards) =
          reaction t before o afterwards [] (subst (λ (v : List (Station M)). AllBytes M step peek v) u y) refl f refl (stays (bytes_first p) refl refl refl) in
          let g2 = subst (λ (v : List Event). Plays M step peek zero from_rest (es ++ v) (suc t) (reacting M step peek t before o afterwards)) (append-nil ds) (plays_then gu one) in
          let n3 = not_late_reaction any gives_any es (before ++ o ∷ afterwards) t ds played i at nl in
          let na3 = not_late_reaction IsAllowed gives_allowed es (before ++ o ∷ afterwards) t ds played i at na in
          subst (λ (v : List Event). IsKept M step peek bs ms v end ss2) (sym same)
          (kept p end over (es ++ ds) g2 b2 n3 na3 (subst (λ (v : List Event). HostKeeps bs v end) same k))

      -- so from rest
      pub keeps_from : (n end : ℕ) (trace : List Event) (ss : List (Station M)) → Plays M step peek zero from_rest trace n ss → AllLater M step peek end ss → HostKeeps bs trace end → IsKept M step peek bs ms trace end ss
      keeps_from n end trace ss p over k =
          kept p end over [] (stays (bytes_first p) refl refl refl) (begins_here [] [] [] [] (record { linked = tt; steps = refl }) refl) nothing nothing_allowed k
        where
          nothing : NotLateYet any gives_any []
          nothing [] back x e f l h = absurd cc
          nothing (y ∷ front) back x e f l h = absurd cc

          nothing_allowed : NotLateYet IsAllowed gives_allowed []
          nothing_allowed [] back x e f l h = absurd cc
          nothing_allowed (y ∷ front) back x e f l h = absurd cc
