-- The events that came are a front of a session which the host performs: at each of them what is due first on the bus and what the host does next are the
-- session's next step.
use Rattle.std.proofs.Common.{◌≡◌, ℕ, zero, suc, ◌<◌, ◌≤◌, inl, inr, Bool, true, false, List, [], ◌∷◌, ◌++◌, append_assoc, append-nil, Option, Some, None, refl, sym, ap, ◌∙◌, subst, arith}
use Rattle.std.proofs.lemmas.Bool.Decides.{leb_tells}
use Rattle.std.specs.Prelude.{IfSome}
use Rattle.cbm_iec.specs.Ports.{port_due, next_held}
use Rattle.cbm_iec.specs.declared.machine.Act.{Act}
use Rattle.cbm_iec.specs.declared.event.Event.{Event}
use Rattle.cbm_iec.specs.declared.event.Who.TheVariants.{Host, Drive}
use Rattle.cbm_iec.specs.declared.event.Who.{Who}
use Rattle.cbm_iec.specs.declared.lines.Change.{Change}
use Rattle.cbm_iec.specs.declared.party.Party.{Party}
use Rattle.cbm_session.proofs.headline.Keeping.{HostFrom, Adopted, AllAtMoment, changes_at, events_append, all_in_time}
use Rattle.cbm_session.proofs.headline.LawsMet.{next_met, soon_met}
use Rattle.cbm_session.proofs.joining.Merging.{goes_after}
use Rattle.cbm_session.proofs.timing.SessionOrder.{goes_on}
use Rattle.cbm_session.specs.Answers.{Allowed}
use Rattle.cbm_session.specs.Following.{IsInTime}
use Rattle.cbm_session.specs.Laws.{AllAfter, GoesOn}
use Rattle.cbm_session.specs.Pieces.{Piece}
use Rattle.cbm_session.specs.Playing.{Station, drive_events, shown, react, AllBytes, AllInTime, Plays, stays, reaction, at_rest, IsMachine}
use Rattle.cbm_session.specs.Sessions.{rest, Linked, session_steps, IsBus}
use Rattle.cbm_session.specs.Steps.{Step, moment_of, events_of}
use Rattle.cbm_session.specs.Timing.{is_host}
use Rattle.cbm_drive.specs.Players.{pending}
use Rattle.cbm_drive.specs.Silence.{Foreseen, quiet, passes, AreSilent}
use Rattle.cbm_host.proofs.Joined.{HostComes, DriveComes, comes}
use Rattle.cbm_host.proofs.Settling.{one_stays}
use Rattle.cbm_host.specs.Performers.{IsQuietUntil}

-- ---- the host's changes of a session that are left

from_host : (t h : ℕ) (ss : List Step) → t ≤ h → AllAfter Host h ss → HostFrom t ss
from_host t h [] l a = tt
from_host t h (s ∷ ss) l a = (λ k. let m = a.0 in omega (arith, l, m), from_host t h ss l a.1)

from_drive : (t o m : ℕ) (ss : List Step) → t ≤ suc m → AllAfter (Drive o) m ss → HostFrom t ss
from_drive t o m [] l a = tt
from_drive t o m (s ∷ ss) l a = (one s.event.who a.0, from_drive t o m ss l a.1)
  where
    one : (w : Who) → Rattle.cbm_session.specs.Among.ComesAfter m w (moment_of s) → is_host w ≡ true → t ≤ moment_of s
    one Host h k = omega (arith, l, h)
    one (Drive u) h k = absurd cc

-- the first of these is the host's, and later than t; or a drive's, and not before t
pub after_the_host : (t : ℕ) (s : Step) (ss : List Step) → s.event.who ≡ Host → t < moment_of s → GoesOn (s ∷ ss) → HostFrom (suc t) (s ∷ ss)
after_the_host t s ss w l g = (λ k. omega (arith, l), from_host (suc t) (moment_of s) ss (omega (arith, l)) (subst (λ (v : Who). AllAfter v (moment_of s) ss) w g.0))

pub after_a_drive : (t d : ℕ) (s : Step) (ss : List Step) → s.event.who ≡ Drive d → t ≤ moment_of s → GoesOn (s ∷ ss) → HostFrom (suc t) (s ∷ ss)
after_a_drive t d s ss w l g = (λ k. (let no : is_host (Drive d) ≡ true = ap is_host (sym w) ∙ k in absurd cc), from_drive (suc t) d (moment_of s) ss (omega (arith, l)) (subst (λ (v : Who). AllAfter v (moment_of s) ss) w g.0))

-- a list of steps that ends where its events do
pub split_steps : (done : List Step) (f1 f2 : List Event) → events_of done ≡ f1 ++ f2 → (d1 : List Step) × (d2 : List Step) × (done ≡ d1 ++ d2) × (events_of d1 ≡ f1) × (events_of d2 ≡ f2)
split_steps done [] f2 e = ([], done, refl, refl, e)
split_steps [] (x ∷ f1) f2 e = absurd cc
split_steps (s ∷ done) (x ∷ f1) f2 e =
    let tail : events_of done ≡ f1 ++ f2 = cc in
    let head : s.event ≡ x = cc in
    let k = split_steps done f1 f2 tail in
    (s ∷ k.0, k.1, ap (λ (l : List Step). s ∷ l) k.2, ap (λ (l : List Event). s.event ∷ l) k.3 ∙ ap (λ (y : Event). y ∷ f1) head, k.4)

-- the step after a front
after_a_front : (d2 more rs left : List Step) (f2 second : List Event) (x : Event) → d2 ++ more ≡ rs ++ left → events_of d2 ≡ f2 → events_of rs ≡ f2 ++ x ∷ second → (s : Step) × (ss : List Step) × (more ≡ s ∷ ss) × (s.event ≡ x)
after_a_front [] more [] left f2 second x e h k = let none : f2 ≡ [] = sym h in let no : [] ≡ x ∷ second = k ∙ ap (λ (l : List Event). l ++ x ∷ second) none in absurd cc
after_a_front [] more (r ∷ rs) left f2 second x e h k =
    let same : r.event ∷ events_of rs ≡ x ∷ second = k ∙ ap (λ (l : List Event). l ++ x ∷ second) (sym h) in
    let first : r.event ≡ x = cc in
    (r, rs ++ left, e, first)
after_a_front (d ∷ d2) more [] left [] second x e h k = absurd cc
after_a_front (d ∷ d2) more [] left (f ∷ f2) second x e h k = absurd cc
after_a_front (d ∷ d2) more (r ∷ rs) left [] second x e h k = absurd cc
after_a_front (d ∷ d2) more (r ∷ rs) left (f ∷ f2) second x e h k =
    let tail : d2 ++ more ≡ rs ++ left = cc in
    let shown : events_of d2 ≡ f2 = cc in
    let rest : events_of rs ≡ f2 ++ x ∷ second = cc in
    after_a_front d2 more rs left f2 second x tail shown rest

module _ (M : Type 0) (step : M → Act → M) (peek : M → Option (ℕ × Bool)) (bytes : (ss : List (Station M)) → AllBytes M step peek ss) where
  pub in_time_sooner : (e m : ℕ) (ss : List (Station M)) → e ≤ m → AllInTime M step peek m ss → AllInTime M step peek e ss
  in_time_sooner e m [] l h = tt
  in_time_sooner e m (s ∷ ss) l h = (one (port_due s.port) h.0, in_time_sooner e m ss l h.1)
    where
      one : (o : Option ℕ) → IsInTime m o → IsInTime e o
      one None k = tt
      one (Some t) k = omega (arith, l, k)

  -- what is silent up to a moment is played up to it
  silent_on : (limit : ℕ) (answer : Bool) (n n2 : ℕ) (ss : List (Station M)) (a : Station M) (es : List Event) → Foreseen M step peek limit answer a → answer ≡ false → Plays M step peek n ss es n2 (a ∷ [])
      → (k : ℕ) × (c : Station M) × Plays M step peek n ss es k (c ∷ []) × IsInTime limit (port_due c.port)
  silent_on limit _ n n2 ss a es (quiet l) e p = (n2, a, p, l)
  silent_on limit _ n n2 ss a es (Rattle.cbm_drive.specs.Silence.shows t due l some) e p = absurd cc
  silent_on limit answer n n2 ss a es (passes t due l none more) e p =
      silent_on limit answer n (suc t) ss (react M step peek t a) es more e
      (subst (λ (l : List Event). Plays M step peek n ss l (suc t) (react M step peek t a ∷ [])) (append-nil es)
      (Rattle.cbm_session.proofs.headline.Keeping.plays_then M step peek p
      (reaction t [] a [] [] (bytes (a ∷ [])) refl (record { due = due; later = tt; in_time = tt }) (ap (λ (cs : List Change). drive_events a.port.party.device cs ++ []) (sym none)) (stays (bytes (react M step peek t a ∷ [])) refl refl refl))))

  shown_at : (d t : ℕ) (o : Station M) → AllAtMoment t (drive_events d (shown M step peek t o))
  shown_at d t o = changes_at d t o.port.own.clock_low (next_held (peek o.machine) o.port).clock_low o.port.own.data_low (next_held (peek o.machine) o.port).data_low

  at_moment : (t : ℕ) (front : List Event) (x : Event) (back es : List Event) → AllAtMoment t es → es ≡ front ++ x ∷ back → x.change.moment ≡ t
  at_moment t [] x back [] h e = absurd cc
  at_moment t [] x back (y ∷ es) h e = let same : y ≡ x = cc in ap (λ (z : Event). z.change.moment) (sym same) ∙ h.0
  at_moment t (f ∷ front) x back [] h e = absurd cc
  at_moment t (f ∷ front) x back (y ∷ es) h e = let tail : es ≡ front ++ x ∷ back = cc in at_moment t front x back es h.1 tail

  module _ (b : Party) (ms : ℕ → M) (is_bus : IsBus (b ∷ [])) (machine : IsMachine M step peek) (ks : List Piece) (linked : Linked (rest (b ∷ [])) ks) (allowed : Allowed M step peek (rest (b ∷ [])) ms ks) where
    abbrev pub ss0 : List (Station M)
    ss0 = at_rest M step peek ms (b ∷ [])

    abbrev pub all_steps : List Step
    all_steps = session_steps (rest (b ∷ [])) ks

    pub order : (done more : List Step) → all_steps ≡ done ++ more → GoesOn more
    order done more e = goes_after done more (subst GoesOn e (goes_on (b ∷ []) ks is_bus linked))

    -- where nothing is due before a moment, the session's next change of the drive isn't before it either
    pub no_sooner : (done : List Step) (s : Step) (more : List Step) (d n u : ℕ) (ss : List (Station M)) → all_steps ≡ done ++ s ∷ more → s.event.who ≡ Drive d → Plays M step peek zero ss0 (events_of done) n ss → AllInTime M step peek u ss → u ≤ moment_of s
    no_sooner done s more d n u ss e w p i = elim (leb_tells u (moment_of s)) [
      | inl k ↦ k.1
      | inr k ↦
          (let late = k.1 in
          let early : suc (moment_of s) ≤ u = omega (arith, late) in
          let l = soon_met M step peek (b ∷ []) ms is_bus machine (events_of done) ss (suc (moment_of s)) ks done more s (n, p) (in_time_sooner (suc (moment_of s)) u ss early i) (record { linked = linked; steps = e }) refl allowed
          (after_a_drive (moment_of s) d s more w (omega arith) (order done (s ∷ more) e)) (ap is_host w) in
          absurd (omega (arith, l)))
    ]

    -- the drive's event is the session's next step, where the host has no change up to then
    pub is_next : (done more : List Step) (x : Event) → all_steps ≡ done ++ more → (k : DriveComes M step peek zero ss0 (events_of done) x) → (k.first ≡ [] → HostFrom (suc k.moment) more) → (s : Step) × (ss : List Step) × (more ≡ s ∷ ss) × (s.event ≡ x)
    is_next done more x e k late =
        let p = split_steps done k.before_it k.first k.parts in
        let all : all_steps ≡ p.0 ++ (p.1 ++ more) = e ∙ ap (λ (l : List Step). l ++ more) p.2 ∙ append_assoc p.0 p.1 more in
        let a : Adopted M step peek (b ∷ []) ms k.before_it (suc k.moment) = record { pieces = ks; done = p.0; more = p.1 ++ more; splits = record { linked = linked; steps = all }; events = p.3; allowed = allowed; host = by_first p.1 p.4 (order p.0 (p.1 ++ more) all) } in
        let n = next_met M step peek (b ∷ []) ms is_bus machine k.before_it k.moment k.before k.o k.afterwards a (k.from, k.plays) k.due in
        after_a_front p.1 more n.0 n.1.0 k.first k.second x n.1.1.0 p.4 (n.1.1.1 ∙ k.events)
      where
        by_first : (d2 : List Step) → events_of d2 ≡ k.first → GoesOn (d2 ++ more) → HostFrom (suc k.moment) (d2 ++ more)
        by_first [] h g = late (sym h)
        by_first (s ∷ d2) h g =
            let o = k.o.port.party.device in
            let events : drive_events o (shown M step peek k.moment k.o) ≡ s.event ∷ (events_of d2 ++ x ∷ k.second) = k.events ∙ ap (λ (l : List Event). l ++ x ∷ k.second) (sym h) in
            let at_ = at_moment k.moment [] s.event (events_of d2 ++ x ∷ k.second) (drive_events o (shown M step peek k.moment k.o)) (shown_at o k.moment k.o) events in
            after_a_drive k.moment o s (d2 ++ more) (Rattle.cbm_host.proofs.Joined.drive_event M step peek o (shown M step peek k.moment k.o) [] s.event (events_of d2 ++ x ∷ k.second) events) (omega (arith, at_)) g

    pub moment_is : (front : List Event) (x : Event) (k : DriveComes M step peek zero ss0 front x) → x.change.moment ≡ k.moment
    moment_is front x k = at_moment k.moment k.first x k.second (drive_events k.o.port.party.device (shown M step peek k.moment k.o)) (shown_at k.o.port.party.device k.moment k.o) k.events

    -- where no drive changes a line before a moment, the session has none either
    pub quiet_next : (done : List Step) (s : Step) (more : List Step) (d u : ℕ) → all_steps ≡ done ++ s ∷ more → s.event.who ≡ Drive d → IsQuietUntil M step peek u zero ss0 (events_of done) → u ≤ moment_of s
    quiet_next done s more d u e w q = by_second q.second refl
      where
        by_silence : (xs : List (Station M)) (n : ℕ) → AreSilent M step peek u xs → Plays M step peek zero ss0 (events_of done) n xs → u ≤ moment_of s
        by_silence xs n h p =
            let one = one_stays M step peek p _ refl in
            let alone : AreSilent M step peek u (one.0 ∷ []) = subst (AreSilent M step peek u) one.1 h in
            let k = silent_on u false zero n ss0 one.0 (events_of done) alone.1 refl (subst (Plays M step peek zero ss0 (events_of done) n) one.1 p) in
            no_sooner done s more d k.0 u (k.1 ∷ []) e w k.2 (k.3, tt)

        by_who : (x : Event) (v : Who) → u ≤ x.change.moment → Rattle.cbm_host.proofs.Joined.Comes M step peek zero ss0 (events_of done) v x → u ≤ moment_of s
        by_who x Host l k = no_sooner done s more d k.from u k.there e w k.plays (in_time_sooner u x.change.moment k.there l k.time)
        by_who x (Drive o) l k = by_first k.first refl
          where
            by_first : (f : List Event) → k.first ≡ f → u ≤ moment_of s
            by_first [] none =
                let same : k.before_it ≡ events_of done = sym (k.parts ∙ ap (λ (l : List Event). k.before_it ++ l) none ∙ append-nil k.before_it) in
                let m = moment_is (events_of done) x k in
                no_sooner done s more d k.from u (k.before ++ k.o ∷ k.afterwards) e w (subst (λ (l : List Event). Plays M step peek zero ss0 l k.from (k.before ++ k.o ∷ k.afterwards)) same k.plays) (in_time_sooner u k.moment (k.before ++ k.o ∷ k.afterwards) (omega (arith, l, m)) (all_in_time M step peek k.moment k.before k.o k.afterwards k.due))
            by_first (f ∷ fs) some =
                let n = is_next done (s ∷ more) x e k (λ none. let no : f ∷ fs ≡ [] = sym some ∙ none in absurd cc) in
                let same : s ≡ n.0 = (let is = n.2 in cc) in
                let at_ : moment_of s ≡ x.change.moment = ap (λ (v : Step). moment_of v) same ∙ ap (λ (v : Event). v.change.moment) n.3 in
                omega (arith, l, at_)

        by_second : (o : Option Event) → q.second ≡ o → u ≤ moment_of s
        by_second None none = by_silence q.stations q.from (q.silent none) (subst (λ (l : List Event). Plays M step peek zero ss0 l q.from q.stations) (ap (λ (o : Option Event). events_of done ++ pending o) none ∙ append-nil (events_of done)) q.plays)
        by_second (Some x) some =
            let p : Plays M step peek zero ss0 (events_of done ++ x ∷ []) q.from q.stations = subst (λ (o : Option Event). Plays M step peek zero ss0 (events_of done ++ pending o) q.from q.stations) some q.plays in
            let l : u ≤ x.change.moment = subst (λ (o : Option Event). IfSome o (λ y. u ≤ y.change.moment)) some q.later in
            by_who x x.who l (comes M step peek p (events_of done) x [] refl)
