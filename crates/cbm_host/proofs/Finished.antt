-- Where no more events come the session is over: what the host does next is always a step of it, and a drive changes a line as long as it has to.
use Rattle.std.proofs.Common.{◌≡◌, ℕ, zero, ◌+◌, ◌<◌, ◌≤◌, ◌⊎◌, inl, inr, Bool, List, [], ◌∷◌, ◌++◌, append_assoc, Option, Some, refl, sym, ap, ◌∙◌, subst, arith}
use Rattle.cbm_iec.specs.Ports.{change_at}
use Rattle.cbm_iec.specs.declared.machine.Act.{Act}
use Rattle.cbm_iec.specs.declared.event.Event.{Event}
use Rattle.cbm_iec.specs.declared.event.Who.TheVariants.{Host, Drive}
use Rattle.cbm_iec.specs.declared.event.Who.{Who}
use Rattle.cbm_iec.specs.declared.lines.Change.{Change}
use Rattle.cbm_iec.specs.declared.party.Party.{Party}
use Rattle.cbm_session.proofs.timing.SessionOrder.{goes_on}
use Rattle.cbm_session.specs.Answers.{Allowed}
use Rattle.cbm_session.specs.Laws.{NotSooner, AllAfter, GoesOn}
use Rattle.cbm_session.specs.Pieces.{Piece}
use Rattle.cbm_session.specs.Playing.{Station, host_event, AllBytes, IsMachine}
use Rattle.cbm_session.specs.Sessions.{rest, Linked, session_steps, IsBus}
use Rattle.cbm_session.specs.Steps.{Step, moment_of, event_of, events_of}
use Rattle.cbm_drive.specs.Players.{Turns, from_after}
use Rattle.cbm_host.proofs.Along.{Joined, GoesTo, end_due, end_passed, passed_at}
use Rattle.cbm_host.proofs.Handed.{handed_on}
use Rattle.cbm_host.proofs.Joining.{quiet_next}
use Rattle.cbm_host.proofs.Waiting.{passed_due}
use Rattle.cbm_host.specs.Engines.{Engined, engine_due, engine_passed}
use Rattle.cbm_host.specs.Performed.{from_last}
use Rattle.cbm_host.specs.Performers.{IsQuietUntil, GoesOnFrom, StopsPerforming}
use Rattle.cbm_host.specs.Performing.{Performs, IsBefore, IsSilent, ends, makes, sees, passes}
use Rattle.cbm_host.specs.declared.due.Due.{Due}
use Rattle.cbm_host.specs.declared.due.Due.TheVariants.{Makes, Waits, Hears, Over}
use Rattle.cbm_host.specs.declared.stage.Stage.TheVariants.{Ending}

-- ---- moments of ordered steps

sooner : (w : Who) (m : ℕ) (v : Who) (n : ℕ) → NotSooner w m v n → m ≤ n
sooner Host m v n h = h
sooner (Drive o) m Host n h = omega (arith, h)
sooner (Drive o) m (Drive u) n h = h

pub all_upto : (w : Who) (m : ℕ) (front : List Step) (last : Step) → AllAfter w m (front ++ last ∷ []) → m ≤ moment_of last
all_upto w m [] last h = sooner w m last.event.who (moment_of last) h.0
all_upto w m (x ∷ front) last h = all_upto w m front last h.1

-- a step of such a list isn't later than its last
pub upto_last : (xs : List Step) (s : Step) (ys front : List Step) (last : Step) → GoesOn (xs ++ s ∷ ys) → xs ++ s ∷ ys ≡ front ++ last ∷ [] → moment_of s ≤ moment_of last
upto_last [] s ys [] last g e = let same : s ≡ last = cc in subst (λ (v : Step). moment_of s ≤ moment_of v) same (omega arith)
upto_last [] s ys (f ∷ front) last g e =
    let same : s ≡ f = cc in
    let tail : ys ≡ front ++ last ∷ [] = cc in
    all_upto s.event.who (moment_of s) front last (subst (AllAfter s.event.who (moment_of s)) tail g.0)
upto_last (x ∷ []) s ys [] last g e = absurd cc
upto_last (x ∷ y ∷ xs) s ys [] last g e = absurd cc
upto_last (x ∷ xs) s ys (f ∷ front) last g e = let tail : xs ++ s ∷ ys ≡ front ++ last ∷ [] = cc in upto_last xs s ys front last g.1 tail

-- a change of the host isn't before what came before it allows
after_front : (t : ℕ) (done m1 : List Step) (s : Step) (m2 : List Step) → s.event.who ≡ Host → GoesOn (done ++ (m1 ++ s ∷ m2)) → t ≤ moment_of s → from_last t (events_of done) ≤ moment_of s
after_front t [] m1 s m2 w g l = l
after_front t (x ∷ done) m1 s m2 w g l = after_front (from_after x.event.who (moment_of x)) done m1 s m2 w g.1 (afterwards x.event.who (subst (λ (v : Who). NotSooner x.event.who (moment_of x) v (moment_of s)) w (find done g.0)))
  where
    find : (xs : List Step) → AllAfter x.event.who (moment_of x) (xs ++ (m1 ++ s ∷ m2)) → NotSooner x.event.who (moment_of x) s.event.who (moment_of s)
    find [] h = find_in m1 h
      where
        find_in : (ys : List Step) → AllAfter x.event.who (moment_of x) (ys ++ s ∷ m2) → NotSooner x.event.who (moment_of x) s.event.who (moment_of s)
        find_in [] h = h.0
        find_in (y ∷ ys) h = find_in ys h.1
    find (y ∷ xs) h = find xs h.1

    afterwards : (v : Who) → NotSooner v (moment_of x) Host (moment_of s) → from_after v (moment_of x) ≤ moment_of s
    afterwards Host h = h
    afterwards (Drive o) h = omega (arith, h)

module _ (M : Type 0) (step : M → Act → M) (peek : M → Option (ℕ × Bool)) (bytes : (ss : List (Station M)) → AllBytes M step peek ss) (b : Party) (ms : ℕ → M) (is_bus : IsBus (b ∷ [])) (machine : IsMachine M step peek) (ks : List Piece) (linked : Linked (rest (b ∷ [])) ks) (allowed : Allowed M step peek (rest (b ∷ [])) ms ks)
    (afterwards : Engined) (until : ℕ) (ending : afterwards.stage ≡ Ending until) (limit : ℕ) (soon : until ≤ limit) (front : List Step) (last : Step) (parts : session_steps (rest (b ∷ [])) ks ≡ front ++ last ∷ []) (over : moment_of last ≤ until) where
  abbrev steps : List Step
  steps = session_steps (rest (b ∷ [])) ks

  abbrev To : List Step → Engined → Engined → Type 0
  To done old e = GoesTo M step peek bytes b ms is_bus machine ks linked allowed afterwards until ending done old e

  abbrev start : List (Station M)
  start = Rattle.cbm_session.specs.Playing.at_rest M step peek ms (b ∷ [])

  order_all : GoesOn steps
  order_all = goes_on (b ∷ []) ks is_bus linked

  -- each step of the session comes up to the limit
  within : (done : List Step) (s : Step) (more : List Step) → steps ≡ done ++ s ∷ more → moment_of s ≤ limit
  within done s more e = let l = upto_last done s more front last (subst GoesOn e order_all) (sym e ∙ parts) in omega (arith, l, over, soon)

  waits_end : (e : Engined) → afterwards ≡ e → engine_due e ≡ Waits until
  waits_end e same = end_due M step peek bytes b ms is_bus machine ks linked allowed afterwards until ending e same

  -- the engine after a wait performs what is left of the session too, or the session is over
  found_performs : (done more : List Step) {e : Engined} → Performs e more afterwards → steps ≡ done ++ more → (found : Engined) → To done e found → Performs found more afterwards ⊎ ((more ≡ []) × (engine_due found ≡ Over until))
  found_performs done more {e} p all found (inl g) = inl (subst (λ (x : Engined). Performs x more afterwards) (sym g) p)
  found_performs done more {e} (ends same) all found (inr g) = inr (refl, ap engine_due g.2 ∙ end_passed M step peek bytes b ms is_bus machine ks linked allowed afterwards until ending e same)
  found_performs done more {e} (makes {t} {line} {way} due taken h) all found (inr g) = let k : Makes (change_at t line way) ≡ Waits g.0 = sym due ∙ g.1 in absurd cc
  found_performs done more {e} (sees {o} {t} {line} {way} {mark} {ss} early h) all found (inr g) =
      let late = quiet_next M step peek bytes b ms is_bus machine ks linked allowed done (record { event = event_of (Drive o) t line way; mark = mark }) ss o g.0 all refl g.3 in
      let l : t < g.0 = subst (IsBefore t) g.1 early in
      absurd (omega (arith, late, l))
  found_performs done more {e} (passes u due silent h) all found (inr g) = inl (subst (λ (x : Engined). Performs x more afterwards) (sym g.2) h)

  -- what the host is to do is a step of the session
  record IsMade (more : List Step) (c : Change) : Type 0 where
    pub before : List Step
    pub made : Step
    pub left : List Step
    pub is : more ≡ before ++ made ∷ left
    pub event : made.event ≡ host_event c

  made_later : (more : List Step) {e : Engined} → Performs e more afterwards → (c : Change) → engine_due e ≡ Makes c → IsMade more c
  made_later more {e} (ends same) c due = let k : Waits until ≡ Makes c = sym (waits_end e same) ∙ due in absurd cc
  made_later more {e} (makes {t} {line} {way} {mark} {ss} is taken h) c due =
      let k : Makes (change_at t line way) ≡ Makes c = sym is ∙ due in
      let same : change_at t line way ≡ c = cc in
      record { before = []; made = record { event = event_of Host t line way; mark = mark }; left = ss; is = refl; event = ap (λ (x : Change). host_event x) same }
  made_later more {e} (sees {o} {t} {line} {way} {mark} {ss} early h) c due =
      let k = made_later ss h c (handed_on (Some c) e (change_at t line way) due) in
      record { before = (record { event = event_of (Drive o) t line way; mark = mark }) ∷ k.before; made = k.made; left = k.left; is = ap (λ (l : List Step). (record { event = event_of (Drive o) t line way; mark = mark }) ∷ l) k.is; event = k.event }
  made_later more {e} (passes u wait silent h) c due = let k : Waits u ≡ Makes c = sym wait ∙ due in absurd cc

  -- a step that isn't there
  none_later : (done more : List Step) {e : Engined} → Performs e more afterwards → steps ≡ done ++ more → engine_due e ≡ Hears → IsQuietUntil M step peek (limit + 1) zero start (events_of done) → ⊥
  none_later done more {e} (ends same) all due q = let k : Waits until ≡ Hears = sym (waits_end e same) ∙ due in cc
  none_later done more {e} (makes {t} {line} {way} is taken h) all due q = let k : Makes (change_at t line way) ≡ Hears = sym is ∙ due in cc
  none_later done more {e} (sees {o} {t} {line} {way} {mark} {ss} early h) all due q =
      let s : Step = record { event = event_of (Drive o) t line way; mark = mark } in
      let late = quiet_next M step peek bytes b ms is_bus machine ks linked allowed done s ss o (limit + 1) all refl q in
      let l = within done s ss all in
      omega (arith, late, l)
  none_later done more {e} (passes u wait silent h) all due q = let k : Waits u ≡ Hears = sym wait ∙ due in cc

  never_waits : (done more : List Step) {e : Engined} (u : ℕ) → Performs e more afterwards → steps ≡ done ++ more → engine_due e ≡ Waits u → limit < u → IsQuietUntil M step peek (limit + 1) zero start (events_of done) → ⊥
  never_waits done more {e} u (ends same) all due late q = let k : Waits until ≡ Waits u = sym (waits_end e same) ∙ due in let same2 : until ≡ u = cc in omega (arith, same2, late, soon)
  never_waits done more {e} u (makes {t} {line} {way} is taken h) all due late q = let k : Makes (change_at t line way) ≡ Waits u = sym is ∙ due in cc
  never_waits done more {e} u (sees {o} {t} {line} {way} {mark} {ss} early h) all due late q =
      let s : Step = record { event = event_of (Drive o) t line way; mark = mark } in
      let later = quiet_next M step peek bytes b ms is_bus machine ks linked allowed done s ss o (limit + 1) all refl q in
      let l = within done s ss all in
      omega (arith, later, l)
  never_waits done more {e} u (passes u2 wait silent h) all due late q =
      let same : u2 ≡ u = (let k : Waits u2 ≡ Waits u = sym wait ∙ due in cc) in
      after_a_wait done more u2 e wait silent h all (omega (arith, same, late))
    where
      after_a_wait : (done more : List Step) (u : ℕ) (e : Engined) → engine_due e ≡ Waits u → IsSilent u more → Performs (engine_passed e) more afterwards → steps ≡ done ++ more → limit < u → ⊥
      after_a_wait done [] u e due silent p all late = silent
      after_a_wait done more u e due silent (makes {t} {line} {way} {mark} {ss} is taken h) all late =
          let at_ = passed_at M step peek bytes b ms is_bus machine ks linked allowed afterwards until ending e u (change_at t line way) due is in
          let l = within done (record { event = event_of Host t line way; mark = mark }) ss all in
          omega (arith, at_, l, late)
      after_a_wait done more u e due silent (sees {o} {t} {line} {way} {mark} {ss} early h) all late =
          let l = within done (record { event = event_of (Drive o) t line way; mark = mark }) ss all in
          omega (arith, silent, l, late)
      after_a_wait done more u e due silent (passes u3 wait silent2 h) all late = let k : Rattle.cbm_host.proofs.Waiting.IsPassed u (Waits u3) = subst (Rattle.cbm_host.proofs.Waiting.IsPassed u) wait (passed_due e u due) in k

  never_over : (more : List Step) {e : Engined} (at : ℕ) → Performs e more afterwards → engine_due e ≡ Over at → ⊥
  never_over more {e} at (ends same) due = let k : Waits until ≡ Over at = sym (waits_end e same) ∙ due in cc
  never_over more {e} at (makes {t} {line} {way} is taken h) due = let k : Makes (change_at t line way) ≡ Over at = sym is ∙ due in cc
  never_over more {e} at (sees {t} early h) due = subst (IsBefore t) due early
  never_over more {e} at (passes u wait silent h) due = let k : Waits u ≡ Over at = sym wait ∙ due in cc

  -- THE SESSION IS OVER
  pub finished : (es : List Event) (e : Engined) (said : List ℕ) (l : Bool) (j : Joined M step peek bytes b ms is_bus machine ks linked allowed afterwards until ending es e said l) (found : Engined) → GoesOnFrom M step peek zero start es e found → (p : Turns) → p.from ≡ from_last 0 es → StopsPerforming M step peek p limit zero start es (engine_due found)
      → (j.more ≡ []) × (engine_due found ≡ Over until)
  finished es e said l j found g p from stops =
      elim (found_performs j.done j.more j.performs j.all found (subst (λ (x : List Event). GoesOnFrom M step peek zero start x e found) (sym j.shown) g)) [
        | inl k ↦ absurd (by_due (engine_due found) refl (subst (λ (x : List Event). StopsPerforming M step peek p limit zero start x (engine_due found)) (sym j.shown) stops) k)
        | inr k ↦ k
      ]
    where
      by_due : (d : Due) → engine_due found ≡ d → StopsPerforming M step peek p limit zero start (events_of j.done) d → Performs found j.more afterwards → ⊥
      by_due (Makes c) is (inl late) k =
          let m = made_later j.more k c is in
          let w = within (j.done ++ m.before) m.made m.left (j.all ∙ ap (λ (x : List Step). j.done ++ x) m.is ∙ sym (append_assoc j.done m.before (m.made ∷ m.left))) in
          let at_ : moment_of m.made ≡ c.moment = ap (λ (x : Event). x.change.moment) m.event in
          omega (arith, w, at_, late)
      by_due (Makes c) is (inr early) k =
          let m = made_later j.more k c is in
          let f = after_front 0 j.done m.before m.made m.left (ap (λ (x : Event). x.who) m.event) (subst GoesOn (j.all ∙ ap (λ (x : List Step). j.done ++ x) m.is) order_all) (omega arith) in
          let at_ : moment_of m.made ≡ c.moment = ap (λ (x : Event). x.change.moment) m.event in
          let same : p.from ≡ from_last 0 (events_of j.done) = from ∙ ap (λ (x : List Event). from_last 0 x) (sym j.shown) in
          omega (arith, f, at_, same, early)
      by_due (Waits u) is h k = never_waits j.done j.more u k j.all is h.0 h.1
      by_due Hears is h k = none_later j.done j.more k j.all is h
      by_due (Over at) is h k = never_over j.more at k is
