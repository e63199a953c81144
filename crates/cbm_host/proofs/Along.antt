-- A request goes along the session that its host performs: each event is the session's next step, and the bytes that the host takes are those that count.
use Rattle.std.proofs.Common.{◌≡◌, ℕ, zero, suc, ◌<◌, inl, inr, Bool, false, List, [], ◌∷◌, ◌++◌, append_assoc, append-nil, Option, Some, None, refl, sym, ap, ◌∙◌, subst, arith}
use Rattle.cbm_iec.specs.Ports.{change_at}
use Rattle.cbm_iec.specs.declared.machine.Act.TheVariants.{Pulled, Attention, Released, Heard, Said, Silent}
use Rattle.cbm_iec.specs.declared.machine.Act.{Act}
use Rattle.cbm_iec.specs.declared.event.Event.{Event}
use Rattle.cbm_iec.specs.declared.event.Who.TheVariants.{Host, Drive}
use Rattle.cbm_iec.specs.declared.event.Who.{Who}
use Rattle.cbm_iec.specs.declared.lines.Change.{Change}
use Rattle.cbm_iec.specs.declared.party.Party.{Party}
use Rattle.cbm_session.proofs.headline.Keeping.{HostFrom, events_append, all_in_time}
use Rattle.cbm_session.specs.Answers.{Allowed}
use Rattle.cbm_session.specs.Laws.{GoesOn}
use Rattle.cbm_session.specs.Pieces.{Piece}
use Rattle.cbm_session.specs.Playing.{Station, host_event, AllBytes, AllInTime, Plays, IsMachine}
use Rattle.cbm_session.specs.Sessions.{rest, Linked, IsBus}
use Rattle.cbm_session.specs.Steps.{Mark, Step, Plain, ForEach, For, moment_of, event_of, events_of}
use Rattle.cbm_host.proofs.Joined.{DriveComes, Comes}
use Rattle.cbm_host.proofs.Joining.{ss0, all_steps, order, no_sooner, is_next, moment_is, quiet_next, after_the_host, after_a_drive}
use Rattle.cbm_host.proofs.Waiting.{IsPassed, passed_due}
use Rattle.cbm_host.specs.Engines.{Engined, engine_due, engine_made, engine_seen, engine_passed, stage_taken}
use Rattle.cbm_host.specs.Performed.{taken_with, last_with}
use Rattle.cbm_host.specs.Performers.{IsDue, engine_after, byte_with, GoesOnFrom}
use Rattle.cbm_host.specs.Performing.{Performs, IsBefore, IsSilent, IsTakenAs, ends, makes, sees, passes}
use Rattle.cbm_host.specs.Stages.{stage_due, stage_passed}
use Rattle.cbm_host.specs.declared.due.Due.{Due}
use Rattle.cbm_host.specs.declared.due.Due.TheVariants.{Makes, Waits, Hears, Over}
use Rattle.cbm_host.specs.declared.stage.Stage.{Stage}
use Rattle.cbm_host.specs.declared.stage.Stage.TheVariants.{Ending}

-- the bytes that the host takes in these steps, and whether the last of them carried EOI
abbrev pub said_with : Who → Mark → Option (ℕ × Bool)
said_with Host (For d (Said byte last)) = Some (byte, last)
said_with who mark = None

abbrev pub taken_in : List Step → List ℕ
taken_in [] = []
taken_in (s ∷ ss) = taken_with (said_with s.event.who s.mark) ++ taken_in ss

abbrev pub last_in : Bool → List Step → Bool
last_in last [] = last
last_in last (s ∷ ss) = last_in (last_with (said_with s.event.who s.mark) last) ss

pub taken_append : (xs ys : List Step) → taken_in (xs ++ ys) ≡ taken_in xs ++ taken_in ys
taken_append [] ys = refl
taken_append (x ∷ xs) ys = ap (λ (l : List ℕ). taken_with (said_with x.event.who x.mark) ++ l) (taken_append xs ys) ∙ sym (append_assoc (taken_with (said_with x.event.who x.mark)) (taken_in xs) (taken_in ys))

pub last_append : (last : Bool) (xs ys : List Step) → last_in last (xs ++ ys) ≡ last_in (last_in last xs) ys
last_append last [] ys = refl
last_append last (x ∷ xs) ys = last_append (last_with (said_with x.event.who x.mark) last) xs ys

mark_taken : (mark : Mark) (taken : Option (ℕ × Bool)) → IsTakenAs mark taken → taken ≡ said_with Host mark
mark_taken Plain taken h = h
mark_taken (ForEach act) taken h = h
mark_taken (For d Pulled) taken h = h
mark_taken (For d (Attention byte)) taken h = h
mark_taken (For d Released) taken h = h
mark_taken (For d (Heard byte eoi)) taken h = h
mark_taken (For d (Said byte last)) taken h = h
mark_taken (For d Silent) taken h = h

one_more : (xs : List Step) (s : Step) (ss : List Step) → xs ++ s ∷ ss ≡ (xs ++ s ∷ []) ++ ss
one_more xs s ss = sym (append_assoc xs (s ∷ []) ss)

module _ (M : Type 0) (step : M → Act → M) (peek : M → Option (ℕ × Bool)) (bytes : (ss : List (Station M)) → AllBytes M step peek ss) (b : Party) (ms : ℕ → M) (is_bus : IsBus (b ∷ [])) (machine : IsMachine M step peek) (ks : List Piece) (linked : Linked (rest (b ∷ [])) ks) (allowed : Allowed M step peek (rest (b ∷ [])) ms ks)
    (afterwards : Engined) (until : ℕ) (ending : afterwards.stage ≡ Ending until) where
  abbrev start : List (Station M)
  start = ss0 M step peek bytes b ms is_bus machine ks linked allowed

  abbrev steps : List Step
  steps = all_steps M step peek bytes b ms is_bus machine ks linked allowed

  abbrev pub GoesTo : List Step → Engined → Engined → Type 0
  GoesTo done old e = GoesOnFrom M step peek zero start (events_of done) old e

  -- at the session's end the host waits for the end
  pub end_due : (e : Engined) → afterwards ≡ e → engine_due e ≡ Waits until
  end_due e same = ap (λ (x : Engined). stage_due x.stage) (sym same) ∙ ap stage_due ending

  pub end_passed : (e : Engined) → afterwards ≡ e → engine_due (engine_passed e) ≡ Over until
  end_passed e same = ap (λ (x : Engined). stage_due (stage_passed x.stage)) (sym same) ∙ ap (λ (x : Stage). stage_due (stage_passed x)) ending

  -- when a change of the host comes where it waited
  pub passed_at : (e : Engined) (u : ℕ) (c : Change) → engine_due e ≡ Waits u → engine_due (engine_passed e) ≡ Makes c → c.moment ≡ u
  passed_at e u c due then_ = subst (IsPassed u) then_ (passed_due e u due)

  -- THE HOST'S CHANGE is the session's next step
  pub record HostStep (more : List Step) (found : Engined) (c : Change) : Type 0 where
    pub next : Step
    pub left : List Step
    pub is : more ≡ next ∷ left
    pub event : next.event ≡ host_event c
    pub taken : IsTakenAs next.mark (stage_taken found.stage)
    pub performs : Performs (engine_made c.moment found) left afterwards

  host_step : (done more : List Step) {e : Engined} → Performs e more afterwards → steps ≡ done ++ more → (found : Engined) → GoesTo done e found → (c : Change) → engine_due found ≡ Makes c → (n : ℕ) (there : List (Station M)) → Plays M step peek zero start (events_of done) n there → AllInTime M step peek c.moment there
      → HostStep more found c
  host_step done more {e} (ends same) all found (inl g) c due n there p i = let k = sym (end_due e same) ∙ ap engine_due (sym g) ∙ due in absurd cc
  host_step done more {e} (ends same) all found (inr g) c due n there p i = let k = sym (end_passed e same) ∙ ap engine_due (sym g.2) ∙ due in absurd cc
  host_step done more {e} (makes {t} {line} {way} {mark} {ss} makes_due taken h) all found (inl g) c due n there p i =
      let k : Makes (change_at t line way) ≡ Makes c = sym makes_due ∙ ap engine_due (sym g) ∙ due in
      let same : change_at t line way ≡ c = cc in
      record {
        next = record { event = event_of Host t line way; mark = mark };
        left = ss;
        is = refl;
        event = ap (λ (x : Change). host_event x) same;
        taken = subst (λ (x : Engined). IsTakenAs mark (stage_taken x.stage)) (sym g) taken;
        performs = subst (λ (x : Engined). Performs (engine_made c.moment x) ss afterwards) (sym g) (subst (λ (x : Change). Performs (engine_made x.moment e) ss afterwards) same h);
      }
  host_step done more {e} (makes {t} {line} {way} makes_due taken h) all found (inr g) c due n there p i = let k : Makes (change_at t line way) ≡ Waits g.0 = sym makes_due ∙ g.1 in absurd cc
  host_step done more {e} (sees {o} {t} {line} {way} {mark} {ss} early h) all found g c due n there p i =
      let late = no_sooner M step peek bytes b ms is_bus machine ks linked allowed done (record { event = event_of (Drive o) t line way; mark = mark }) ss o n c.moment there all refl p i in
      let sooner = before_it g in
      absurd (omega (arith, late, sooner))
    where
      before_it : GoesTo done e found → t < c.moment
      before_it (inl g) = subst (IsBefore t) (ap engine_due (sym g) ∙ due) early
      before_it (inr g) =
          let at_ = passed_at e g.0 c g.1 (ap engine_due (sym g.2) ∙ due) in
          let l : t < g.0 = subst (IsBefore t) g.1 early in
          omega (arith, at_, l)
  host_step done more {e} (passes u wait silent h) all found (inl g) c due n there p i = let k : Waits u ≡ Makes c = sym wait ∙ ap engine_due (sym g) ∙ due in absurd cc
  host_step done more {e} (passes u wait silent h) all found (inr g) c due n there p i = host_step done more h all found (inl g.2) c due n there p i

  -- THE DRIVE'S CHANGE is the session's next step
  pub record DriveStep (more : List Step) (found : Engined) (x : Event) : Type 0 where
    pub next : Step
    pub left : List Step
    pub is : more ≡ next ∷ left
    pub event : next.event ≡ x
    pub performs : Performs (engine_seen x.change found) left afterwards

  -- after a wait to no avail the session's next step isn't before its end
  waits_later : (t u : ℕ) (e : Engined) (more : List Step) → engine_due e ≡ Waits u → IsSilent u more → Performs (engine_passed e) more afterwards → t < u → GoesOn more → HostFrom (suc t) more
  waits_later t u e [] due silent h l g = elim silent [ ]
  waits_later t u e more due silent (makes {t = t2} {line} {way} {mark} {ss} makes_due taken h) l g =
      let at_ = passed_at e u (change_at t2 line way) due makes_due in
      after_the_host t (record { event = event_of Host t2 line way; mark = mark }) ss refl (omega (arith, at_, l)) g
  waits_later t u e more due silent (sees {o} {t = t2} {line} {way} {mark} {ss} early h) l g = after_a_drive t o (record { event = event_of (Drive o) t2 line way; mark = mark }) ss refl (omega (arith, silent, l)) g
  waits_later t u e more due silent (passes u2 wait silent2 h) l g = let k : IsPassed u (Waits u2) = subst (IsPassed u) wait (passed_due e u due) in elim k [ ]

  -- an event of a drive comes before what the host does after a wait
  before_wait : (t : ℕ) (done : List Step) (e found : Engined) → GoesTo done e found → IsBefore t (engine_due found) → (u : ℕ) → engine_due e ≡ Waits u → t < u
  before_wait t done e found (inl g) early u due = subst (IsBefore t) (ap engine_due g ∙ due) early
  before_wait t done e found (inr g) early u due =
      let same : u ≡ g.0 = (let k : Waits u ≡ Waits g.0 = sym due ∙ g.1 in cc) in
      let l = by_due (engine_due found) (subst (IsPassed g.0) (ap engine_due (sym g.2)) (passed_due e g.0 g.1)) early in
      omega (arith, same, l)
    where
      by_due : (d : Due) → IsPassed g.0 d → IsBefore t d → t < g.0
      by_due (Makes c) p l = omega (arith, p, l)
      by_due (Waits x) p l = elim p [ ]
      by_due Hears p l = elim p [ ]
      by_due (Over at) p l = elim l [ ]

  host_late : (done more : List Step) {e : Engined} → Performs e more afterwards → steps ≡ done ++ more → (found : Engined) → GoesTo done e found → (t : ℕ) → IsBefore t (engine_due found) → (n : ℕ) (there : List (Station M)) → Plays M step peek zero start (events_of done) n there → AllInTime M step peek t there
      → HostFrom (suc t) more
  host_late done more {e} (ends same) all found g t early n there p i = tt
  host_late done more {e} (makes {t = t2} {line} {way} {mark} {ss} makes_due taken h) all found (inl g) t early n there p i =
      let l : t < t2 = subst (IsBefore t) (ap engine_due g ∙ makes_due) early in
      after_the_host t (record { event = event_of Host t2 line way; mark = mark }) ss refl l (order M step peek bytes b ms is_bus machine ks linked allowed done more all)
  host_late done more {e} (makes {t = t2} {line} {way} makes_due taken h) all found (inr g) t early n there p i = let k : Makes (change_at t2 line way) ≡ Waits g.0 = sym makes_due ∙ g.1 in absurd cc
  host_late done more {e} (sees {o} {t = t2} {line} {way} {mark} {ss} soon h) all found g t early n there p i =
      let late = no_sooner M step peek bytes b ms is_bus machine ks linked allowed done (record { event = event_of (Drive o) t2 line way; mark = mark }) ss o n t there all refl p i in
      after_a_drive t o (record { event = event_of (Drive o) t2 line way; mark = mark }) ss refl late (order M step peek bytes b ms is_bus machine ks linked allowed done more all)
  host_late done more {e} (passes u wait silent h) all found g t early n there p i =
      waits_later t u e more wait silent h (before_wait t done e found g early u wait) (order M step peek bytes b ms is_bus machine ks linked allowed done more all)

  drive_seen : (done more : List Step) {e : Engined} → Performs e more afterwards → steps ≡ done ++ more → (found : Engined) → GoesTo done e found → (d : ℕ) (x : Event) → x.who ≡ Drive d → IsBefore x.change.moment (engine_due found) → (s : Step) (left : List Step) → more ≡ s ∷ left → s.event ≡ x → DriveStep more found x
  drive_seen done more {e} (ends same) all found g d x who early s left is event = absurd cc
  drive_seen done more {e} (makes {t} {line} {way} {mark} {ss} makes_due taken h) all found g d x who early s left is event =
      let same : (record { event = event_of Host t line way; mark = mark }) ≡ s = cc in
      let w : Host ≡ Drive d = ap (λ (v : Step). v.event.who) same ∙ ap (λ (v : Event). v.who) event ∙ who in
      absurd cc
  drive_seen done more {e} (sees {o} {t} {line} {way} {mark} {ss} soon h) all found (inl g) d x who early s left is event =
      let same : (record { event = event_of (Drive o) t line way; mark = mark }) ≡ s = cc in
      let change : change_at t line way ≡ x.change = ap (λ (v : Step). v.event.change) same ∙ ap (λ (v : Event). v.change) event in
      record {
        next = record { event = event_of (Drive o) t line way; mark = mark };
        left = ss;
        is = refl;
        event = ap (λ (v : Step). v.event) same ∙ event;
        performs = subst (λ (v : Engined). Performs (engine_seen x.change v) ss afterwards) (sym g) (subst (λ (c : Change). Performs (engine_seen c e) ss afterwards) change h);
      }
  drive_seen done more {e} (sees {o} {t} {line} {way} {mark} {ss} soon h) all found (inr g) d x who early s left is event =
      let late = quiet_next M step peek bytes b ms is_bus machine ks linked allowed done (record { event = event_of (Drive o) t line way; mark = mark }) ss o g.0 all refl g.3 in
      let l : t < g.0 = subst (IsBefore t) g.1 soon in
      absurd (omega (arith, late, l))
  drive_seen done more {e} (passes u wait silent h) all found g d x who early s left is event =
      let l = before_wait x.change.moment done e found g early u wait in
      let late : IsSilent u (s ∷ left) = subst (IsSilent u) is silent in
      let k : Rattle.cbm_host.specs.Performing.IsSilentBy u (Drive d) (moment_of s) = subst (λ (w : Who). Rattle.cbm_host.specs.Performing.IsSilentBy u w (moment_of s)) (ap (λ (v : Event). v.who) event ∙ who) late in
      let at_ : moment_of s ≡ x.change.moment = ap (λ (v : Event). v.change.moment) event in
      absurd (omega (arith, l, k, at_))

  -- ONE EVENT MORE
  pub record Joined (es : List Event) (e : Engined) (said : List ℕ) (last : Bool) : Type 0 where
    pub done : List Step
    pub more : List Step
    pub all : steps ≡ done ++ more
    pub shown : events_of done ≡ es
    pub performs : Performs e more afterwards
    pub taken : said ≡ taken_in done
    pub over : last ≡ last_in false done

  pub step_on : (es : List Event) (e found : Engined) (taken : List ℕ) (last : Bool) (j : Joined es e taken last) → GoesOnFrom M step peek zero start es e found → (x : Event) (w : Who) → x.who ≡ w → Comes M step peek zero start es w x → IsDue w x.change found
      → Joined (es ++ x ∷ []) (engine_after w x.change found) (taken ++ taken_with (byte_with w found)) (last_with (byte_with w found) last)
  step_on es e found taken last j g x Host who k due =
      let g2 = subst (λ (l : List Event). GoesOnFrom M step peek zero start l e found) (sym j.shown) g in
      let s = host_step j.done j.more j.performs j.all found g2 x.change due k.from k.there (subst (λ (l : List Event). Plays M step peek zero start l k.from k.there) (sym j.shown) k.plays) k.time in
      let event : s.next.event ≡ x = s.event ∙ ap (λ (v : Who). (record { who = v; change = x.change })) (sym who) in
      let said : said_with s.next.event.who s.next.mark ≡ stage_taken found.stage = ap (λ (v : Event). said_with v.who s.next.mark) s.event ∙ sym (mark_taken s.next.mark (stage_taken found.stage) s.taken) in
      record {
        done = j.done ++ s.next ∷ [];
        more = s.left;
        all = j.all ∙ ap (λ (l : List Step). j.done ++ l) s.is ∙ one_more j.done s.next s.left;
        shown = events_append j.done (s.next ∷ []) ∙ ap (λ (v : Event). events_of j.done ++ v ∷ []) event ∙ ap (λ (l : List Event). l ++ x ∷ []) j.shown;
        performs = s.performs;
        taken = ap (λ (l : List ℕ). l ++ taken_with (stage_taken found.stage)) j.taken ∙ ap (λ (o : Option (ℕ × Bool)). taken_in j.done ++ taken_with o) (sym said) ∙ ap (λ (l : List ℕ). taken_in j.done ++ l) (sym (append-nil (taken_with (said_with s.next.event.who s.next.mark)))) ∙ sym (taken_append j.done (s.next ∷ []));
        over = ap (λ (o : Option (ℕ × Bool)). last_with o last) (sym said) ∙ ap (λ (v : Bool). last_with (said_with s.next.event.who s.next.mark) v) j.over ∙ sym (last_append false j.done (s.next ∷ []));
      }
  step_on es e found taken last j g x (Drive d) who k due =
      let g2 = subst (λ (l : List Event). GoesOnFrom M step peek zero start l e found) (sym j.shown) g in
      let k2 : DriveComes M step peek zero start (events_of j.done) x = subst (λ (l : List Event). DriveComes M step peek zero start l x) (sym j.shown) k in
      let at_ = moment_is M step peek bytes b ms is_bus machine ks linked allowed (events_of j.done) x k2 in
      let n = is_next M step peek bytes b ms is_bus machine ks linked allowed j.done j.more x j.all k2 (λ none.
      let same : k2.before_it ≡ events_of j.done = sym (k2.parts ∙ ap (λ (l : List Event). k2.before_it ++ l) none ∙ append-nil k2.before_it) in
      subst (λ (t : ℕ). HostFrom (suc t) j.more) at_ (host_late j.done j.more j.performs j.all found g2 x.change.moment due k2.from (k2.before ++ k2.o ∷ k2.afterwards)
      (subst (λ (l : List Event). Plays M step peek zero start l k2.from (k2.before ++ k2.o ∷ k2.afterwards)) same k2.plays) (subst (λ (t : ℕ). AllInTime M step peek t (k2.before ++ k2.o ∷ k2.afterwards)) (sym at_) (all_in_time M step peek k2.moment k2.before k2.o k2.afterwards k2.due)))) in
      let s = drive_seen j.done j.more j.performs j.all found g2 d x who due n.0 n.1 n.2 n.3 in
      let quiet : said_with s.next.event.who s.next.mark ≡ None = ap (λ (v : Who). said_with v s.next.mark) (ap (λ (v : Event). v.who) s.event ∙ who) in
      record {
        done = j.done ++ s.next ∷ [];
        more = s.left;
        all = j.all ∙ ap (λ (l : List Step). j.done ++ l) s.is ∙ one_more j.done s.next s.left;
        shown = events_append j.done (s.next ∷ []) ∙ ap (λ (v : Event). events_of j.done ++ v ∷ []) s.event ∙ ap (λ (l : List Event). l ++ x ∷ []) j.shown;
        performs = s.performs;
        taken = append-nil taken ∙ j.taken ∙ sym (append-nil (taken_in j.done)) ∙ ap (λ (o : Option (ℕ × Bool)). taken_in j.done ++ (taken_with o ++ [])) (sym quiet) ∙ sym (taken_append j.done (s.next ∷ []));
        over = j.over ∙ ap (λ (o : Option (ℕ × Bool)). last_with o (last_in false j.done)) (sym quiet) ∙ sym (last_append false j.done (s.next ∷ []));
      }
