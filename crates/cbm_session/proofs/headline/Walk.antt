-- An allowed session that begins as a play did: where in it the play is, and what the machines ran.
use Rattle.cbm_session.proofs.alone.Frames.{done_due}
use Rattle.std.proofs.Common.{◌≡◌, ℕ, ◌+◌, ◌⊎◌, inl, inr, Bool, List, [], ◌∷◌, ◌++◌, map, append_assoc, Option, Some, None, ap, sym, ◌∙◌, subst, arith, refl}
use Rattle.cbm_iec.specs.Ports.{side_due}
use Rattle.cbm_iec.specs.declared.machine.Act.{Act}
use Rattle.cbm_iec.specs.declared.event.Event.{Event}
use Rattle.cbm_iec.specs.declared.party.Role.{Role}
use Rattle.cbm_iec.specs.declared.port.Side.{Side}
use Rattle.cbm_session.proofs.among.Points.{whole_react}
use Rattle.cbm_session.proofs.frames.Phases.{commands_go_in_parts}
use Rattle.cbm_session.proofs.headline.AlongBus.{devs, devs_tell, devs_react}
use Rattle.cbm_session.proofs.headline.BusActs.{AllRan, acts_append, run_append}
use Rattle.cbm_session.proofs.headline.Here.{IsTalkers, Here, Out, hosts_out, talkers_out, PullInside, pull_out}
use Rattle.cbm_session.proofs.headline.Keeping.{events_append}
use Rattle.cbm_session.proofs.headline.Meeting.{Compat}
use Rattle.cbm_session.proofs.headline.FrameBus.{twin_self, devs_are, listening_due}
use Rattle.cbm_session.proofs.headline.Onward.{here_after}
use Rattle.cbm_session.proofs.headline.PieceBus.{Going, Afterwards}
use Rattle.cbm_session.proofs.headline.Premises.{mute, Stood}
use Rattle.cbm_session.proofs.headline.PullBus.{NextHost}
use Rattle.cbm_session.proofs.headline.ReleaseBus.{AllQuiet, quiet_first}
use Rattle.cbm_session.proofs.headline.TalkSwap.{twin_compat}
use Rattle.cbm_session.specs.Answers.{Allowed, run_acts, run_each}
use Rattle.cbm_session.specs.Buses.{SideAmong}
use Rattle.cbm_session.specs.Laws.{SeatsReact}
use Rattle.cbm_session.specs.Pieces.{Whole, Piece, BusPlace, Point, steps_of, piece_steps, Fits, CutFits, whole_point, point_after, Full, Cut, PullPiece, Command, Byte, ToListener, ToNobody, ToTalker, Nothing, Talk, Open, Commanding, Listening, Leading, Cutting}
use Rattle.cbm_session.specs.Playing.{Station, Plays, stays, change, reaction}
use Rattle.cbm_session.specs.Seats.{Seat, device}
use Rattle.cbm_session.specs.Sessions.{MayEnd, Linked, session_steps}
use Rattle.cbm_session.specs.Steps.{Step, events_of, acts_for}

-- what is left of a list of steps after a piece
pub record LeftOf (xs s done more : List Step) (es : List Event) : Type 0 where
  pub afterwards : List Step
  pub front : done ≡ xs ++ afterwards
  pub left : s ≡ afterwards ++ more
  pub shown : events_of afterwards ≡ es

pub left_of : (xs s done more : List Step) (es : List Event) → xs ++ s ≡ done ++ more → events_of done ≡ events_of xs ++ es → LeftOf xs s done more es
left_of [] s done more es e h = record { afterwards = done; front = refl; left = e; shown = h }
left_of (x ∷ xs) s [] more es e h = absurd cc
left_of (x ∷ xs) s (d ∷ done) more es e h =
    let tail : xs ++ s ≡ done ++ more = cc in
    let shown : events_of done ≡ events_of xs ++ es = cc in
    let k = left_of xs s done more es tail shown in
    let same : d ≡ x = cc in
    record { afterwards = k.afterwards; front = ap (λ (v : Step). v ∷ done) same ∙ ap (λ (l : List Step). x ∷ l) k.front; left = k.left; shown = k.shown }

-- two fronts of a list with the same events
pub same_front : (front b done more : List Step) → front ++ b ≡ done ++ more → events_of front ≡ events_of done → (front ≡ done) × (b ≡ more)
same_front [] b [] more e h = (refl, e)
same_front [] b (d ∷ done) more e h = absurd cc
same_front (x ∷ front) b [] more e h = absurd cc
same_front (x ∷ front) b (d ∷ done) more e h =
    let tail : front ++ b ≡ done ++ more = cc in
    let shown : events_of front ≡ events_of done = cc in
    let k = same_front front b done more tail shown in
    let same : x ≡ d = cc in
    (ap (λ (v : Step). v ∷ front) same ∙ ap (λ (l : List Step). d ∷ l) k.0, k.1)

-- the events of a session that begins with a piece, as far as they were played and after that
pub first_events : (xs s done more : List Step) (es : List Event) → xs ++ s ≡ done ++ more → events_of done ≡ es → es ++ events_of more ≡ events_of xs ++ events_of s
first_events xs s done more es e h = ap (λ (l : List Event). l ++ events_of more) (sym h) ∙ sym (events_append done more) ∙ ap (λ (l : List Step). events_of l) (sym e) ∙ events_append xs s

-- a cut is of a piece of a talking drive
pub cut_talks : (p : Point) (c : ℕ) (w : Whole) → CutFits p w c → IsTalkers w
cut_talks p c (PullPiece at) f = f
cut_talks p c (Command g) f = f
cut_talks p c (Byte eoi g) f = f
cut_talks p c (ToListener at) f = f
cut_talks p c (ToNobody at clock) f = f
cut_talks p c (ToTalker at clock) f = tt
cut_talks p c (Nothing at clock freed) f = tt
cut_talks p c (Talk at g) f = tt

module _ (M : Type 0) (step : M → Act → M) (peek : M → Option (ℕ × Bool)) (place : ℕ → ℕ) where
  -- Where the play is: in a piece that all go on with, in a pull of ATN, or at the session's end.
  pub data Now (more : List Step) (ss : List (Station M)) : Type 0 where
    going : (y : Step) (ys tail : List Step) → more ≡ (y ∷ ys) ++ tail → Going M step peek place (y ∷ ys) ss → Now more ss
    pulling : (p : Point) (ms : ℕ → M) (xs : List (Station M)) (here : Here M step peek place p ms xs) (at : ℕ) (es : List Event) (tail : List Step) (i : PullInside M step peek place p ms xs here at es ss) → Fits p (PullPiece at) → more ≡ i.so.back ++ tail → NextHost (at + 60) (events_of tail) → devs M step peek mute place ss ≡ map (λ s. device s) p.seats → Now more ss
    over : more ≡ [] → AllQuiet M step peek mute place ss → Now more ss

  pub record At (done more : List Step) (ms : ℕ → M) (ss : List (Station M)) : Type 0 where
    pub ran : AllRan M step peek ms done ss
    pub now : Now more ss

  -- the drives stay who they are
  pub devs_play : {n n2 : ℕ} {ss ss2 : List (Station M)} {es : List Event} → Plays M step peek n ss es n2 ss2 → devs M step peek mute place ss2 ≡ devs M step peek mute place ss
  devs_play (stays b e k f) = ap (λ (v : List (Station M)). devs M step peek mute place v) f
  devs_play {ss = ss} (change c more b l i e p) = devs_play p ∙ devs_tell M step peek mute place c ss
  devs_play (reaction t before o afterwards more b u f e p) = devs_play p ∙ devs_react M step peek mute place t before o afterwards ∙ ap (λ (v : List (Station M)). devs M step peek mute place v) (sym u)

  -- where nothing is due nothing is played that doesn't show
  pub quiet_stays : {n n2 : ℕ} {xs ss2 : List (Station M)} {es : List Event} → Plays M step peek n xs es n2 ss2 → AllQuiet M step peek mute place xs → es ≡ [] → ss2 ≡ xs
  quiet_stays (stays b e k f) q z = f
  quiet_stays (change c more b l i e p) q z = absurd cc
  quiet_stays (reaction t before o afterwards more b u f e p) q z = absurd (quiet_first M step peek mute place t before o afterwards (subst (λ (v : List (Station M)). AllQuiet M step peek mute place v) u q) f.due)

  -- where a session may end nothing is due
  end_due : (q : BusPlace) → MayEnd q → (r : Role) (side : Side) → SideAmong q r side → side_due side ≡ None
  end_due Open m r side h = done_due side h
  end_due (Commanding some) m r side h = ap (λ (v : Side). side_due v) h
  end_due Listening m r side h = listening_due r side h
  end_due (Leading at) m r side h = elim m [ ]
  end_due (Cutting c) m r side h = elim m [ ]

  pub end_quiet : (p : Point) → MayEnd p.place → (ss : List Seat) (xs : List (Station M)) → Stood M step peek place p ss xs → AllQuiet M step peek mute place xs
  end_quiet p m [] [] h = tt
  end_quiet p m [] (x ∷ xs) h = elim h [ ]
  end_quiet p m (s ∷ ss) [] h = elim h [ ]
  end_quiet p m (s ∷ ss) (x ∷ xs) h = (end_due p.place m s.role x.port.side h.0.stands.side, end_quiet p m ss xs h.1)

  -- machines that ran after a piece ran from before it
  pub ran_from : (ms : ℕ → M) (ys zs : List Step) (ss : List (Station M)) → AllRan M step peek (run_each M step peek ms ys) zs ss → AllRan M step peek ms (ys ++ zs) ss
  ran_from ms ys zs [] h = tt
  ran_from ms ys zs (s ∷ ss) h =
      let d = s.port.party.device in
      (h.0 ∙ sym (run_append M step peek (ms d) (acts_for d ys) (acts_for d zs)) ∙ ap (λ l. run_acts M step peek (ms d) l) (sym (acts_append d ys zs)), ran_from ms ys zs ss h.1)

  -- the drives of a point react in time
  pub react_of : (p : Point) (ss : List Seat) (xs : List (Station M)) → p.seats ≡ ss → Stood M step peek place p ss xs → SeatsReact p.seats
  react_of p [] xs e h = subst SeatsReact (sym e) tt
  react_of p (s ∷ ss) [] e h = elim h [ ]
  react_of p (s ∷ ss) (x ∷ xs) e h = h.0.sound.react

  -- after a pull the host comes next, later than all answers
  pub pull_next : (p : Point) (at : ℕ) → SeatsReact p.seats → (ks : List Piece) → Linked (whole_point p (PullPiece at)) ks → NextHost (at + 60) (events_of (session_steps (whole_point p (PullPiece at)) ks))
  pull_next p at r [] l = tt
  pull_next p at r (Full (PullPiece t) ∷ ks) l = elim l.0 [ ]
  pull_next p at r (Full (Command f) ∷ ks) l =
      let p2 = whole_point p (PullPiece at) in
      let is = commands_go_in_parts p2 f (whole_react p (PullPiece at) r) l.0 in
      let late = l.0.1 in
      subst (λ (ss : List Step). NextHost (at + 60) (events_of (ss ++ session_steps (whole_point p2 (Command f)) ks))) (sym is) (refl, omega (arith, late))
  pull_next p at r (Full (Byte eoi f) ∷ ks) l = let c = l.0.0 in absurd cc
  pull_next p at r (Full (ToListener t) ∷ ks) l = let c = l.0.commanding in absurd cc
  pull_next p at r (Full (ToNobody t clock) ∷ ks) l = let c = l.0.0.commanding in absurd cc
  pull_next p at r (Full (ToTalker t clock) ∷ ks) l = let c = l.0.0.commanding in absurd cc
  pull_next p at r (Full (Nothing t clock freed) ∷ ks) l = let c = l.0.0.commanding in absurd cc
  pull_next p at r (Full (Talk t f) ∷ ks) l = let c = l.0.0 in absurd cc
  pull_next p at r (Cut (PullPiece t) c ∷ ks) l = elim l.0.1 [ ]
  pull_next p at r (Cut (Command f) c ∷ ks) l = elim l.0.1 [ ]
  pull_next p at r (Cut (Byte eoi f) c ∷ ks) l = elim l.0.1 [ ]
  pull_next p at r (Cut (ToListener t) c ∷ ks) l = elim l.0.1 [ ]
  pull_next p at r (Cut (ToNobody t clock) c ∷ ks) l = elim l.0.1 [ ]
  pull_next p at r (Cut (ToTalker t clock) c ∷ ks) l = let k = l.0.0.0.commanding in absurd cc
  pull_next p at r (Cut (Nothing t clock freed) c ∷ ks) l = let k = l.0.0.0.commanding in absurd cc
  pull_next p at r (Cut (Talk t f) c ∷ ks) l = let k = l.0.0.0 in absurd cc

  -- From a piece on: in it, or after it by the rest of the way.
  come_on : (p : Point) (ms : ℕ → M) (xs : List (Station M)) (here : Here M step peek place p ms xs) (k : Piece) (s done more : List Step) (es : List Event) (n2 : ℕ) (ss2 : List (Station M)) → piece_steps p k ++ s ≡ done ++ more → events_of done ≡ es → Out M step peek place p ms xs here k es n2 ss2
      → ((b : Afterwards M step peek place (point_after p k) xs (piece_steps p k) es n2 ss2) (d2 : List Step) → s ≡ d2 ++ more → events_of d2 ≡ b.more → At d2 more (run_each M step peek ms (piece_steps p k)) ss2) → At done more ms ss2
  come_on p ms xs here k s done more es n2 ss2 e h (inl i) next =
      let whole : i.front ++ ((i.next ∷ i.others) ++ s) ≡ done ++ more = sym (append_assoc i.front (i.next ∷ i.others) s) ∙ ap (λ (l : List Step). l ++ s) (sym i.parts) ∙ e in
      let same = same_front i.front ((i.next ∷ i.others) ++ s) done more whole (i.shown_so ∙ sym h) in
      record { ran = subst (λ (l : List Step). AllRan M step peek ms l ss2) same.0 (i.ran.runs ms [] here.ran); now = going i.next i.others s (sym same.1) i.going }
  come_on p ms xs here k s done more es n2 ss2 e h (inr b) next =
      let left = left_of (piece_steps p k) s done more b.more e (h ∙ b.shown_so) in
      let a = next b left.afterwards left.left left.shown in
      record { ran = subst (λ (l : List Step). AllRan M step peek ms l ss2) (sym left.front) (ran_from ms (piece_steps p k) left.afterwards ss2 a.ran); now = a.now }

  pull_on : (p : Point) (ms : ℕ → M) (xs : List (Station M)) (here : Here M step peek place p ms xs) (at : ℕ) (s done more : List Step) (es : List Event) (n2 : ℕ) (ss2 : List (Station M)) → devs M step peek mute place ss2 ≡ map (λ s. device s) p.seats → NextHost (at + 60) (events_of s) → Fits p (PullPiece at) → steps_of p (PullPiece at) ++ s ≡ done ++ more → events_of done ≡ es
      → PullInside M step peek place p ms xs here at es ss2 ⊎ Afterwards M step peek place (whole_point p (PullPiece at)) xs (steps_of p (PullPiece at)) es n2 ss2
      → ((b : Afterwards M step peek place (whole_point p (PullPiece at)) xs (steps_of p (PullPiece at)) es n2 ss2) (d2 : List Step) → s ≡ d2 ++ more → events_of d2 ≡ b.more → At d2 more (run_each M step peek ms (steps_of p (PullPiece at))) ss2) → At done more ms ss2
  pull_on p ms xs here at s done more es n2 ss2 ds host fits e h (inl i) next =
      let w = i.so in
      let whole : w.front ++ (w.back ++ s) ≡ done ++ more = sym (append_assoc w.front w.back s) ∙ ap (λ (l : List Step). l ++ s) (sym w.parts) ∙ e in
      let same = same_front w.front (w.back ++ s) done more whole (w.shown_so ∙ sym h) in
      record { ran = subst (λ (l : List Step). AllRan M step peek ms l ss2) same.0 (w.ran.runs ms [] here.ran); now = pulling p ms xs here at es s i fits (sym same.1) host ds }
  pull_on p ms xs here at s done more es n2 ss2 ds host fits e h (inr b) next = come_on p ms xs here (Full (PullPiece at)) s done more es n2 ss2 e h (inr b) next

  module _ (machine : Rattle.cbm_session.specs.Playing.IsMachine M step peek) where
    pub self_compat : (ys : List Step) (more es rest : List Event) → es ++ rest ≡ events_of ys ++ more → Compat ys (es ++ rest)
    self_compat ys more es rest e = subst (λ (l : List Event). Compat ys l) (sym e) (twin_compat 0 ys ys more (twin_self 0 ys))

    -- The way along an allowed session, from a point on.
    pub walk : (ks : List Piece) (p : Point) (ms : ℕ → M) (xs : List (Station M)) → Here M step peek place p ms xs → Linked p ks → Allowed M step peek p ms ks → {n n2 : ℕ} {ss2 : List (Station M)} {es : List Event} → Plays M step peek n xs es n2 ss2 → (done more : List Step)
        → session_steps p ks ≡ done ++ more → events_of done ≡ es → At done more ms ss2
    walk [] p ms xs here l al plays [] [] e h =
        let quiet = end_quiet p l p.seats xs here.stand in
        let same = quiet_stays plays quiet (sym h) in
        record { ran = subst (λ (v : List (Station M)). AllRan M step peek ms [] v) (sym same) here.ran; now = over refl (subst (λ (v : List (Station M)). AllQuiet M step peek mute place v) (sym same) quiet) }
    walk [] p ms xs here l al plays [] (m ∷ more) e h = absurd cc
    walk [] p ms xs here l al plays (d ∷ done) more e h = absurd cc
    walk (Full (PullPiece at) ∷ ks) p ms xs here l al {n2 = n2} {ss2 = ss2} {es = es} plays done more e h =
        let s = session_steps (whole_point p (PullPiece at)) ks in
        let next = pull_next p at (react_of p p.seats xs refl here.stand) ks l.1 in
        let out = pull_out M step peek place p ms xs here at l.0 plays (events_of more) (events_of s) (first_events (steps_of p (PullPiece at)) s done more es e h) next in
        pull_on p ms xs here at s done more es n2 ss2 (devs_play plays ∙ devs_are M step peek mute place p p.seats xs here.stand) next l.0 e h out (λ b d2 f g. walk ks (whole_point p (PullPiece at)) (run_each M step peek ms (steps_of p (PullPiece at))) b.there (here_after M step peek place machine p ms xs here (Full (PullPiece at)) l.0 al.0 b) l.1 al.2 b.plays d2 more f g)
    walk (Full (Command f) ∷ ks) p ms xs here l al {n2 = n2} {ss2 = ss2} {es = es} plays done more e h =
        let w = Command f in
        let s = session_steps (whole_point p (Command f)) ks in
        let out = hosts_out M step peek place p ms xs here w tt l.0 plays (events_of more) (events_of s) (first_events (steps_of p w) s done more es e h) in
        come_on p ms xs here (Full w) s done more es n2 ss2 e h out (λ b d2 g k. walk ks (whole_point p w) (run_each M step peek ms (steps_of p w)) b.there (here_after M step peek place machine p ms xs here (Full w) l.0 al.0 b) l.1 al.2 b.plays d2 more g k)
    walk (Full (Byte eoi f) ∷ ks) p ms xs here l al {n2 = n2} {ss2 = ss2} {es = es} plays done more e h =
        let w = Byte eoi f in
        let s = session_steps (whole_point p (Byte eoi f)) ks in
        let out = hosts_out M step peek place p ms xs here w tt l.0 plays (events_of more) (events_of s) (first_events (steps_of p w) s done more es e h) in
        come_on p ms xs here (Full w) s done more es n2 ss2 e h out (λ b d2 g k. walk ks (whole_point p w) (run_each M step peek ms (steps_of p w)) b.there (here_after M step peek place machine p ms xs here (Full w) l.0 al.0 b) l.1 al.2 b.plays d2 more g k)
    walk (Full (ToListener at) ∷ ks) p ms xs here l al {n2 = n2} {ss2 = ss2} {es = es} plays done more e h =
        let w = ToListener at in
        let s = session_steps (whole_point p (ToListener at)) ks in
        let out = hosts_out M step peek place p ms xs here w tt l.0 plays (events_of more) (events_of s) (first_events (steps_of p w) s done more es e h) in
        come_on p ms xs here (Full w) s done more es n2 ss2 e h out (λ b d2 g k. walk ks (whole_point p w) (run_each M step peek ms (steps_of p w)) b.there (here_after M step peek place machine p ms xs here (Full w) l.0 al.0 b) l.1 al.2 b.plays d2 more g k)
    walk (Full (ToNobody at clock) ∷ ks) p ms xs here l al {n2 = n2} {ss2 = ss2} {es = es} plays done more e h =
        let w = ToNobody at clock in
        let s = session_steps (whole_point p (ToNobody at clock)) ks in
        let out = hosts_out M step peek place p ms xs here w tt l.0 plays (events_of more) (events_of s) (first_events (steps_of p w) s done more es e h) in
        come_on p ms xs here (Full w) s done more es n2 ss2 e h out (λ b d2 g k. walk ks (whole_point p w) (run_each M step peek ms (steps_of p w)) b.there (here_after M step peek place machine p ms xs here (Full w) l.0 al.0 b) l.1 al.2 b.plays d2 more g k)
    walk (Full (ToTalker at clock) ∷ ks) p ms xs here l al {n2 = n2} {ss2 = ss2} {es = es} plays done more e h =
        let w = ToTalker at clock in
        let s = session_steps (whole_point p (ToTalker at clock)) ks in
        let out = talkers_out M step peek place p ms xs here w None tt l.0 al.0 plays (events_of more) (self_compat (steps_of p w) (events_of s) es (events_of more) (first_events (steps_of p w) s done more es e h)) in
        come_on p ms xs here (Full w) s done more es n2 ss2 e h out (λ b d2 g k. walk ks (whole_point p w) (run_each M step peek ms (steps_of p w)) b.there (here_after M step peek place machine p ms xs here (Full w) l.0 al.0 b) l.1 al.2 b.plays d2 more g k)
    walk (Full (Nothing at clock freed) ∷ ks) p ms xs here l al {n2 = n2} {ss2 = ss2} {es = es} plays done more e h =
        let w = Nothing at clock freed in
        let s = session_steps (whole_point p (Nothing at clock freed)) ks in
        let out = talkers_out M step peek place p ms xs here w None tt l.0 al.0 plays (events_of more) (self_compat (steps_of p w) (events_of s) es (events_of more) (first_events (steps_of p w) s done more es e h)) in
        come_on p ms xs here (Full w) s done more es n2 ss2 e h out (λ b d2 g k. walk ks (whole_point p w) (run_each M step peek ms (steps_of p w)) b.there (here_after M step peek place machine p ms xs here (Full w) l.0 al.0 b) l.1 al.2 b.plays d2 more g k)
    walk (Full (Talk at f) ∷ ks) p ms xs here l al {n2 = n2} {ss2 = ss2} {es = es} plays done more e h =
        let w = Talk at f in
        let s = session_steps (whole_point p (Talk at f)) ks in
        let out = talkers_out M step peek place p ms xs here w None tt l.0 al.0 plays (events_of more) (self_compat (steps_of p w) (events_of s) es (events_of more) (first_events (steps_of p w) s done more es e h)) in
        come_on p ms xs here (Full w) s done more es n2 ss2 e h out (λ b d2 g k. walk ks (whole_point p w) (run_each M step peek ms (steps_of p w)) b.there (here_after M step peek place machine p ms xs here (Full w) l.0 al.0 b) l.1 al.2 b.plays d2 more g k)
    walk (Cut w c ∷ ks) p ms xs here l al {n2 = n2} {ss2 = ss2} {es = es} plays done more e h =
        let q = Cut w c in
        let s = session_steps (point_after p (Cut w c)) ks in
        let out = talkers_out M step peek place p ms xs here w (Some c) (cut_talks p c w l.0.1) l.0 al.0 plays (events_of more) (self_compat (piece_steps p q) (events_of s) es (events_of more) (first_events (piece_steps p q) s done more es e h)) in
        come_on p ms xs here q s done more es n2 ss2 e h out (λ b d2 g k. walk ks (point_after p q) (run_each M step peek ms (piece_steps p q)) b.there (here_after M step peek place machine p ms xs here q l.0 al.0 b) l.1 al.2 b.plays d2 more g k)
