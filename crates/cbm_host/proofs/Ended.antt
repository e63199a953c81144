-- After all events of an allowed session that doesn't end in attention the stations stand at its end.
use Rattle.std.proofs.Common.{◌≡◌, ℕ, ◌⊎◌, inl, inr, Bool, true, false, List, [], ◌∷◌, ◌++◌, append_assoc, map, Option, Some, None, ap, sym, ◌∙◌, subst, refl}
use Rattle.std.specs.Prelude.{nat_le}
use Rattle.cbm_iec.specs.declared.machine.Act.{Act}
use Rattle.cbm_iec.specs.declared.event.Event.{Event}
use Rattle.cbm_session.proofs.headline.Here.{Here, IsHosts, IsTalkers, Out, hosts_out, talkers_out, PullInside, pull_out}
use Rattle.cbm_session.proofs.headline.Onward.{here_after}
use Rattle.cbm_session.proofs.headline.PieceBus.{upto, Afterwards}
use Rattle.cbm_session.proofs.headline.Walk.{left_of, same_front, first_events, cut_talks, quiet_stays, end_quiet, pull_next, react_of, self_compat}
use Rattle.cbm_session.specs.Answers.{IsAnswer, PieceAnswers, Allowed, run_each}
use Rattle.cbm_session.specs.Pieces.{Whole, Piece, BusPlace, Point, PullFits, Fits, PieceFits, own_part, steps_of, piece_steps, whole_point, point_after, Full, Cut, PullPiece, Command, Byte, ToListener, ToNobody, ToTalker, Nothing, Talk, Open, Commanding, Listening, Leading}
use Rattle.cbm_session.specs.Frames.{Sent, sending}
use Rattle.cbm_session.specs.Seats.{Seat, talker_of}
use Rattle.cbm_session.specs.Playing.{Station, Plays, IsMachine}
use Rattle.cbm_session.specs.Sessions.{Linked, session_steps}
use Rattle.cbm_session.specs.Steps.{Step, moment_of, events_of, merge, merge_all}
use Rattle.cbm_host.specs.Requests.{end_point}

-- a join with a list that has a step has one
joined : (x : Step) (xs ys : List Step) → merge (x ∷ xs) ys ≡ [] → ⊥
joined x xs [] e = cc
joined x xs (y ∷ ys) e = go (nat_le (moment_of x) (moment_of y)) e
  where
    go : (v : Bool) → (elim v as (λ b. List Step) [ true ↦ x ∷ merge xs (y ∷ ys) | false ↦ y ∷ merge (x ∷ xs) ys ]) ≡ [] → ⊥
    go true e = cc
    go false e = cc

joined_any : (xs ys : List Step) → (xs ≡ [] → ⊥) → merge xs ys ≡ [] → ⊥
joined_any [] ys some e = some refl
joined_any (x ∷ xs) ys some e = joined x xs ys e

-- a frame in attention has steps
frame_there : (p : Point) (f : Sent) → steps_of p (Command f) ≡ [] → ⊥
frame_there p f e = by_seats p.seats e
  where
    by_seats : (ss : List Seat) → merge_all (sending f) (map (λ s. own_part p (Command f) s) ss) ≡ [] → ⊥
    by_seats [] e = cc
    by_seats (s ∷ ss) e = joined_any (sending f) (merge_all (own_part p (Command f) s) (map (λ s. own_part p (Command f) s) ss)) (λ k. cc) e

none_left : (xs ys : List Step) → xs ++ ys ≡ [] → xs ≡ []
none_left [] ys e = refl
none_left (x ∷ xs) ys e = absurd cc

none_after_it : (xs ys : List Step) → xs ++ ys ≡ [] → ys ≡ []
none_after_it [] ys e = e
none_after_it (x ∷ xs) ys e = absurd cc

-- after ATN's pull a session goes on, or ends in attention
pulled_on : (p : Point) → p.place ≡ Commanding false → (ks : List Piece) → Linked p ks → session_steps p ks ≡ [] → (end_point p ks).place ≡ Commanding false
pulled_on p at [] l e = at
pulled_on p at (Full (PullPiece t) ∷ ks) l e = absurd (subst (λ (v : BusPlace). PullFits p t v) at l.0)
pulled_on p at (Full (Command f) ∷ ks) l e = absurd (frame_there p f (none_left (steps_of p (Command f)) (session_steps (whole_point p (Command f)) ks) e))
pulled_on p at (Full (Byte eoi f) ∷ ks) l e = let c : Commanding false ≡ Listening = sym at ∙ l.0.0 in absurd cc
pulled_on p at (Full (ToListener t) ∷ ks) l e = let c : Commanding false ≡ Commanding true = sym at ∙ l.0.commanding in absurd cc
pulled_on p at (Full (ToNobody t clock) ∷ ks) l e = let c : Commanding false ≡ Commanding true = sym at ∙ l.0.0.commanding in absurd cc
pulled_on p at (Full (ToTalker t clock) ∷ ks) l e = let c : Commanding false ≡ Commanding true = sym at ∙ l.0.0.commanding in absurd cc
pulled_on p at (Full (Nothing t clock freed) ∷ ks) l e = let c : Commanding false ≡ Commanding true = sym at ∙ l.0.0.commanding in absurd cc
pulled_on p at (Full (Talk t f) ∷ ks) l e = let c : Commanding false ≡ Leading t = sym at ∙ l.0.0 in absurd cc
pulled_on p at (Cut (PullPiece t) c ∷ ks) l e = elim l.0.1 [ ]
pulled_on p at (Cut (Command f) c ∷ ks) l e = elim l.0.1 [ ]
pulled_on p at (Cut (Byte eoi f) c ∷ ks) l e = elim l.0.1 [ ]
pulled_on p at (Cut (ToListener t) c ∷ ks) l e = elim l.0.1 [ ]
pulled_on p at (Cut (ToNobody t clock) c ∷ ks) l e = elim l.0.1 [ ]
pulled_on p at (Cut (ToTalker t clock) c ∷ ks) l e = let k : Commanding false ≡ Commanding true = sym at ∙ l.0.0.0.commanding in absurd cc
pulled_on p at (Cut (Nothing t clock freed) c ∷ ks) l e = let k : Commanding false ≡ Commanding true = sym at ∙ l.0.0.0.commanding in absurd cc
pulled_on p at (Cut (Talk t f) c ∷ ks) l e = let k : Commanding false ≡ Leading t = sym at ∙ l.0.0.0 in absurd cc

module _ (M : Type 0) (step : M → Act → M) (peek : M → Option (ℕ × Bool)) (place : ℕ → ℕ) (machine : IsMachine M step peek) where
  -- from a piece on, whose events all came
  come_end : (p : Point) (ms : ℕ → M) (xs : List (Station M)) (here : Here M step peek place p ms xs) (k : Piece) (s done : List Step) (es : List Event) (n2 : ℕ) (ss2 : List (Station M)) (R : Type 0) → piece_steps p k ++ s ≡ done ++ [] → events_of done ≡ es → Out M step peek place p ms xs here k es n2 ss2
      → ((b : Afterwards M step peek place (point_after p k) xs (piece_steps p k) es n2 ss2) (d2 : List Step) → s ≡ d2 ++ [] → events_of d2 ≡ b.more → R) → R
  come_end p ms xs here k s done es n2 ss2 R e h (inl i) next =
      let whole : i.front ++ ((i.next ∷ i.others) ++ s) ≡ done ++ [] = sym (append_assoc i.front (i.next ∷ i.others) s) ∙ ap (λ (l : List Step). l ++ s) (sym i.parts) ∙ e in
      let same = (same_front i.front ((i.next ∷ i.others) ++ s) done [] whole (i.shown_so ∙ sym h)).1 in
      absurd cc
  come_end p ms xs here k s done es n2 ss2 R e h (inr b) next =
      let left = left_of (piece_steps p k) s done [] b.more e (h ∙ b.shown_so) in
      next b left.afterwards left.left left.shown

  pull_end : (p : Point) (ms : ℕ → M) (xs : List (Station M)) (here : Here M step peek place p ms xs) (at : ℕ) (ks : List Piece) (done : List Step) (es : List Event) (n2 : ℕ) (ss2 : List (Station M)) (R : Type 0) → Linked (whole_point p (PullPiece at)) ks → ((end_point (whole_point p (PullPiece at)) ks).place ≡ Open)
      → steps_of p (PullPiece at) ++ session_steps (whole_point p (PullPiece at)) ks ≡ done ++ [] → events_of done ≡ es
      → PullInside M step peek place p ms xs here at es ss2 ⊎ Afterwards M step peek place (whole_point p (PullPiece at)) xs (steps_of p (PullPiece at)) es n2 ss2
      → ((b : Afterwards M step peek place (whole_point p (PullPiece at)) xs (steps_of p (PullPiece at)) es n2 ss2) (d2 : List Step) → session_steps (whole_point p (PullPiece at)) ks ≡ d2 ++ [] → events_of d2 ≡ b.more → R) → R
  pull_end p ms xs here at ks done es n2 ss2 R l over e h (inl i) next =
      let w = i.so in
      let s = session_steps (whole_point p (PullPiece at)) ks in
      let whole : w.front ++ (w.back ++ s) ≡ done ++ [] = sym (append_assoc w.front w.back s) ∙ ap (λ (l : List Step). l ++ s) (sym w.parts) ∙ e in
      let none = (same_front w.front (w.back ++ s) done [] whole (w.shown_so ∙ sym h)).1 in
      let c : Open ≡ Commanding false = sym over ∙ pulled_on (whole_point p (PullPiece at)) refl ks l (none_after_it w.back s none) in
      absurd cc
  pull_end p ms xs here at ks done es n2 ss2 R l over e h (inr b) next = come_end p ms xs here (Full (PullPiece at)) (session_steps (whole_point p (PullPiece at)) ks) done es n2 ss2 R e h (inr b) next

  -- what comes after a piece, once all of it came
  abbrev GoesOn : Point → (ℕ → M) → Piece → List Step → ℕ → List (Station M) → Type 0 → Type 0
  GoesOn p ms k s n2 ss2 R =
      (now : ℕ) (there : List (Station M)) (more : List Event) → Here M step peek place (point_after p k) (run_each M step peek ms (piece_steps p k)) there → Plays M step peek now there more n2 ss2 → (d2 : List Step) → s ≡ d2 ++ [] → events_of d2 ≡ more → R

  host_end : (w : Whole) → IsHosts w → (p : Point) (ms : ℕ → M) (xs : List (Station M)) → Here M step peek place p ms xs → Fits p w → PieceAnswers M step peek (ms (talker_of p.seats).device) (Full w) → {n n2 : ℕ} {ss2 : List (Station M)} {es : List Event} → Plays M step peek n xs es n2 ss2 → (s done : List Step)
      → steps_of p w ++ s ≡ done ++ [] → events_of done ≡ es → (R : Type 0) → GoesOn p ms (Full w) s n2 ss2 R → R
  host_end w hosts p ms xs here fits answers {n2 = n2} {ss2 = ss2} {es = es} plays s done e h R next =
      let out = hosts_out M step peek place p ms xs here w hosts fits plays [] (events_of s) (first_events (steps_of p w) s done [] es e h) in
      come_end p ms xs here (Full w) s done es n2 ss2 R e h out (λ b d2 f g. next b.now b.there b.more (here_after M step peek place machine p ms xs here (Full w) fits answers b) b.plays d2 f g)

  talker_end : (w : Whole) (o : Option ℕ) → IsTalkers w → (p : Point) (ms : ℕ → M) (xs : List (Station M)) → Here M step peek place p ms xs → PieceFits p (upto o w) → IsAnswer M step peek (ms (talker_of p.seats).device) w → PieceAnswers M step peek (ms (talker_of p.seats).device) (upto o w)
      → {n n2 : ℕ} {ss2 : List (Station M)} {es : List Event} → Plays M step peek n xs es n2 ss2 → (s done : List Step) → piece_steps p (upto o w) ++ s ≡ done ++ [] → events_of done ≡ es → (R : Type 0) → GoesOn p ms (upto o w) s n2 ss2 R → R
  talker_end w o talks p ms xs here fits answer answers {n2 = n2} {ss2 = ss2} {es = es} plays s done e h R next =
      let k = upto o w in
      let out = talkers_out M step peek place p ms xs here w o talks fits answer plays [] (self_compat M step peek place machine (piece_steps p k) (events_of s) es [] (first_events (piece_steps p k) s done [] es e h)) in
      come_end p ms xs here k s done es n2 ss2 R e h out (λ b d2 f g. next b.now b.there b.more (here_after M step peek place machine p ms xs here k fits answers b) b.plays d2 f g)

  -- THE STATIONS STAND AT THE END
  pub ended : (ks : List Piece) (p : Point) (ms : ℕ → M) (xs : List (Station M)) → Here M step peek place p ms xs → Linked p ks → Allowed M step peek p ms ks → (end_point p ks).place ≡ Open → {n n2 : ℕ} {ss2 : List (Station M)} {es : List Event} → Plays M step peek n xs es n2 ss2 → (done : List Step)
      → session_steps p ks ≡ done ++ [] → events_of done ≡ es → (ms2 : ℕ → M) × Here M step peek place (end_point p ks) ms2 ss2
  ended [] p ms xs here l al over plays [] e h =
      let same = quiet_stays M step peek place plays (end_quiet M step peek place p l p.seats xs here.stand) (sym h) in
      (ms, subst (λ (v : List (Station M)). Here M step peek place p ms v) (sym same) here)
  ended [] p ms xs here l al over plays (d ∷ done) e h = absurd cc
  ended (Full (PullPiece at) ∷ ks) p ms xs here l al over {n2 = n2} {ss2 = ss2} {es = es} plays done e h =
      let q = whole_point p (PullPiece at) in
      let s = session_steps q ks in
      let next = pull_next M step peek place p at (react_of M step peek place p p.seats xs refl here.stand) ks l.1 in
      let out = pull_out M step peek place p ms xs here at l.0 plays [] (events_of s) (first_events (steps_of p (PullPiece at)) s done [] es e h) next in
      pull_end p ms xs here at ks done es n2 ss2 _ l.1 over e h out (λ b d2 f g. ended ks q (run_each M step peek ms (steps_of p (PullPiece at))) b.there (here_after M step peek place machine p ms xs here (Full (PullPiece at)) l.0 al.0 b) l.1 al.2 over b.plays d2 f g)
  ended (Full (Command f) ∷ ks) p ms xs here l al over plays done e h = host_end (Command f) tt p ms xs here l.0 al.0 plays (session_steps (whole_point p (Command f)) ks) done e h _ (λ now there more here2 plays2 d2 f2 g. ended ks (whole_point p (Command f)) _ there here2 l.1 al.2 over plays2 d2 f2 g)
  ended (Full (Byte eoi f) ∷ ks) p ms xs here l al over plays done e h = host_end (Byte eoi f) tt p ms xs here l.0 al.0 plays (session_steps (whole_point p (Byte eoi f)) ks) done e h _ (λ now there more here2 plays2 d2 f2 g. ended ks (whole_point p (Byte eoi f)) _ there here2 l.1 al.2 over plays2 d2 f2 g)
  ended (Full (ToListener at) ∷ ks) p ms xs here l al over plays done e h = host_end (ToListener at) tt p ms xs here l.0 al.0 plays (session_steps (whole_point p (ToListener at)) ks) done e h _ (λ now there more here2 plays2 d2 f2 g. ended ks (whole_point p (ToListener at)) _ there here2 l.1 al.2 over plays2 d2 f2 g)
  ended (Full (ToNobody at clock) ∷ ks) p ms xs here l al over plays done e h = host_end (ToNobody at clock) tt p ms xs here l.0 al.0 plays (session_steps (whole_point p (ToNobody at clock)) ks) done e h _ (λ now there more here2 plays2 d2 f2 g. ended ks (whole_point p (ToNobody at clock)) _ there here2 l.1 al.2 over plays2 d2 f2 g)
  ended (Full (ToTalker at clock) ∷ ks) p ms xs here l al over plays done e h = talker_end (ToTalker at clock) None tt p ms xs here l.0 al.0 al.0 plays (session_steps (whole_point p (ToTalker at clock)) ks) done e h _ (λ now there more here2 plays2 d2 f2 g. ended ks (whole_point p (ToTalker at clock)) _ there here2 l.1 al.2 over plays2 d2 f2 g)
  ended (Full (Nothing at clock freed) ∷ ks) p ms xs here l al over plays done e h = talker_end (Nothing at clock freed) None tt p ms xs here l.0 al.0 al.0 plays (session_steps (whole_point p (Nothing at clock freed)) ks) done e h _ (λ now there more here2 plays2 d2 f2 g. ended ks (whole_point p (Nothing at clock freed)) _ there here2 l.1 al.2 over plays2 d2 f2 g)
  ended (Full (Talk at f) ∷ ks) p ms xs here l al over plays done e h = talker_end (Talk at f) None tt p ms xs here l.0 al.0 al.0 plays (session_steps (whole_point p (Talk at f)) ks) done e h _ (λ now there more here2 plays2 d2 f2 g. ended ks (whole_point p (Talk at f)) _ there here2 l.1 al.2 over plays2 d2 f2 g)
  ended (Cut w c ∷ ks) p ms xs here l al over plays done e h = talker_end w (Some c) (cut_talks p c w l.0.1) p ms xs here l.0 al.0 al.0 plays (session_steps (point_after p (Cut w c)) ks) done e h _ (λ now there more here2 plays2 d2 f2 g. ended ks (point_after p (Cut w c)) _ there here2 l.1 al.2 over plays2 d2 f2 g)
