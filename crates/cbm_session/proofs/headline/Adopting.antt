-- Any session that begins as a play did can be made an allowed one, with the host's changes put no sooner.
use Rattle.std.proofs.Common.{◌≡◌, ℕ, ◌≤◌, ◌⊎◌, inl, inr, Bool, true, false, List, [], ◌∷◌, ◌++◌, append_assoc, append-nil, Option, Some, None, ap, sym, ◌∙◌, subst, arith, refl}
use Rattle.cbm_iec.specs.declared.machine.Act.{Act}
use Rattle.cbm_iec.specs.declared.event.Event.{Event}
use Rattle.cbm_iec.specs.declared.event.Who.TheVariants.{Host}
use Rattle.cbm_session.proofs.among.Fronts.{steps_order}
use Rattle.cbm_session.proofs.among.Pulls.{pull_steps}
use Rattle.cbm_session.proofs.headline.AdoptParts.{host_events, cut_due, first_late, all_sit, runs_before, rest_late, answer_runs, answered, ended, stops_after}
use Rattle.cbm_session.proofs.headline.Answering.{Answered}
use Rattle.cbm_session.proofs.headline.CutHost.{same_cut}
use Rattle.cbm_session.proofs.headline.CutTwin.{cut_safe, cut_same, none_from, no_pass, before_events, pull_late}
use Rattle.cbm_session.proofs.headline.Ending.{Continues, piece_then, cut_runs}
use Rattle.cbm_session.proofs.headline.EndingTalk.{ends_there}
use Rattle.cbm_session.proofs.headline.Here.{IsTalkers, Here, Out, hosts_out, talkers_out, PullInside, pull_out}
use Rattle.cbm_session.proofs.headline.Keeping.{HostFrom, host_front}
use Rattle.cbm_session.proofs.headline.LeftOver.{HostSafe, twin_safe}
use Rattle.cbm_session.proofs.headline.Meeting.{Compat}
use Rattle.cbm_session.proofs.headline.Onward.{here_after}
use Rattle.cbm_session.proofs.headline.PieceBus.{Inside, Afterwards, bytes_last}
use Rattle.cbm_session.proofs.headline.TalkSwap.{HostNext, twin_compat, twin_cut}
use Rattle.cbm_session.proofs.headline.Unasked.{AsksNothing, each_runs, runs_unasked, steps_unasked}
use Rattle.cbm_session.proofs.headline.Walk.{left_of, same_front, first_events, cut_talks, devs_play, react_of, pull_next}
use Rattle.cbm_session.proofs.joining.Merging.{InOrder, AllBefore, cut_front, front_before, cut_is}
use Rattle.cbm_session.specs.Answers.{IsAnswer, RunEach, run_each}
use Rattle.cbm_session.specs.Pieces.{Whole, Piece, Point, steps_of, before, Fits, PieceFits, some_from, whole_point, point_after, Full, Cut, PullPiece, Command, Byte, ToListener, ToNobody, ToTalker, Nothing, Talk}
use Rattle.cbm_session.specs.Playing.{Station, Plays, AllInTime, IsMachine}
use Rattle.cbm_session.specs.Seats.{talker_of}
use Rattle.cbm_session.specs.Sessions.{MayEnd, Linked, session_steps}
use Rattle.cbm_session.specs.Steps.{Step, moment_of, events_of}
use Rattle.cbm_session.specs.Timing.{is_host}

-- after a cut a session pulls ATN at once
pub record PullsAt (c : ℕ) (s : List Step) : Type 0 where
  pub first : Step
  pub afterwards : List Step
  pub is : s ≡ first ∷ afterwards
  pub who : first.event.who ≡ Host
  pub moment : moment_of first ≡ c

pub pulls_at : (p : Point) (w : Whole) (c : ℕ) (ks : List Piece) → Linked (point_after p (Cut w c)) ks → PullsAt c (session_steps (point_after p (Cut w c)) ks)
pulls_at p w c [] l = elim l [ ]
pulls_at p w c (Full (PullPiece at) ∷ ks) l =
    let p2 = point_after p (Cut w c) in
    let is = ap (λ (ss : List Step). ss ++ session_steps (whole_point p2 (PullPiece at)) ks) (pull_steps p2 at) in
    record { first = _; afterwards = _; is = is; who = refl; moment = l.0 }
pulls_at p w c (Full (Command f) ∷ ks) l = elim l.0.0 [ ]
pulls_at p w c (Full (Byte eoi f) ∷ ks) l = let k = l.0.0 in absurd cc
pulls_at p w c (Full (ToListener at) ∷ ks) l = let k = l.0.commanding in absurd cc
pulls_at p w c (Full (ToNobody at clock) ∷ ks) l = let k = l.0.0.commanding in absurd cc
pulls_at p w c (Full (ToTalker at clock) ∷ ks) l = let k = l.0.0.commanding in absurd cc
pulls_at p w c (Full (Nothing at clock freed) ∷ ks) l = let k = l.0.0.commanding in absurd cc
pulls_at p w c (Full (Talk at f) ∷ ks) l = let k = l.0.0 in absurd cc
pulls_at p w c (Cut (PullPiece at) d ∷ ks) l = elim l.0.1 [ ]
pulls_at p w c (Cut (Command f) d ∷ ks) l = elim l.0.1 [ ]
pulls_at p w c (Cut (Byte eoi f) d ∷ ks) l = elim l.0.1 [ ]
pulls_at p w c (Cut (ToListener at) d ∷ ks) l = elim l.0.1 [ ]
pulls_at p w c (Cut (ToNobody at clock) d ∷ ks) l = elim l.0.1 [ ]
pulls_at p w c (Cut (ToTalker at clock) d ∷ ks) l = let k = l.0.0.0.commanding in absurd cc
pulls_at p w c (Cut (Nothing at clock freed) d ∷ ks) l = let k = l.0.0.0.commanding in absurd cc
pulls_at p w c (Cut (Talk at f) d ∷ ks) l = let k = l.0.0.0 in absurd cc

next_pull : (c : ℕ) (s : List Step) → PullsAt c s → HostNext c (events_of s)
next_pull c s k = let at = k.moment in subst (λ (l : List Step). HostNext c (events_of l)) (sym k.is) (k.who, omega (arith, at))

front_of : (c : ℕ) (xs ys : List Step) → AllBefore c (xs ++ ys) → AllBefore c xs
front_of c [] ys a = tt
front_of c (x ∷ xs) ys a = (a.0, front_of c xs ys a.1)

module _ (M : Type 0) (step : M → Act → M) (peek : M → Option (ℕ × Bool)) (place : ℕ → ℕ) (machine : IsMachine M step peek) where
  module _ (p : Point) (ms : ℕ → M) (xs : List (Station M)) (here : Here M step peek place p ms xs) (t : ℕ) (s done more : List Step) (es : List Event) (n2 : ℕ) (ss2 : List (Station M)) (shown_so : events_of done ≡ es) (late : HostFrom t more) where
    abbrev Gone : Whole → Type 0
    Gone w = Afterwards M step peek place (whole_point p w) xs (steps_of p w) es n2 ss2

    -- what follows a piece
    abbrev Follows : Whole → Type 0
    Follows w = (b : Gone w) (d2 : List Step) → s ≡ d2 ++ more → events_of d2 ≡ b.more → Continues M step peek (whole_point p w) (run_each M step peek ms (steps_of p w)) b.more t

    stopped : (w : Whole) → Fits p w → IsAnswer M step peek (ms (talker_of p.seats).device) w → AsksNothing w → MayEnd (whole_point p w).place → steps_of p w ++ s ≡ done ++ more → (front beyond : List Step) → steps_of p w ≡ front ++ beyond → events_of front ≡ es → Continues M step peek p ms es t
    stopped w fits answer a m e front beyond parts shown =
        let whole : front ++ (beyond ++ s) ≡ done ++ more = sym (append_assoc front beyond s) ∙ ap (λ (l : List Step). l ++ s) (sym parts) ∙ e in
        let same = same_front front (beyond ++ s) done more whole (shown ∙ sym shown_so) in
        let runs = each_runs M step peek p.seats ms (steps_of p w) (λ d. runs_unasked M step peek d (ms d) (steps_of p w) (steps_unasked p w a)) in
        stops_after M step peek place machine p ms xs here w fits answer runs m t front beyond parts (host_front t beyond s (subst (HostFrom t) (sym same.1) late)) es shown

    passed : (w : Whole) → Fits p w → IsAnswer M step peek (ms (talker_of p.seats).device) w → RunEach M step peek p.seats ms (steps_of p w) → steps_of p w ++ s ≡ done ++ more → Gone w → Follows w → Continues M step peek p ms es t
    passed w fits answer runs e b next =
        let left = left_of (steps_of p w) s done more b.more e (shown_so ∙ b.shown_so) in
        subst (λ (l : List Event). Continues M step peek p ms l t) (sym b.shown_so) (piece_then M step peek p ms (Full w) t b.more fits answer runs (next b left.afterwards left.left left.shown))

    -- a piece of the host
    host_on : (w : Whole) → Fits p w → IsAnswer M step peek (ms (talker_of p.seats).device) w → AsksNothing w → MayEnd (whole_point p w).place → steps_of p w ++ s ≡ done ++ more → Out M step peek place p ms xs here (Full w) es n2 ss2 → Follows w → Continues M step peek p ms es t
    host_on w fits answer a m e (inl i) next = stopped w fits answer a m e i.front (i.next ∷ i.others) i.parts i.shown_so
    host_on w fits answer a m e (inr b) next = passed w fits answer (each_runs M step peek p.seats ms (steps_of p w) (λ d. runs_unasked M step peek d (ms d) (steps_of p w) (steps_unasked p w a))) e b next

    pull_on : (at : ℕ) → Fits p (PullPiece at) → steps_of p (PullPiece at) ++ s ≡ done ++ more → PullInside M step peek place p ms xs here at es ss2 ⊎ Gone (PullPiece at) → Follows (PullPiece at) → Continues M step peek p ms es t
    pull_on at fits e (inl i) next = stopped (PullPiece at) fits tt tt tt e i.so.front i.so.back i.so.parts i.so.shown_so
    pull_on at fits e (inr b) next = host_on (PullPiece at) fits tt tt tt e (inr b) next

    module _ {n : ℕ} (plays : Plays M step peek n xs es n2 ss2) (time : AllInTime M step peek t ss2) where
      -- the machine's own piece under way
      under_way : (w : Whole) → IsTalkers w → Fits p w → IsAnswer M step peek (ms (talker_of p.seats).device) w → HostSafe t (steps_of p w) (es ++ events_of more) → Inside M step peek place xs (steps_of p w) es ss2 → Continues M step peek p ms es t
      under_way w a fits answer safe i =
          let safe2 = subst (λ (l : List Step). HostSafe t l (events_of i.front ++ events_of more)) i.parts (subst (λ (l : List Event). HostSafe t (steps_of p w) (l ++ events_of more)) (sym i.shown_so) safe) in
          let left = rest_late M step peek place t i.front i.next i.others ss2 (events_of more) i.going safe2 (host_events t more late) time in
          subst (λ (l : List Event). Continues M step peek p ms l t) i.shown_so
          (ended M step peek place machine p ms xs here ss2 w a fits answer t i.front (i.next ∷ i.others) i.parts left (devs_play M step peek place plays) (i.ran.runs ms [] here.ran) (bytes_last M step peek place plays))

      -- a piece of a talking drive
      talk_on : (w : Whole) → IsTalkers w → Fits p w → steps_of p w ++ s ≡ done ++ more → (IsAnswer M step peek (ms (talker_of p.seats).device) w → Follows w) → Continues M step peek p ms es t
      talk_on w talks fits e next = by_out (talkers_out M step peek place p ms xs here a.piece None a.talks a.fits a.answer plays (events_of more) (subst (λ (l : List Event). Compat (steps_of p a.piece) l) (sym all) (twin_compat t (steps_of p a.piece) (steps_of p w) (events_of s) a.twin)))
        where
          a : Answered M step peek t p (ms (talker_of p.seats).device) w
          a = answered M step peek place machine p ms xs here plays t w talks fits

          all : es ++ events_of more ≡ events_of (steps_of p w) ++ events_of s
          all = first_events (steps_of p w) s done more es e shown_so

          by_out : Out M step peek place p ms xs here (Full a.piece) es n2 ss2 → Continues M step peek p ms es t
          by_out (inl i) = under_way a.piece a.talks a.fits a.answer (subst (λ (l : List Event). HostSafe t (steps_of p a.piece) l) (sym all) (twin_safe t (steps_of p a.piece) (steps_of p w) (events_of s) a.twin)) i
          by_out (inr b) =
              let same : a.piece ≡ w = a.same (b.more ++ events_of more) (events_of s) (sym (append_assoc (events_of (steps_of p a.piece)) b.more (events_of more)) ∙ ap (λ (l : List Event). l ++ events_of more) (sym b.shown_so) ∙ all) in
              let k : IsAnswer M step peek (ms (talker_of p.seats).device) w × Gone w = subst (λ (v : Whole). IsAnswer M step peek (ms (talker_of p.seats).device) v × Gone v) same (a.answer, b) in
              passed w fits k.0 (answer_runs M step peek place machine p ms xs here w talks fits k.0) e k.1 (next k.0)

  -- A cut of a piece of a talking drive, and the session's pull after it.
  module _ (p : Point) (ms : ℕ → M) (xs : List (Station M)) (here : Here M step peek place p ms xs) (t : ℕ) (w : Whole) (c : ℕ) (ks : List Piece) (done more : List Step) (es : List Event) (n2 : ℕ) (ss2 : List (Station M)) (shown_so : events_of done ≡ es) (late : HostFrom t more) where
    abbrev after_cut : Whole → List Step
    after_cut v = session_steps (point_after p (Cut v c)) ks

    abbrev CutGone : Whole → Type 0
    CutGone v = Afterwards M step peek place (point_after p (Cut v c)) xs (before c (steps_of p v)) es n2 ss2

    abbrev FollowsCut : Type 0
    FollowsCut = (v : Whole) → point_after p (Cut v c) ≡ point_after p (Cut w c) → PieceFits p (Cut v c) → IsAnswer M step peek (ms (talker_of p.seats).device) v → (b : CutGone v) (d2 : List Step) → after_cut v ≡ d2 ++ more → events_of d2 ≡ b.more
        → Continues M step peek (point_after p (Cut v c)) (run_each M step peek ms (before c (steps_of p v))) b.more t

    module _ {n : ℕ} (plays : Plays M step peek n xs es n2 ss2) (time : AllInTime M step peek t ss2) (fits : PieceFits p (Cut w c)) (linked : Linked (point_after p (Cut w c)) ks) (e : before c (steps_of p w) ++ after_cut w ≡ done ++ more) (next : FollowsCut) where
      own : Answered M step peek t p (ms (talker_of p.seats).device) w
      own = answered M step peek place machine p ms xs here plays t w (cut_talks p c w fits.1) fits.0

      abbrev mine : List Step
      mine = steps_of p own.piece

      mine_order : InOrder mine
      mine_order = steps_order p own.piece own.fits

      its_order : InOrder (steps_of p w)
      its_order = steps_order p w fits.0

      pull : PullsAt c (after_cut w)
      pull = pulls_at p w c ks linked

      host_next : HostNext c (events_of (after_cut w))
      host_next = next_pull c (after_cut w) pull

      all : es ++ events_of more ≡ events_of (before c (steps_of p w)) ++ events_of (after_cut w)
      all = first_events (before c (steps_of p w)) (after_cut w) done more es e shown_so

      meets : Compat (before c mine) (es ++ events_of more)
      meets = subst (λ (l : List Event). Compat (before c mine) l) (sym all) (twin_cut t c mine (steps_of p w) (events_of (after_cut w)) own.twin mine_order its_order host_next)

      safe : HostSafe t (before c mine) (es ++ events_of more)
      safe = subst (λ (l : List Event). HostSafe t (before c mine) l) (sym all) (cut_safe t c mine (steps_of p w) (events_of (after_cut w)) own.twin mine_order its_order host_next)

      -- the pull is still to come where only what is before it was played
      pull_to_come : (front : List Step) → events_of front ≡ es → AllBefore c front → t ≤ c
      pull_to_come front k a =
          pull_late c t (before c (steps_of p w)) pull.first pull.afterwards done more (ap (λ (l : List Step). before c (steps_of p w) ++ l) (sym pull.is) ∙ e) (before_events c done front (shown_so ∙ sym k) a) late (ap is_host pull.who) pull.moment

      cut_run : RunEach M step peek p.seats ms (before c mine)
      cut_run =
          let k = cut_front c mine mine_order in
          runs_before M step peek place p.seats ms (before c mine) k.0 (subst (λ (l : List Step). RunEach M step peek p.seats ms l) k.1 (answer_runs M step peek place machine p ms xs here own.piece own.talks own.fits own.answer))

      stops_cut : (some : some_from c mine ≡ true) (front left : List Step) → before c mine ≡ front ++ left → events_of front ≡ es → HostFrom t left → Continues M step peek p ms es t
      stops_cut some front left parts k h =
          let early = front_of c front left (subst (AllBefore c) parts (front_before c mine)) in
          subst (λ (l : List Event). Continues M step peek p ms l t) k (cut_runs M step peek p ms own.piece c t front left (own.fits, own.cuts c fits.1, some) own.answer cut_run parts h (pull_to_come front k early))

      goes_on_cut : (some : some_from c mine ≡ true) (b : CutGone own.piece) (y : Event) (ys : List Event) → b.more ≡ y ∷ ys → Continues M step peek p ms es t
      goes_on_cut some b y ys m =
          let p2 = point_after p (Cut own.piece c) in
          let first = first_late M step peek place b.plays c (cut_due M step peek place p2 c refl p2.seats b.there b.stand) b.show (λ z. let k : y ∷ ys ≡ [] = sym m ∙ z in absurd cc) (events_of more) in
          let lists = sym (append_assoc (events_of (before c mine)) b.more (events_of more)) ∙ ap (λ (l : List Event). l ++ events_of more) (sym b.shown_so) ∙ all in
          let same = cut_same t c mine (steps_of p w) (b.more ++ events_of more) (events_of (after_cut w)) own.twin mine_order its_order host_next first lists in
          let point = same_cut p w own.piece c fits.1 (own.cuts c fits.1) (all_sit M step peek place p p.seats xs here.stand) same in
          let fits2 : PieceFits p (Cut own.piece c) = (own.fits, own.cuts c fits.1, some) in
          let left = left_of (before c (steps_of p w)) (after_cut w) done more b.more e (shown_so ∙ b.shown_so ∙ ap (λ (l : List Event). l ++ b.more) same) in
          let rest = ap (λ (q : Point). session_steps q ks) point ∙ left.left in
          subst (λ (l : List Event). Continues M step peek p ms l t) (sym b.shown_so) (piece_then M step peek p ms (Cut own.piece c) t b.more fits2 own.answer cut_run (next own.piece point fits2 own.answer b left.afterwards rest left.shown))

      by_more : (some : some_from c mine ≡ true) (b : CutGone own.piece) (l : List Event) → b.more ≡ l → Continues M step peek p ms es t
      by_more some b [] m = stops_cut some (before c mine) [] (sym (append-nil (before c mine))) (sym (b.shown_so ∙ ap (λ (l : List Event). events_of (before c mine) ++ l) m ∙ append-nil (events_of (before c mine)))) tt
      by_more some b (y ∷ ys) m = goes_on_cut some b y ys m

      -- where the cut leaves something of the machine's piece out
      cut_within : (some : some_from c mine ≡ true) → Out M step peek place p ms xs here (Cut own.piece c) es n2 ss2 → Continues M step peek p ms es t
      cut_within some (inl i) =
          let safe2 = subst (λ (l : List Step). HostSafe t l (events_of i.front ++ events_of more)) i.parts (subst (λ (l : List Event). HostSafe t (before c mine) (l ++ events_of more)) (sym i.shown_so) safe) in
          let left = rest_late M step peek place t i.front i.next i.others ss2 (events_of more) i.going safe2 (host_events t more late) time in
          stops_cut some i.front (i.next ∷ i.others) i.parts i.shown_so left
      cut_within some (inr b) = by_more some b b.more refl

      -- where all of it is before the cut
      whole_within : before c mine ≡ mine → AllBefore c mine → Out M step peek place p ms xs here (Full own.piece) es n2 ss2 → Continues M step peek p ms es t
      whole_within is a (inl i) = under_way p ms xs here t (after_cut w) done more es n2 ss2 shown_so late plays time own.piece own.talks own.fits own.answer (subst (λ (l : List Step). HostSafe t l (es ++ events_of more)) is safe) i
      whole_within is a (inr b) =
          let lists = sym (append_assoc (events_of mine) b.more (events_of more)) ∙ ap (λ (l : List Event). l ++ events_of more) (sym b.shown_so) ∙ all in
          absurd (no_pass t c mine (steps_of p w) (b.more ++ events_of more) (events_of (after_cut w)) own.twin its_order a fits.2 host_next lists)

      cut_on : Continues M step peek p ms es t
      cut_on = by_some (some_from c mine) refl
        where
          by_some : (v : Bool) → some_from c mine ≡ v → Continues M step peek p ms es t
          by_some true k = cut_within k (talkers_out M step peek place p ms xs here own.piece (Some c) own.talks (own.fits, own.cuts c fits.1, k) own.answer plays (events_of more) meets)
          by_some false k =
              let a = none_from c mine k in
              let is : before c mine ≡ mine = ap (λ (l : List Step). before c l) (sym (append-nil mine)) ∙ cut_is c mine [] a tt in
              whole_within is a (talkers_out M step peek place p ms xs here own.piece None own.talks own.fits own.answer plays (events_of more) (subst (λ (l : List Step). Compat l (es ++ events_of more)) is meets))

  -- From a point on: an allowed session that begins as the play did, with no change of the host before t after it.
  pub adopt : (ks : List Piece) (p : Point) (ms : ℕ → M) (xs : List (Station M)) → Here M step peek place p ms xs → Linked p ks → {n n2 : ℕ} {ss2 : List (Station M)} {es : List Event} → Plays M step peek n xs es n2 ss2 → (done more : List Step) → session_steps p ks ≡ done ++ more → events_of done ≡ es
      → (t : ℕ) → AllInTime M step peek t ss2 → HostFrom t more → Continues M step peek p ms es t
  adopt [] p ms xs here l plays [] more e h t time late = subst (λ (v : List Event). Continues M step peek p ms v t) h (ends_there M step peek place machine p ms t l)
  adopt [] p ms xs here l plays (d ∷ done) more e h t time late = absurd cc
  adopt (Full (PullPiece at) ∷ ks) p ms xs here l {n2 = n2} {ss2 = ss2} {es = es} plays done more e h t time late =
      let w = PullPiece at in
      let s = session_steps (whole_point p (PullPiece at)) ks in
      let host = pull_next M step peek place p at (react_of M step peek place p p.seats xs refl here.stand) ks l.1 in
      let out = pull_out M step peek place p ms xs here at l.0 plays (events_of more) (events_of s) (first_events (steps_of p w) s done more es e h) host in
      pull_on p ms xs here t s done more es n2 ss2 h late at l.0 e out (λ b d2 g k. adopt ks (whole_point p w) (run_each M step peek ms (steps_of p w)) b.there (here_after M step peek place machine p ms xs here (Full w) l.0 tt b) l.1 b.plays d2 more g k t time late)
  adopt (Full (Command f) ∷ ks) p ms xs here l {n2 = n2} {ss2 = ss2} {es = es} plays done more e h t time late =
      let w = Command f in
      let s = session_steps (whole_point p (Command f)) ks in
      let out = hosts_out M step peek place p ms xs here w tt l.0 plays (events_of more) (events_of s) (first_events (steps_of p w) s done more es e h) in
      host_on p ms xs here t s done more es n2 ss2 h late w l.0 tt tt tt e out (λ b d2 g k. adopt ks (whole_point p w) (run_each M step peek ms (steps_of p w)) b.there (here_after M step peek place machine p ms xs here (Full w) l.0 tt b) l.1 b.plays d2 more g k t time late)
  adopt (Full (Byte eoi f) ∷ ks) p ms xs here l {n2 = n2} {ss2 = ss2} {es = es} plays done more e h t time late =
      let w = Byte eoi f in
      let s = session_steps (whole_point p (Byte eoi f)) ks in
      let out = hosts_out M step peek place p ms xs here w tt l.0 plays (events_of more) (events_of s) (first_events (steps_of p w) s done more es e h) in
      host_on p ms xs here t s done more es n2 ss2 h late w l.0 tt tt tt e out (λ b d2 g k. adopt ks (whole_point p w) (run_each M step peek ms (steps_of p w)) b.there (here_after M step peek place machine p ms xs here (Full w) l.0 tt b) l.1 b.plays d2 more g k t time late)
  adopt (Full (ToListener at) ∷ ks) p ms xs here l {n2 = n2} {ss2 = ss2} {es = es} plays done more e h t time late =
      let w = ToListener at in
      let s = session_steps (whole_point p (ToListener at)) ks in
      let out = hosts_out M step peek place p ms xs here w tt l.0 plays (events_of more) (events_of s) (first_events (steps_of p w) s done more es e h) in
      host_on p ms xs here t s done more es n2 ss2 h late w l.0 tt tt tt e out (λ b d2 g k. adopt ks (whole_point p w) (run_each M step peek ms (steps_of p w)) b.there (here_after M step peek place machine p ms xs here (Full w) l.0 tt b) l.1 b.plays d2 more g k t time late)
  adopt (Full (ToNobody at clock) ∷ ks) p ms xs here l {n2 = n2} {ss2 = ss2} {es = es} plays done more e h t time late =
      let w = ToNobody at clock in
      let s = session_steps (whole_point p (ToNobody at clock)) ks in
      let out = hosts_out M step peek place p ms xs here w tt l.0 plays (events_of more) (events_of s) (first_events (steps_of p w) s done more es e h) in
      host_on p ms xs here t s done more es n2 ss2 h late w l.0 tt tt tt e out (λ b d2 g k. adopt ks (whole_point p w) (run_each M step peek ms (steps_of p w)) b.there (here_after M step peek place machine p ms xs here (Full w) l.0 tt b) l.1 b.plays d2 more g k t time late)
  adopt (Full (ToTalker at clock) ∷ ks) p ms xs here l {n2 = n2} {ss2 = ss2} {es = es} plays done more e h t time late =
      let w = ToTalker at clock in
      talk_on p ms xs here t (session_steps (whole_point p (ToTalker at clock)) ks) done more es n2 ss2 h late plays time w tt l.0 e
      (λ answer b d2 g k. adopt ks (whole_point p w) (run_each M step peek ms (steps_of p w)) b.there (here_after M step peek place machine p ms xs here (Full w) l.0 answer b) l.1 b.plays d2 more g k t time late)
  adopt (Full (Nothing at clock freed) ∷ ks) p ms xs here l {n2 = n2} {ss2 = ss2} {es = es} plays done more e h t time late =
      let w = Nothing at clock freed in
      talk_on p ms xs here t (session_steps (whole_point p (Nothing at clock freed)) ks) done more es n2 ss2 h late plays time w tt l.0 e
      (λ answer b d2 g k. adopt ks (whole_point p w) (run_each M step peek ms (steps_of p w)) b.there (here_after M step peek place machine p ms xs here (Full w) l.0 answer b) l.1 b.plays d2 more g k t time late)
  adopt (Full (Talk at f) ∷ ks) p ms xs here l {n2 = n2} {ss2 = ss2} {es = es} plays done more e h t time late =
      let w = Talk at f in
      talk_on p ms xs here t (session_steps (whole_point p (Talk at f)) ks) done more es n2 ss2 h late plays time w tt l.0 e
      (λ answer b d2 g k. adopt ks (whole_point p w) (run_each M step peek ms (steps_of p w)) b.there (here_after M step peek place machine p ms xs here (Full w) l.0 answer b) l.1 b.plays d2 more g k t time late)
  adopt (Cut w c ∷ ks) p ms xs here l {n2 = n2} {ss2 = ss2} {es = es} plays done more e h t time late =
      cut_on p ms xs here t w c ks done more es n2 ss2 h late plays time l.0 l.1 e
      (λ v same fits answer b d2 g k. adopt ks (point_after p (Cut v c)) (run_each M step peek ms (before c (steps_of p v))) b.there (here_after M step peek place machine p ms xs here (Cut v c) fits answer b) (subst (λ (q : Point). Linked q ks) (sym same) l.1) b.plays d2 more g k t time late)
