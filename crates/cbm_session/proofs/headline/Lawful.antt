-- Of an allowed session that begins as a play did: the machines ran what counts in it, and no drive's change comes before what is due.
use Rattle.std.proofs.Common.{◌≡◌, ℕ, suc, ◌+◌, ◌≤◌, ◌⊎◌, inl, inr, Bool, true, false, List, [], ◌∷◌, ◌++◌, map, append_assoc, Option, ap, sym, ◌∙◌, subst, arith, refl}
use Rattle.cbm_iec.specs.Ports.{port_due}
use Rattle.cbm_iec.specs.declared.machine.Act.{Act}
use Rattle.cbm_iec.specs.declared.event.Event.{Event}
use Rattle.cbm_iec.specs.declared.event.Who.TheVariants.{Host, Drive}
use Rattle.cbm_iec.specs.declared.event.Who.{Who}
use Rattle.cbm_iec.specs.declared.party.Party.{Party}
use Rattle.cbm_session.proofs.headline.AlongBus.{AllGo, devs, SitsIn, OwnedIn, sitting_due, next_inside, owned_after}
use Rattle.cbm_session.proofs.headline.BusActs.{AllRan, acts_append}
use Rattle.cbm_session.proofs.headline.BusStep.{Tied, tied_after}
use Rattle.cbm_session.proofs.headline.FrameBus.{steps_owned}
use Rattle.cbm_session.proofs.headline.Here.{Here, PullInside}
use Rattle.cbm_session.proofs.headline.Keeping.{HostFrom, host_front}
use Rattle.cbm_session.proofs.headline.Meeting.{in_time_at}
use Rattle.cbm_session.proofs.headline.PieceBus.{devices_after, steps_tied}
use Rattle.cbm_session.proofs.headline.Premises.{mute, place_in, devices, bus_rises, bus_stands, bus_ran, rest_devices, Rises, rises_placed}
use Rattle.cbm_session.proofs.headline.PullBus.{NextHost, HostNext, Pulled, AllOf}
use Rattle.cbm_session.proofs.headline.PullNow.{pulled_due, next_answer}
use Rattle.cbm_session.proofs.headline.ReleaseBus.{AllQuiet, quiet_first}
use Rattle.cbm_session.proofs.headline.Unasked.{Runs, runs_then, runs_front}
use Rattle.cbm_session.proofs.headline.Walk.{At, Now, going, pulling, over, devs_play, walk}
use Rattle.cbm_session.specs.Answers.{Allowed, Run, run_each, RunEach}
use Rattle.cbm_session.specs.Following.{IsInTime}
use Rattle.cbm_session.specs.Pieces.{Piece, Point, piece_steps, Fits, point_after, Full, PullPiece}
use Rattle.cbm_session.specs.Playing as playing
use Rattle.cbm_session.specs.Playing.{Station, Plays, stays, change, reaction, drive_events, shown, AllInTime, IsFirst, RanEach, IsMachine}
use Rattle.cbm_session.specs.Seats.{Seat, device}
use Rattle.cbm_session.specs.Sessions.{rest, session_steps, Splits, IsBus}
use Rattle.cbm_session.specs.Steps.{Step, moment_of, events_of, acts_for}
use Rattle.cbm_session.specs.Timing.{is_host}

abbrev anywhere : ℕ → ℕ
anywhere d = 0

module _ (M : Type 0) (step : M → Act → M) (peek : M → Option (ℕ × Bool)) where
  rest_devs : (place : ℕ → ℕ) (ms : ℕ → M) (bs : List Party) → devs M step peek mute place (playing.at_rest M step peek ms bs) ≡ devices bs
  rest_devs place ms [] = refl
  rest_devs place ms (b ∷ bs) = ap (λ (l : List ℕ). b.device ∷ l) (rest_devs place ms bs)

  -- a session's machines run all that counts in it
  seat_runs : (ms : ℕ → M) (steps : List Step) (ss : List Seat) (d : ℕ) → SitsIn M step peek mute anywhere d (map (λ s. device s) ss) → RunEach M step peek ss ms steps → Runs M step peek (ms d) (acts_for d steps)
  seat_runs ms steps [] d i r = elim i [ ]
  seat_runs ms steps (s ∷ ss) d (inl e) r = subst (λ (v : ℕ). Runs M step peek (ms v) (acts_for v steps)) e r.0
  seat_runs ms steps (s ∷ ss) d (inr i) r = seat_runs ms steps ss d i r.1

  allowed_runs : (ks : List Piece) (p : Point) (ms : ℕ → M) (d : ℕ) → Allowed M step peek p ms ks → SitsIn M step peek mute anywhere d (map (λ s. device s) p.seats) → Runs M step peek (ms d) (acts_for d (session_steps p ks))
  allowed_runs [] p ms d al i = refl
  allowed_runs (k ∷ ks) p ms d al i =
      let ys = piece_steps p k in
      let more = allowed_runs ks (point_after p k) (run_each M step peek ms ys) d al.2 (subst (λ (l : List ℕ). SitsIn M step peek mute anywhere d l) (sym (devices_after p k)) i) in
      subst (λ (l : List Act). Runs M step peek (ms d) l) (sym (acts_append d ys (session_steps (point_after p k) ks))) (runs_then M step peek (ms d) (acts_for d ys) (acts_for d (session_steps (point_after p k) ks)) (seat_runs ms ys p.seats d i al.1) more)

  ran_each : (ms : ℕ → M) (done : List Step) (ds : List ℕ) (ss : List (Station M)) → ((d : ℕ) → SitsIn M step peek mute anywhere d ds → Runs M step peek (ms d) (acts_for d done)) → ((d : ℕ) → SitsIn M step peek mute anywhere d (devs M step peek mute anywhere ss) → SitsIn M step peek mute anywhere d ds) → AllRan M step peek ms done ss
      → RanEach M step peek ms done ss
  ran_each ms done ds [] f g r = tt
  ran_each ms done ds (s ∷ ss) f g r =
      let d = s.port.party.device in
      (subst (λ (m : M). Run M step peek (ms d) (acts_for d done) m) (sym r.0) (f d (g d (inl refl))), ran_each ms done ds ss f (λ e i. g e (inr i)) r.1)

  pub among_time : (t : ℕ) (before : List (Station M)) (o : Station M) (afterwards : List (Station M)) → AllInTime M step peek t (before ++ o ∷ afterwards) → IsInTime t (port_due o.port)
  among_time t [] o afterwards h = h.0
  among_time t (b ∷ before) o afterwards h = among_time t before o afterwards h.1

  -- of a pull that is under way
  module _ (place : ℕ → ℕ) (p : Point) (ms : ℕ → M) (xs : List (Station M)) (now : Here M step peek place p ms xs) (at : ℕ) (es : List Event) (ss : List (Station M)) (i : PullInside M step peek place p ms xs now at es ss) (fits : Fits p (PullPiece at))
      (ds : devs M step peek mute place ss ≡ map (λ s. device s) p.seats) where
    back_owned : OwnedIn M step peek mute place (devs M step peek mute place ss) i.so.back
    back_owned =
        subst (λ (l : List ℕ). OwnedIn M step peek mute place l i.so.back) (sym ds)
        (owned_after M step peek mute place (map (λ s. device s) p.seats) i.so.front i.so.back (subst (OwnedIn M step peek mute place (map (λ s. device s) p.seats)) i.so.parts (steps_owned M step peek mute place p (PullPiece at))))

    back_tied : Tied place i.so.back
    back_tied = tied_after place i.so.front i.so.back (subst (Tied place) i.so.parts (steps_tied place p (Full (PullPiece at)) fits (rises_placed M step peek place p.seats now.rises)))

    back_rises : Rises M step peek place (devs M step peek mute place ss)
    back_rises = subst (λ (l : List ℕ). Rises M step peek place l) (sym ds) now.rises

  -- no drive's change comes before what is due
  soon_now : (place : ℕ → ℕ) (d t : ℕ) (s : Step) (more : List Step) (ss : List (Station M)) → s.event.who ≡ Drive d → AllInTime M step peek t ss → Now M step peek place (s ∷ more) ss → t ≤ moment_of s
  soon_now place d t s more ss w time (going y ys tail e g) =
      let same : y ≡ s = cc in
      subst (λ (v : Step). t ≤ moment_of v) same (sitting_due M step peek g.says place d ss y ys g.fin g.goes (ap (λ (v : Step). v.event.who) same ∙ w) (g.tidy.owned.0 d (ap (λ (v : Step). v.event.who) same ∙ w)) t time)
  soon_now place d t s more ss w time (pulling p ms xs now at es tail i fits e host ds) = by_back i.so.back refl
    where
      no_host : (zs : List Step) → s ∷ more ≡ zs → NextHost (at + 60) (events_of zs) → ⊥
      no_host zs e n = let k = subst (λ (l : List Step). NextHost (at + 60) (events_of l)) (sym e) n in let c : Host ≡ Drive d = sym k.0 ∙ w in cc

      by_back : (zs : List Step) → i.so.back ≡ zs → t ≤ moment_of s
      by_back [] b = absurd (no_host tail (e ∙ ap (λ (l : List Step). l ++ tail) b) host)
      by_back (y ∷ ys) b =
          let all : s ∷ more ≡ (y ∷ ys) ++ tail = e ∙ ap (λ (l : List Step). l ++ tail) b in
          let same : y ≡ s = cc in
          let who : y.event.who ≡ Drive d = ap (λ (v : Step). v.event.who) same ∙ w in
          elim i.so.state [
            | inl n ↦ (let first : y ≡ n.next = (let z = sym b ∙ n.is in cc) in let c : Host ≡ Drive d = sym n.who ∙ ap (λ (v : Step). v.event.who) (sym first) ∙ who in absurd cc)
            | inr a ↦ subst (λ (v : Step). t ≤ moment_of v) same
                (pulled_due M step peek mute place at d t ss y ys i.fin (subst (λ (l : List Step). AllOf M step peek mute place at (λ x e. Pulled M step peek mute place at x l e) ss i.fin) b a) who ((subst (OwnedIn M step peek mute place (devs M step peek mute place ss)) b (back_owned place p ms xs now at es ss i fits ds)).0 d who) time)
          ]
  soon_now place d t s more ss w time (over e q) = absurd cc

  -- the reaction that is due first comes next
  abbrev pub ComesNext : List Step → ℕ → Station M → Type 0
  ComesNext more t o = (rs : List Step) × ((left : List Step) × ((more ≡ rs ++ left) × (events_of rs ≡ drive_events o.port.party.device (shown M step peek t o))))

  next_now : (place : ℕ → ℕ) (t : ℕ) (more : List Step) (before : List (Station M)) (o : Station M) (afterwards : List (Station M)) → IsFirst M step peek t before o afterwards → HostFrom (suc t) more → (ss : List (Station M)) → ss ≡ before ++ o ∷ afterwards → Now M step peek place more ss → ComesNext more t o
  next_now place t more before o afterwards f h ss is (going y ys tail e g) =
      let goes = subst (λ (v : List (Station M)). AllGo M step peek g.says place v (y ∷ ys) g.fin) is g.goes in
      let k = next_inside M step peek g.says place t before o afterwards y ys g.fin goes f (host_front (suc t) (y ∷ ys) tail (subst (HostFrom (suc t)) e h)) (subst (λ (v : List (Station M)). Rises M step peek place (devs M step peek mute place v)) is g.rises) g.tidy.last g.tidy.goes_on g.tidy.order g.tidy.tied
      (subst (λ (v : List (Station M)). OwnedIn M step peek mute place (devs M step peek mute place v) (y ∷ ys)) is g.tidy.owned) in
      (k.own, (k.more ++ tail, (e ∙ ap (λ (l : List Step). l ++ tail) k.steps ∙ append_assoc k.own k.more tail, k.events)))
  next_now place t more before o afterwards f h ss is (pulling p ms xs now at es tail i fits e host ds) = by_state i.so.state
    where
      left : HostFrom (suc t) i.so.back
      left = host_front (suc t) i.so.back tail (subst (HostFrom (suc t)) e h)

      by_state : HostNext M step peek mute place at i.so.back ss ⊎ AllOf M step peek mute place at (λ x e. Pulled M step peek mute place at x i.so.back e) ss i.fin → ComesNext more t o
      by_state (inl n) =
          let late = (subst (HostFrom (suc t)) n.is left).0 (ap is_host n.who) in
          let soon = in_time_at at t (port_due o.port) (among_time at before o afterwards (subst (λ (v : List (Station M)). AllInTime M step peek at v) is n.in_time)) f.due in
          let m = n.moment in
          absurd (omega (arith, late, soon, m))
      by_state (inr a) =
          let k = next_answer M step peek mute place at t before o afterwards i.so.back i.fin (subst (λ (v : List (Station M)). AllOf M step peek mute place at (λ x e. Pulled M step peek mute place at x i.so.back e) v i.fin) is a) f left
          (subst (λ (v : List (Station M)). Rises M step peek place (devs M step peek mute place v)) is (back_rises place p ms xs now at es ss i fits ds)) (back_tied place p ms xs now at es ss i fits ds)
          (subst (λ (v : List (Station M)). OwnedIn M step peek mute place (devs M step peek mute place v) i.so.back) is (back_owned place p ms xs now at es ss i fits ds)) in
          (k.own, (k.more ++ tail, (e ∙ ap (λ (l : List Step). l ++ tail) k.steps ∙ append_assoc k.own k.more tail, k.events)))
  next_now place t more before o afterwards f h ss is (over e q) = absurd (quiet_first M step peek mute place t before o afterwards (subst (λ (v : List (Station M)). AllQuiet M step peek mute place v) is q) f.due)

  module _ (bs : List Party) (ms : ℕ → M) (is_bus : IsBus bs) (machine : IsMachine M step peek) where
    -- all stand at rest
    pub rest_here : Here M step peek (place_in bs) (rest bs) ms (playing.at_rest M step peek ms bs)
    rest_here = record {
      stand = bus_stands M step peek ms bs is_bus;
      show = λ c e. absurd cc;
      ran = bus_ran M step peek ms bs;
      rises = subst (λ (l : List ℕ). Rises M step peek (place_in bs) l) (sym (rest_devices M step peek bs)) (bus_rises M step peek bs is_bus.unlike);
      leads = λ at e. absurd cc;
    }

    -- where in an allowed session a play from rest is
    pub at_now : {n : ℕ} {es : List Event} {ss : List (Station M)} → Plays M step peek 0 (playing.at_rest M step peek ms bs) es n ss → (ks : List Piece) (done more : List Step) → Splits bs ks done more → events_of done ≡ es → Allowed M step peek (rest bs) ms ks → At M step peek (place_in bs) done more ms ss
    at_now plays ks done more sp e al = walk M step peek (place_in bs) machine ks (rest bs) ms (playing.at_rest M step peek ms bs) rest_here sp.linked al plays done more sp.steps e

    -- The machines ran what counts.
    pub ran_law : {n : ℕ} {es : List Event} {ss : List (Station M)} → Plays M step peek 0 (playing.at_rest M step peek ms bs) es n ss → (ks : List Piece) (done more : List Step) → Splits bs ks done more → events_of done ≡ es → Allowed M step peek (rest bs) ms ks → RanEach M step peek ms done ss
    ran_law {ss = ss} plays ks done more sp e al =
        let place = place_in bs in
        let a = at_now plays ks done more sp e al in
        let ds = devs_play M step peek place plays ∙ rest_devs place ms bs ∙ sym (rest_devices M step peek bs) in
        ran_each ms done (map (λ s. device s) (rest bs).seats) ss
        (λ d i. runs_front M step peek (ms d) (acts_for d done) (acts_for d more) (subst (λ (l : List Act). Runs M step peek (ms d) l) (ap (λ (l : List Step). acts_for d l) sp.steps ∙ acts_append d done more) (allowed_runs ks (rest bs) ms d al i)))
        (λ d i. subst (λ (l : List ℕ). SitsIn M step peek mute place d l) ds i) a.ran

    -- No drive's change comes before what is due.
    pub soon_law : {n : ℕ} {es : List Event} {ss : List (Station M)} → Plays M step peek 0 (playing.at_rest M step peek ms bs) es n ss → (t : ℕ) (ks : List Piece) (done more : List Step) (s : Step) → AllInTime M step peek t ss → Splits bs ks done (s ∷ more) → events_of done ≡ es → Allowed M step peek (rest bs) ms ks
        → is_host s.event.who ≡ false → t ≤ moment_of s
    soon_law {ss = ss} plays t ks done more s time sp e al n = by_who s.event.who refl
      where
        by_who : (w : Who) → s.event.who ≡ w → t ≤ moment_of s
        by_who Host w = let c : true ≡ false = sym (ap is_host w) ∙ n in absurd cc
        by_who (Drive d) w = soon_now (place_in bs) d t s more ss w time (at_now plays ks done (s ∷ more) sp e al).now

    -- Where the host changes nothing up to t, the reaction that is due first at t comes next.
    pub next_law : {n : ℕ} {es : List Event} (t : ℕ) (before : List (Station M)) (o : Station M) (afterwards : List (Station M)) → Plays M step peek 0 (playing.at_rest M step peek ms bs) es n (before ++ o ∷ afterwards) → IsFirst M step peek t before o afterwards → (ks : List Piece) (done more : List Step) → Splits bs ks done more → events_of done ≡ es
        → Allowed M step peek (rest bs) ms ks → HostFrom (suc t) more → ComesNext more t o
    next_law t before o afterwards plays f ks done more sp e al h = next_now (place_in bs) t more before o afterwards f h (before ++ o ∷ afterwards) refl (at_now plays ks done more sp e al).now
