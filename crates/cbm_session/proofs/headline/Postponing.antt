-- Where a reaction that shows is due at t, the host's changes of that moment can be put off: along an allowed session to where the play is.
use Rattle.std.proofs.Common.{◌≡◌, ℕ, suc, ◌+◌, ◌≤◌, ◌<◌, ◌⊎◌, inl, inr, Bool, true, false, List, [], ◌∷◌, ◌++◌, map, append_assoc, append-nil, Option, Some, None, ap, sym, ◌∙◌, subst, arith, refl}
use Rattle.std.specs.Prelude.{if◌then◌else◌}
use Rattle.cbm_iec.specs.Ports.{side_due, port_due}
use Rattle.cbm_iec.specs.declared.machine.Act.TheVariants.{Pulled as PulledAct}
use Rattle.cbm_iec.specs.declared.machine.Act.{Act}
use Rattle.cbm_iec.specs.declared.event.Event.{Event}
use Rattle.cbm_iec.specs.declared.event.Who.TheVariants.{Host}
use Rattle.cbm_iec.specs.declared.lines.Line.TheVariants.{Atn}
use Rattle.cbm_iec.specs.declared.lines.Way.TheVariants.{Pull}
use Rattle.cbm_iec.specs.declared.port.Port.{Port}
use Rattle.cbm_iec.specs.declared.port.Side.{Side}
use Rattle.cbm_session.proofs.among.Calm.{Every}
use Rattle.cbm_session.proofs.among.Fronts.{steps_order}
use Rattle.cbm_session.proofs.among.Pulls.{pull_host, pull_steps}
use Rattle.cbm_session.proofs.headline.AdoptParts.{bytes_first}
use Rattle.cbm_session.proofs.headline.Adopting.{PullsAt, pulls_at}
use Rattle.cbm_session.proofs.headline.BusActs.{AllRan}
use Rattle.cbm_session.proofs.headline.CutHost.{hosts_of}
use Rattle.cbm_session.proofs.headline.Ending.{Continues, piece_then}
use Rattle.cbm_session.proofs.headline.FrameBus.{devs_are}
use Rattle.cbm_session.proofs.headline.FrameLater.{every_at, quiet_never, command_never, byte_never}
use Rattle.cbm_session.proofs.headline.Here.{IsTalkers, Here, Out, hosts_out, talkers_out, PullInside, pull_out}
use Rattle.cbm_session.proofs.headline.Onward.{here_after}
use Rattle.cbm_session.proofs.headline.PieceBus.{Inside, Afterwards, bytes_last, devices_after}
use Rattle.cbm_session.proofs.headline.Premises.{mute}
use Rattle.cbm_session.proofs.headline.PullBus.{NextHost, HostNext, Pulled, Starts, Shows, Rests, AllOf}
use Rattle.cbm_session.proofs.headline.PutOff.{first_only, listener_never, nobody_off, before_off, inside_off}
use Rattle.cbm_session.proofs.headline.SomeDue.{SomeDue, later_due}
use Rattle.cbm_session.proofs.headline.TurnLater.{host_parts}
use Rattle.cbm_session.proofs.headline.Walk.{left_of, same_front, first_events, cut_talks, devs_play, react_of, pull_next, self_compat}
use Rattle.cbm_session.proofs.joining.Merging.{cut_front}
use Rattle.cbm_session.specs.Among.{Rest}
use Rattle.cbm_session.specs.Answers.{Allowed, PieceAnswers, IsAnswer, RunEach, run_each}
use Rattle.cbm_session.specs.Frames.{is_last}
use Rattle.cbm_session.specs.Pieces.{Whole, Piece, BusPlace, Point, host_part, own_part, steps_of, before, piece_steps, Fits, PieceFits, whole_point, point_after, Full, Cut, PullPiece, Command, Byte, ToListener, ToNobody, ToTalker, Nothing, Talk, Open, Commanding, Listening, Leading, Cutting}
use Rattle.cbm_session.specs.Playing.{Station, Plays, IsMachine}
use Rattle.cbm_session.specs.Seats.{Seat, talker_of}
use Rattle.cbm_session.specs.Sessions.{Linked, session_steps}
use Rattle.cbm_session.specs.Steps.{Step, moment_of, events_of, host, for_each, merge_all}

-- the host's changes of a pull are of its moment, and of ATN is the first alone
pull_rest : (c d : Bool) (at : ℕ) → Every (λ s. (moment_of s ≡ at) × (s.event.change.line ≡ Atn → ⊥)) (pull_host c d at)
pull_rest true true at = ((refl, λ e. cc), tt)
pull_rest true false at = tt
pull_rest false true at = ((refl, λ e. cc), ((refl, λ e. cc), tt))
pull_rest false false at = ((refl, λ e. cc), tt)

pull_moment : (p : Point) (at : ℕ) (hf : List Step) (s : Step) (ho : List Step) → hf ++ s ∷ ho ≡ host_part p (PullPiece at) → moment_of s ≡ at
pull_moment p at [] s ho e = (let same : s ≡ for_each PulledAct (host at Atn Pull) = cc in ap (λ (v : Step). moment_of v) same)
pull_moment p at (x ∷ hf) s ho e =
    let left : pull_host p.host.clock_low p.host.data_low at ≡ hf ++ s ∷ ho = (let k : hf ++ s ∷ ho ≡ pull_host p.host.clock_low p.host.data_low at = cc in sym k) in
    (every_at (λ v. (moment_of v ≡ at) × (v.event.change.line ≡ Atn → ⊥)) hf s ho (subst (Every (λ v. (moment_of v ≡ at) × (v.event.change.line ≡ Atn → ⊥))) left (pull_rest p.host.clock_low p.host.data_low at))).0

pull_first : (p : Point) (at : ℕ) (hf : List Step) (s : Step) (ho : List Step) → hf ++ s ∷ ho ≡ host_part p (PullPiece at) → s.event.change.line ≡ Atn → hf ≡ []
pull_first p at [] s ho e k = refl
pull_first p at (x ∷ hf) s ho e k =
    let left : pull_host p.host.clock_low p.host.data_low at ≡ hf ++ s ∷ ho = (let k : hf ++ s ∷ ho ≡ pull_host p.host.clock_low p.host.data_low at = cc in sym k) in
    absurd ((every_at (λ v. (moment_of v ≡ at) × (v.event.change.line ≡ Atn → ⊥)) hf s ho (subst (Every (λ v. (moment_of v ≡ at) × (v.event.change.line ≡ Atn → ⊥))) left (pull_rest p.host.clock_low p.host.data_low at))).1 k)

module _ (M : Type 0) (step : M → Act → M) (peek : M → Option (ℕ × Bool)) (place : ℕ → ℕ) where
  -- an answer to a pull is due after it, and not long
  starts_due : (at t u : ℕ) (x : Station M) → Starts M step peek mute place at x u → port_due x.port ≡ Some t → (at < t) × (t ≤ at + 60)
  starts_due at t u x k e =
      let same : Some t ≡ Some u = sym e ∙ ap (λ (v : Side). side_due v) k.side in
      let is : t ≡ u = cc in
      let a = k.later in
      let b = k.soon in
      (omega (arith, is, a), omega (arith, is, b))

  pulled_bounds : (at t : ℕ) (ys : List Step) (ss : List (Station M)) (fin : List (Rest × Port)) → AllOf M step peek mute place at (λ x e. Pulled M step peek mute place at x ys e) ss fin → SomeDue M step peek t ss → (at < t) × (t ≤ at + 60)
  pulled_bounds at t ys [] fin a d = elim d [ ]
  pulled_bounds at t ys (s ∷ ss) [] a d = elim a [ ]
  pulled_bounds at t ys (s ∷ ss) (e ∷ fin) a (inl k) = by_stand a.0.stand
    where
      by_stand : Shows M step peek mute place at s ys e ⊎ Rests M step peek mute place at s ys e → (at < t) × (t ≤ at + 60)
      by_stand (inl z) = starts_due at t z.due s z.starts k
      by_stand (inr z) = elim z.side [
        | inl h ↦ (let c : Some t ≡ None = sym k ∙ ap (λ (v : Side). side_due v) h in absurd cc)
        | inr u ↦ starts_due at t u.0 s u.1 k
      ]
  pulled_bounds at t ys (s ∷ ss) (e ∷ fin) a (inr d) = pulled_bounds at t ys ss fin a.1 d

  -- a pull at this point isn't the one that a cut has at once
  abbrev NotCut : Point → List Event → Type 0
  NotCut p es = (c : ℕ) → p.place ≡ Cutting c → es ≡ [] → ⊥

  whole_not_cut : (p : Point) (w : Whole) (es : List Event) → NotCut (whole_point p w) es
  whole_not_cut p (PullPiece at) es c e k = cc
  whole_not_cut p (Command f) es c e k = cc
  whole_not_cut p (Byte eoi f) es c e k = cc
  whole_not_cut p (ToListener at) es c e k = cc
  whole_not_cut p (ToNobody at clock) es c e k = cc
  whole_not_cut p (ToTalker at clock) es c e k = cc
  whole_not_cut p (Nothing at clock freed) es c e k = cc
  whole_not_cut p (Talk at f) es c e k = go (is_last f) e
    where
      go : (v : Bool) → (if v then Open else Leading (f.accept + 100)) ≡ Cutting c → ⊥
      go true e = cc
      go false e = cc

  module _ (p : Point) (ms : ℕ → M) (xs : List (Station M)) (here : Here M step peek place p ms xs) {n n2 : ℕ} {ss2 : List (Station M)} {es : List Event} (plays : Plays M step peek n xs es n2 ss2) (t : ℕ) (due : SomeDue M step peek t ss2) where
    begin_never : (at : ℕ) → Fits p (PullPiece at) → NotCut p es → es ≡ [] → ⊥
    begin_never at fits cut e = by_place p.place refl
      where
        by_place : (q : BusPlace) → p.place ≡ q → ⊥
        by_place Open k = quiet_never M step peek place p ms xs here plays t due (subst Rattle.cbm_session.specs.Sessions.MayEnd (sym k) tt) e
        by_place (Commanding some) k = subst (λ (v : BusPlace). Rattle.cbm_session.specs.Pieces.PullFits p at v) k fits
        by_place Listening k = quiet_never M step peek place p ms xs here plays t due (subst Rattle.cbm_session.specs.Sessions.MayEnd (sym k) tt) e
        by_place (Leading u) k = subst (λ (v : BusPlace). Rattle.cbm_session.specs.Pieces.PullFits p at v) k fits
        by_place (Cutting c) k = cut c k e

    -- of a pull under way none of the host's changes meets a reaction
    pub pull_never : (at : ℕ) → (fits : Fits p (PullPiece at)) → NotCut p es → (i : PullInside M step peek place p ms xs here at es ss2) (tail : List Step) → NextHost (at + 60) (events_of tail) → (s : Step) (more : List Step) → i.so.back ++ tail ≡ s ∷ more → s.event.who ≡ Host → moment_of s ≡ t → ⊥
    pull_never at fits cut i tail next s more e who now = elim i.so.state [
      | inl h ↦ host_next h
      | inr a ↦ answers i.so.back refl a
    ]
      where
        w : Whole
        w = PullPiece at

        host_next : HostNext M step peek mute place at i.so.back ss2 → ⊥
        host_next h = elim h.begun [
          | inl atn ↦ (
              let parts = i.so.parts ∙ ap (λ (l : List Step). i.so.front ++ l) h.is in
              let none = pull_first p at (hosts_of i.so.front) h.next (hosts_of h.others) (host_parts p (PullPiece at) i.so.front h.next h.others parts h.who) atn in
              let empty = first_only (for_each PulledAct (host at Atn Pull)) (pull_host p.host.clock_low p.host.data_low at ++ merge_all [] (map (λ (x : Seat). own_part p (PullPiece at) x) p.seats)) i.so.front h.next h.others refl (sym (pull_steps p at) ∙ parts) none in
              begin_never at fits cut (sym i.so.shown_so ∙ ap (λ (l : List Step). events_of l) empty)
              )
          | inr late ↦ (
              let list : h.next ∷ (h.others ++ tail) ≡ s ∷ more = sym (ap (λ (l : List Step). l ++ tail) h.is) ∙ e in
              let same : h.next ≡ s = cc in
              let at_s : moment_of h.next ≡ moment_of s = ap (λ (v : Step). moment_of v) same in
              let at_h = h.moment in
              let l = later_due M step peek at t ss2 late due in
              absurd (omega (arith, l, at_h, at_s, now))
              )
        ]

        answers : (back : List Step) → i.so.back ≡ back → AllOf M step peek mute place at (λ x e. Pulled M step peek mute place at x i.so.back e) ss2 i.fin → ⊥
        answers [] k a =
            let list : tail ≡ s ∷ more = sym (ap (λ (l : List Step). l ++ tail) k) ∙ e in
            let n = subst (λ (l : List Step). NextHost (at + 60) (events_of l)) list next in
            let late = n.1 in
            let b = (pulled_bounds at t i.so.back ss2 i.fin a due).1 in
            absurd (omega (arith, late, b, now))
        answers (y ∷ ys) k a =
            let list : y ∷ (ys ++ tail) ≡ s ∷ more = sym (ap (λ (l : List Step). l ++ tail) k) ∙ e in
            let same : y ≡ s = cc in
            let parts = i.so.parts ∙ ap (λ (l : List Step). i.so.front ++ l) k ∙ ap (λ (v : Step). i.so.front ++ v ∷ ys) same in
            let at_s = pull_moment p at (hosts_of i.so.front) s (hosts_of ys) (host_parts p (PullPiece at) i.so.front s ys parts who) in
            let b = (pulled_bounds at t i.so.back ss2 i.fin a due).0 in
            absurd (omega (arith, b, at_s, now))

  module _ (machine : IsMachine M step peek) where
    module _ (p : Point) (ms : ℕ → M) (xs : List (Station M)) (here : Here M step peek place p ms xs) {n n2 : ℕ} {ss2 : List (Station M)} {es : List Event} (plays : Plays M step peek n xs es n2 ss2) (t : ℕ) (due : SomeDue M step peek t ss2)
        (tail done : List Step) (s : Step) (more : List Step) (shown : events_of done ≡ es) (who : s.event.who ≡ Host) (now : moment_of s ≡ t) where
      abbrev Off : Type 0
      Off = Continues M step peek p ms es (suc t)

      abbrev Gone : Piece → Type 0
      Gone k = Afterwards M step peek place (point_after p k) xs (piece_steps p k) es n2 ss2

      -- what follows a piece
      abbrev Follows : Piece → Type 0
      Follows k = (b : Gone k) (d2 : List Step) → tail ≡ d2 ++ s ∷ more → events_of d2 ≡ b.more → Continues M step peek (point_after p k) (run_each M step peek ms (piece_steps p k)) b.more (suc t)

      passed : (k : Piece) → PieceFits p k → PieceAnswers M step peek (ms (talker_of p.seats).device) k → RunEach M step peek p.seats ms (piece_steps p k) → piece_steps p k ++ tail ≡ done ++ s ∷ more → Gone k → Follows k → Off
      passed k fits answer runs e b next =
          let left = left_of (piece_steps p k) tail done (s ∷ more) b.more e (shown ∙ b.shown_so) in
          subst (λ (l : List Event). Continues M step peek p ms l (suc t)) (sym b.shown_so) (piece_then M step peek p ms k (suc t) b.more fits answer runs (next b left.afterwards left.left left.shown))

      -- where a piece is under way its next step is the host's
      next_is : (k : Piece) → piece_steps p k ++ tail ≡ done ++ s ∷ more → (i : Inside M step peek place xs (piece_steps p k) es ss2) → i.next ≡ s
      next_is k e i =
          let whole : i.front ++ ((i.next ∷ i.others) ++ tail) ≡ done ++ s ∷ more = sym (append_assoc i.front (i.next ∷ i.others) tail) ∙ ap (λ (l : List Step). l ++ tail) (sym i.parts) ∙ e in
          let same = same_front i.front ((i.next ∷ i.others) ++ tail) done (s ∷ more) whole (i.shown_so ∙ sym shown) in
          let list : i.next ∷ (i.others ++ tail) ≡ s ∷ more = same.1 in
          cc

      parts_of : (k : Piece) → piece_steps p k ++ tail ≡ done ++ s ∷ more → (i : Inside M step peek place xs (piece_steps p k) es ss2) → piece_steps p k ≡ i.front ++ s ∷ i.others
      parts_of k e i = i.parts ∙ ap (λ (v : Step). i.front ++ v ∷ i.others) (next_is k e i)

      host_on : (w : Whole) → (fits : Fits p w) → IsAnswer M step peek (ms (talker_of p.seats).device) w → RunEach M step peek p.seats ms (steps_of p w) → steps_of p w ++ tail ≡ done ++ s ∷ more
          → ((front others : List Step) → steps_of p w ≡ front ++ s ∷ others → events_of front ≡ es → Off) → Out M step peek place p ms xs here (Full w) es n2 ss2 → Follows (Full w) → Off
      host_on w fits answer runs e inside (inl i) next = inside i.front i.others (parts_of (Full w) e i) i.shown_so
      host_on w fits answer runs e inside (inr b) next = passed (Full w) fits answer runs e b next

      pull_on : (at : ℕ) → (fits : Fits p (PullPiece at)) → RunEach M step peek p.seats ms (steps_of p (PullPiece at)) → NotCut p es → NextHost (at + 60) (events_of tail) → steps_of p (PullPiece at) ++ tail ≡ done ++ s ∷ more → PullInside M step peek place p ms xs here at es ss2 ⊎ Gone (Full (PullPiece at)) → Follows (Full (PullPiece at)) → Off
      pull_on at fits runs cut host e (inl i) next =
          let whole : i.so.front ++ (i.so.back ++ tail) ≡ done ++ s ∷ more = sym (append_assoc i.so.front i.so.back tail) ∙ ap (λ (l : List Step). l ++ tail) (sym i.so.parts) ∙ e in
          let same = same_front i.so.front (i.so.back ++ tail) done (s ∷ more) whole (i.so.shown_so ∙ sym shown) in
          absurd (pull_never p ms xs here plays t due at fits cut i tail host s more same.1 who now)
      pull_on at fits runs cut host e (inr b) next = passed (Full (PullPiece at)) fits tt runs e b next

      talk_on : (w : Whole) → IsTalkers w → (fits : Fits p w) → IsAnswer M step peek (ms (talker_of p.seats).device) w → RunEach M step peek p.seats ms (steps_of p w) → steps_of p w ++ tail ≡ done ++ s ∷ more → Out M step peek place p ms xs here (Full w) es n2 ss2 → Follows (Full w) → Off
      talk_on w a fits answer runs e (inl i) next =
          inside_off M step peek place machine p ms xs here plays t due i.front s i.others i.shown_so who now (devs_play M step peek place plays) (i.ran.runs ms [] here.ran) (bytes_last M step peek place plays) w a fits answer (parts_of (Full w) e i)
      talk_on w a fits answer runs e (inr b) next = passed (Full w) fits answer runs e b next

    module _ (p : Point) (ms : ℕ → M) (xs : List (Station M)) (here : Here M step peek place p ms xs) {n n2 : ℕ} {ss2 : List (Station M)} {es : List Event} (plays : Plays M step peek n xs es n2 ss2) (t : ℕ) (due : SomeDue M step peek t ss2)
        (w : Whole) (c : ℕ) (ks : List Piece) (fits : PieceFits p (Cut w c)) (linked : Linked (point_after p (Cut w c)) ks) (done : List Step) (s : Step) (more : List Step) (shown : events_of done ≡ es) (who : s.event.who ≡ Host) (now : moment_of s ≡ t) where
      abbrev after_cut : List Step
      after_cut = session_steps (point_after p (Cut w c)) ks

      pull : PullsAt c (session_steps (point_after p (Cut w c)) ks)
      pull = pulls_at p w c ks linked

      -- the pull comes next: another cut, or the piece to its end
      pull_next_off : IsAnswer M step peek (ms (talker_of p.seats).device) w → (b : Afterwards M step peek place (point_after p (Cut w c)) xs (before c (steps_of p w)) es n2 ss2) → b.more ≡ [] → (d2 : List Step) → session_steps (point_after p (Cut w c)) ks ≡ d2 ++ s ∷ more → events_of d2 ≡ [] → Continues M step peek p ms es (suc t)
      pull_next_off answer b none (x ∷ d2) e k = absurd cc
      pull_next_off answer b none [] e k =
          let list : pull.first ∷ pull.afterwards ≡ s ∷ more = sym pull.is ∙ e in
          let same : pull.first ≡ s = cc in
          let at : c ≡ t = sym pull.moment ∙ ap (λ (v : Step). moment_of v) same ∙ now in
          let k = Cut w c in
          let whose = devs_are M step peek mute place (point_after p k) (point_after p k).seats b.there b.stand ∙ devices_after p k ∙ sym (devs_are M step peek mute place p p.seats xs here.stand) in
          before_off M step peek place machine p ms xs here plays t due w (cut_talks p c w fits.1) fits.0 answer (subst (λ (v : ℕ). Rattle.cbm_session.specs.Pieces.CutFits p w v) at fits.1)
          (ap (λ (v : ℕ). events_of (before v (steps_of p w))) (sym at) ∙ sym (append-nil (events_of (before c (steps_of p w)))) ∙ ap (λ (l : List Event). events_of (before c (steps_of p w)) ++ l) (sym none) ∙ sym b.shown_so)
          b.there whose (subst (λ (v : ℕ). AllRan M step peek ms (before v (steps_of p w)) b.there) at (b.ran.runs ms [] here.ran)) (bytes_first M step peek place b.plays)

      -- under way before the cut
      cut_inside : IsAnswer M step peek (ms (talker_of p.seats).device) w → before c (steps_of p w) ++ session_steps (point_after p (Cut w c)) ks ≡ done ++ s ∷ more → Inside M step peek place xs (before c (steps_of p w)) es ss2 → Continues M step peek p ms es (suc t)
      cut_inside answer e i =
          let rest = cut_front c (steps_of p w) (steps_order p w fits.0) in
          let parts = parts_of p ms xs here plays t due (session_steps (point_after p (Cut w c)) ks) done s more shown who now (Cut w c) e i in
          inside_off M step peek place machine p ms xs here plays t due i.front s (i.others ++ rest.0) i.shown_so who now (devs_play M step peek place plays) (i.ran.runs ms [] here.ran) (bytes_last M step peek place plays) w (cut_talks p c w fits.1) fits.0 answer
          (rest.1 ∙ ap (λ (l : List Step). l ++ rest.0) parts ∙ append_assoc i.front (s ∷ i.others) rest.0)

      cut_on : IsAnswer M step peek (ms (talker_of p.seats).device) w → RunEach M step peek p.seats ms (before c (steps_of p w)) → before c (steps_of p w) ++ session_steps (point_after p (Cut w c)) ks ≡ done ++ s ∷ more → Out M step peek place p ms xs here (Cut w c) es n2 ss2
          → ((b : Afterwards M step peek place (point_after p (Cut w c)) xs (before c (steps_of p w)) es n2 ss2) → NotCut (point_after p (Cut w c)) b.more → (d2 : List Step) → session_steps (point_after p (Cut w c)) ks ≡ d2 ++ s ∷ more → events_of d2 ≡ b.more
          → Continues M step peek (point_after p (Cut w c)) (run_each M step peek ms (before c (steps_of p w))) b.more (suc t)) → Continues M step peek p ms es (suc t)
      cut_on answer runs e (inl i) next = cut_inside answer e i
      cut_on answer runs e (inr b) next = by_more b.more refl
        where
          by_more : (l : List Event) → b.more ≡ l → Continues M step peek p ms es (suc t)
          by_more [] m =
              let left = left_of (before c (steps_of p w)) (session_steps (point_after p (Cut w c)) ks) done (s ∷ more) b.more e (shown ∙ b.shown_so) in
              pull_next_off answer b m left.afterwards left.left (left.shown ∙ m)
          by_more (y ∷ ys) m =
              let left = left_of (before c (steps_of p w)) (session_steps (point_after p (Cut w c)) ks) done (s ∷ more) b.more e (shown ∙ b.shown_so) in
              subst (λ (l : List Event). Continues M step peek p ms l (suc t)) (sym b.shown_so)
              (piece_then M step peek p ms (Cut w c) (suc t) b.more fits answer runs (next b (λ v h none. (let k : y ∷ ys ≡ [] = sym m ∙ none in cc)) left.afterwards left.left left.shown))

    -- From a point on: an allowed session that begins as the play did, and has the host's next change later.
    pub postpone : (ks : List Piece) (p : Point) (ms : ℕ → M) (xs : List (Station M)) → Here M step peek place p ms xs → Linked p ks → Allowed M step peek p ms ks → {n n2 : ℕ} {ss2 : List (Station M)} {es : List Event} → Plays M step peek n xs es n2 ss2 → (done : List Step) (s : Step) (more : List Step)
        → session_steps p ks ≡ done ++ s ∷ more → events_of done ≡ es → s.event.who ≡ Host → (t : ℕ) → moment_of s ≡ t → SomeDue M step peek t ss2 → NotCut p es → Continues M step peek p ms es (suc t)
    postpone [] p ms xs here l al plays [] s more e h who t now due cut = absurd cc
    postpone [] p ms xs here l al plays (d ∷ done) s more e h who t now due cut = absurd cc
    postpone (Full (PullPiece at) ∷ ks) p ms xs here l al {n2 = n2} {ss2 = ss2} {es = es} plays done s more e h who t now due cut =
        let w = PullPiece at in
        let tail = session_steps (whole_point p (PullPiece at)) ks in
        let host = pull_next M step peek place p at (react_of M step peek place p p.seats xs refl here.stand) ks l.1 in
        let out = pull_out M step peek place p ms xs here at l.0 plays (events_of (s ∷ more)) (events_of tail) (first_events (steps_of p w) tail done (s ∷ more) es e h) host in
        pull_on p ms xs here plays t due tail done s more h who now at l.0 al.1 cut host e out
        (λ b d2 f g. postpone ks (whole_point p w) (run_each M step peek ms (steps_of p w)) b.there (here_after M step peek place machine p ms xs here (Full w) l.0 tt b) l.1 al.2 b.plays d2 s more f g who t now due (whole_not_cut p w b.more))
    postpone (Full (Command f) ∷ ks) p ms xs here l al {n2 = n2} {ss2 = ss2} {es = es} plays done s more e h who t now due cut =
        let w = Command f in
        let tail = session_steps (whole_point p (Command f)) ks in
        let out = hosts_out M step peek place p ms xs here w tt l.0 plays (events_of (s ∷ more)) (events_of tail) (first_events (steps_of p w) tail done (s ∷ more) es e h) in
        host_on p ms xs here plays t due tail done s more h who now w l.0 tt al.1 e (λ front others is shown. absurd (command_never M step peek place p ms xs here plays t due f l.0 front s others is shown who now)) out
        (λ b d2 f2 g. postpone ks (whole_point p w) (run_each M step peek ms (steps_of p w)) b.there (here_after M step peek place machine p ms xs here (Full w) l.0 tt b) l.1 al.2 b.plays d2 s more f2 g who t now due (whole_not_cut p w b.more))
    postpone (Full (Byte eoi f) ∷ ks) p ms xs here l al {n2 = n2} {ss2 = ss2} {es = es} plays done s more e h who t now due cut =
        let w = Byte eoi f in
        let tail = session_steps (whole_point p (Byte eoi f)) ks in
        let out = hosts_out M step peek place p ms xs here w tt l.0 plays (events_of (s ∷ more)) (events_of tail) (first_events (steps_of p w) tail done (s ∷ more) es e h) in
        host_on p ms xs here plays t due tail done s more h who now w l.0 tt al.1 e (λ front others is shown. absurd (byte_never M step peek place p ms xs here plays t due eoi f l.0 front s others is shown who now)) out
        (λ b d2 f2 g. postpone ks (whole_point p w) (run_each M step peek ms (steps_of p w)) b.there (here_after M step peek place machine p ms xs here (Full w) l.0 tt b) l.1 al.2 b.plays d2 s more f2 g who t now due (whole_not_cut p w b.more))
    postpone (Full (ToListener at) ∷ ks) p ms xs here l al {n2 = n2} {ss2 = ss2} {es = es} plays done s more e h who t now due cut =
        let w = ToListener at in
        let tail = session_steps (whole_point p (ToListener at)) ks in
        let out = hosts_out M step peek place p ms xs here w tt l.0 plays (events_of (s ∷ more)) (events_of tail) (first_events (steps_of p w) tail done (s ∷ more) es e h) in
        host_on p ms xs here plays t due tail done s more h who now w l.0 tt al.1 e (λ front others is shown. absurd (listener_never M step peek place machine p ms xs here plays t due at l.0 front s others is shown who)) out
        (λ b d2 f2 g. postpone ks (whole_point p w) (run_each M step peek ms (steps_of p w)) b.there (here_after M step peek place machine p ms xs here (Full w) l.0 tt b) l.1 al.2 b.plays d2 s more f2 g who t now due (whole_not_cut p w b.more))
    postpone (Full (ToNobody at clock) ∷ ks) p ms xs here l al {n2 = n2} {ss2 = ss2} {es = es} plays done s more e h who t now due cut =
        let w = ToNobody at clock in
        let tail = session_steps (whole_point p (ToNobody at clock)) ks in
        let out = hosts_out M step peek place p ms xs here w tt l.0 plays (events_of (s ∷ more)) (events_of tail) (first_events (steps_of p w) tail done (s ∷ more) es e h) in
        host_on p ms xs here plays t due tail done s more h who now w l.0 tt al.1 e (λ front others is shown. nobody_off M step peek place machine p ms xs here plays t due at clock l.0 front s others is shown who now) out
        (λ b d2 f2 g. postpone ks (whole_point p w) (run_each M step peek ms (steps_of p w)) b.there (here_after M step peek place machine p ms xs here (Full w) l.0 tt b) l.1 al.2 b.plays d2 s more f2 g who t now due (whole_not_cut p w b.more))
    postpone (Full (ToTalker at clock) ∷ ks) p ms xs here l al {n2 = n2} {ss2 = ss2} {es = es} plays done s more e h who t now due cut =
        let w = ToTalker at clock in
        let tail = session_steps (whole_point p (ToTalker at clock)) ks in
        let out = talkers_out M step peek place p ms xs here w None tt l.0 al.0 plays (events_of (s ∷ more)) (self_compat M step peek place machine (steps_of p w) (events_of tail) es (events_of (s ∷ more)) (first_events (steps_of p w) tail done (s ∷ more) es e h)) in
        talk_on p ms xs here plays t due tail done s more h who now w tt l.0 al.0 al.1 e out
        (λ b d2 f2 g. postpone ks (whole_point p w) (run_each M step peek ms (steps_of p w)) b.there (here_after M step peek place machine p ms xs here (Full w) l.0 al.0 b) l.1 al.2 b.plays d2 s more f2 g who t now due (whole_not_cut p w b.more))
    postpone (Full (Nothing at clock freed) ∷ ks) p ms xs here l al {n2 = n2} {ss2 = ss2} {es = es} plays done s more e h who t now due cut =
        let w = Nothing at clock freed in
        let tail = session_steps (whole_point p (Nothing at clock freed)) ks in
        let out = talkers_out M step peek place p ms xs here w None tt l.0 al.0 plays (events_of (s ∷ more)) (self_compat M step peek place machine (steps_of p w) (events_of tail) es (events_of (s ∷ more)) (first_events (steps_of p w) tail done (s ∷ more) es e h)) in
        talk_on p ms xs here plays t due tail done s more h who now w tt l.0 al.0 al.1 e out
        (λ b d2 f2 g. postpone ks (whole_point p w) (run_each M step peek ms (steps_of p w)) b.there (here_after M step peek place machine p ms xs here (Full w) l.0 al.0 b) l.1 al.2 b.plays d2 s more f2 g who t now due (whole_not_cut p w b.more))
    postpone (Full (Talk at f) ∷ ks) p ms xs here l al {n2 = n2} {ss2 = ss2} {es = es} plays done s more e h who t now due cut =
        let w = Talk at f in
        let tail = session_steps (whole_point p (Talk at f)) ks in
        let out = talkers_out M step peek place p ms xs here w None tt l.0 al.0 plays (events_of (s ∷ more)) (self_compat M step peek place machine (steps_of p w) (events_of tail) es (events_of (s ∷ more)) (first_events (steps_of p w) tail done (s ∷ more) es e h)) in
        talk_on p ms xs here plays t due tail done s more h who now w tt l.0 al.0 al.1 e out
        (λ b d2 f2 g. postpone ks (whole_point p w) (run_each M step peek ms (steps_of p w)) b.there (here_after M step peek place machine p ms xs here (Full w) l.0 al.0 b) l.1 al.2 b.plays d2 s more f2 g who t now due (whole_not_cut p w b.more))
    postpone (Cut w c ∷ ks) p ms xs here l al {n2 = n2} {ss2 = ss2} {es = es} plays done s more e h who t now due cut =
        let tail = session_steps (point_after p (Cut w c)) ks in
        let out = talkers_out M step peek place p ms xs here w (Some c) (cut_talks p c w l.0.1) l.0 al.0 plays (events_of (s ∷ more)) (self_compat M step peek place machine (before c (steps_of p w)) (events_of tail) es (events_of (s ∷ more)) (first_events (before c (steps_of p w)) tail done (s ∷ more) es e h)) in
        cut_on p ms xs here plays t due w c ks l.0 l.1 done s more h who now al.0 al.1 e out
        (λ b fresh d2 f2 g. postpone ks (point_after p (Cut w c)) (run_each M step peek ms (before c (steps_of p w))) b.there (here_after M step peek place machine p ms xs here (Cut w c) l.0 al.0 b) l.1 al.2 b.plays d2 s more f2 g who t now due fresh)
