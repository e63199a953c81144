-- The stations of a bus at a point of a session that they have played so far, and the next piece: the play is in it, or after it at the next point.
use Rattle.cbm_session.proofs.alone.Frames.{done_due}
use Rattle.std.proofs.Common.{◌≡◌, ℕ, ◌+◌, ◌≤◌, ◌⊎◌, inl, inr, Bool, true, List, [], ◌∷◌, ◌++◌, map, Option, Some, None, ap, sym, ◌∙◌, subst, refl, arith}
use Rattle.std.specs.Prelude.{if◌then◌else◌}
use Rattle.cbm_iec.specs.Ports.{side_due, port_due}
use Rattle.cbm_iec.specs.declared.machine.Act.TheVariants.{Released}
use Rattle.cbm_iec.specs.declared.machine.Act.{Act}
use Rattle.cbm_iec.specs.declared.event.Event.{Event}
use Rattle.cbm_iec.specs.declared.party.Party.{Party}
use Rattle.cbm_iec.specs.declared.party.Role.TheVariants.{Absent, Listener, Talker}
use Rattle.cbm_iec.specs.declared.party.Role.{Role}
use Rattle.cbm_iec.specs.declared.port.Side.{Side}
use Rattle.cbm_session.proofs.among.Standing.{IsSound}
use Rattle.cbm_session.proofs.headline.AlongBus.{RisingIn}
use Rattle.cbm_session.proofs.headline.AfterBus.{stand_so}
use Rattle.cbm_session.proofs.headline.BusActs.{AllRan}
use Rattle.cbm_session.proofs.headline.FrameBus.{AllWith, command_on_bus, byte_on_bus, listening_due}
use Rattle.cbm_session.proofs.headline.Meeting.{Compat, LastSaid}
use Rattle.cbm_session.proofs.headline.PieceBus.{upto, upto_fits, piece_tidy, Inside, Afterwards, bytes_last, come_to, upto_last}
use Rattle.cbm_session.proofs.headline.Premises.{mute, Rises, rises_placed, Stood, restand}
use Rattle.cbm_session.proofs.headline.PullBus.{NextHost, PullWithin}
use Rattle.cbm_session.proofs.headline.PullPlayed.{AllShow, pull_on_bus}
use Rattle.cbm_session.proofs.headline.ReleaseBus.{to_listener_on_bus, to_nobody_on_bus, nobody_steps}
use Rattle.cbm_session.proofs.headline.TalkBus.{Telling, talk_on_bus, frame_steps}
use Rattle.cbm_session.proofs.headline.TalkParts.{told_last}
use Rattle.cbm_session.proofs.headline.TurnBus as turns
use Rattle.cbm_session.proofs.headline.TurnBus.{to_talker_on_bus, nothing_on_bus, mute_turn, turn_last}
use Rattle.cbm_session.proofs.headline.TurnTwin.{turn_begins, mutes, mute_steps}
use Rattle.cbm_session.proofs.headline.Unasked.{steps_unasked, unasked_last}
use Rattle.cbm_session.proofs.joining.Talkers.{talker_is}
use Rattle.cbm_session.proofs.among.Turns.{listener_steps}
use Rattle.cbm_session.specs.Answers.{IsAnswer, run_each}
use Rattle.cbm_session.specs.Buses.{SideAmong}
use Rattle.cbm_session.specs.Pieces.{Whole, Piece, BusPlace, Point, steps_of, piece_steps, Fits, PieceFits, whole_point, point_after, Full, Cut, PullPiece, Command, Byte, ToListener, ToNobody, ToTalker, Nothing, Talk, Open, Commanding, Listening, Leading, Cutting}
use Rattle.cbm_session.specs.Playing.{Station, Plays}
use Rattle.cbm_session.specs.Seats.{Seat, device, is_talker, has_talker, talker_of}
use Rattle.cbm_session.specs.Steps.{Step, events_of}

-- the pieces in which no drive talks, but for ATN's pull
abbrev pub IsHosts : Whole → Type 0
IsHosts (PullPiece at) = ⊥
IsHosts (Command f) = Unit {0}
IsHosts (Byte eoi f) = Unit {0}
IsHosts (ToListener at) = Unit {0}
IsHosts (ToNobody at clock) = Unit {0}
IsHosts (ToTalker at clock) = ⊥
IsHosts (Nothing at clock freed) = ⊥
IsHosts (Talk at f) = ⊥

-- those of a talking drive
abbrev pub IsTalkers : Whole → Type 0
IsTalkers (PullPiece at) = ⊥
IsTalkers (Command f) = ⊥
IsTalkers (Byte eoi f) = ⊥
IsTalkers (ToListener at) = ⊥
IsTalkers (ToNobody at clock) = ⊥
IsTalkers (ToTalker at clock) = Unit {0}
IsTalkers (Nothing at clock freed) = Unit {0}
IsTalkers (Talk at f) = Unit {0}

module _ (M : Type 0) (step : M → Act → M) (peek : M → Option (ℕ × Bool)) where
  -- At a place where a drive leads there is one, it is its turn next, and its machine has a byte to say.
  pub record LeadsThere (p : Point) (ms : ℕ → M) (at : ℕ) : Type 0 where
    pub talker : has_talker p.seats ≡ true
    pub since : p.since ≤ at
    pub byte : (x : ℕ × Bool) × (peek (ms (talker_of p.seats).device) ≡ Some x)

  -- The stations stand at a point of a session, and their machines are these.
  pub record Here (place : ℕ → ℕ) (p : Point) (ms : ℕ → M) (xs : List (Station M)) : Type 0 where
    pub stand : Stood M step peek place p p.seats xs
    pub show : (c : ℕ) → p.place ≡ Cutting c → AllShow M step peek mute place xs
    pub ran : AllRan M step peek ms [] xs
    pub rises : Rises M step peek place (map (λ s. device s) p.seats)
    pub leads : (at : ℕ) → p.place ≡ Leading at → LeadsThere p ms at

  -- machines that go on
  pub ran_on : (ms : ℕ → M) (ys : List Step) (xs : List (Station M)) → AllRan M step peek ms ys xs → AllRan M step peek (run_each M step peek ms ys) [] xs
  ran_on ms ys [] h = tt
  ran_on ms ys (x ∷ xs) h = (h.0, ran_on ms ys xs h.1)

  -- what is known of each machine is known of each station
  all_with : (place : ℕ → ℕ) (ms : ℕ → M) (A : Seat → Station M → Type 0) → ((s : Seat) (x : Station M) → x.machine ≡ ms x.port.party.device → A s x) → (p : Point) (ss : List Seat) (xs : List (Station M)) → Stood M step peek place p ss xs → AllRan M step peek ms [] xs
      → AllWith M step peek mute place A ss xs
  all_with place ms A f p [] [] h r = tt
  all_with place ms A f p [] (x ∷ xs) h r = elim h [ ]
  all_with place ms A f p (s ∷ ss) [] h r = elim h [ ]
  all_with place ms A f p (s ∷ ss) (x ∷ xs) h r = (f s x r.0, all_with place ms A f p ss xs h.1 r.1)

  -- a bus with a talker has its seat
  pub the_seat : (place : ℕ → ℕ) (p : Point) (ss : List Seat) (xs : List (Station M)) → Stood M step peek place p ss xs → has_talker ss ≡ true → (s : Seat) × (IsSound p s × (s.role ≡ Talker) × (talker_of p.seats ≡ s.party))
  the_seat place p [] [] h e = absurd cc
  the_seat place p [] (x ∷ xs) h e = elim h [ ]
  the_seat place p (s ∷ ss) [] h e = elim h [ ]
  the_seat place p (s ∷ ss) (x ∷ xs) h e = go s.role refl e (λ k. the_seat place p ss xs h.1 k)
    where
      go : (r : Role) → s.role ≡ r → (if is_talker s.role then true else has_talker ss) ≡ true → (has_talker ss ≡ true → (s : Seat) × (IsSound p s × (s.role ≡ Talker) × (talker_of p.seats ≡ s.party))) → (s : Seat) × (IsSound p s × (s.role ≡ Talker) × (talker_of p.seats ≡ s.party))
      go Absent k e next = next (ap (λ (q : Role). if is_talker q then true else has_talker ss) (sym k) ∙ e)
      go Listener k e next = next (ap (λ (q : Role). if is_talker q then true else has_talker ss) (sym k) ∙ e)
      go Talker k e next = (s, (h.0.sound, k, talker_is (device s) p.seats s h.0.sound.seated.one h.0.sound.seated.sits (ap is_talker k)))

  module _ (place : ℕ → ℕ) (p : Point) (ms : ℕ → M) (xs : List (Station M)) (here : Here place p ms xs) where
    abbrev pub Out : Piece → List Event → ℕ → List (Station M) → Type 0
    Out k es n2 ss2 = Inside M step peek place xs (piece_steps p k) es ss2 ⊎ Afterwards M step peek place (point_after p k) xs (piece_steps p k) es n2 ss2

    -- a piece of the host
    pub hosts_out : (w : Whole) → IsHosts w → Fits p w → {n n2 : ℕ} {ss2 : List (Station M)} {es : List Event} → Plays M step peek n xs es n2 ss2 → (rest more : List Event) → es ++ rest ≡ events_of (steps_of p w) ++ more → Out (Full w) es n2 ss2
    hosts_out (PullPiece at) a fits plays rest more e = elim a [ ]
    hosts_out (Command f) a fits {n2 = n2} {ss2 = ss2} {es = es} plays rest more e =
        let placed = rises_placed M step peek place p.seats here.rises in
        let k = command_on_bus M step peek mute place p f fits placed here.rises xs here.stand plays rest more e in
        come_to M step peek place (bytes_last M step peek place plays) mute p (Full (Command f)) xs k.fin es rest n2 k.ends here.rises (piece_tidy M step peek place p (Full (Command f)) fits placed (unasked_last (steps_of p (Command f)) (steps_unasked p (Command f) tt))) k.so
    hosts_out (Byte eoi f) a fits {n2 = n2} {ss2 = ss2} {es = es} plays rest more e =
        let placed = rises_placed M step peek place p.seats here.rises in
        let k = byte_on_bus M step peek mute place p eoi f fits placed here.rises xs here.stand plays rest more e in
        come_to M step peek place (bytes_last M step peek place plays) mute p (Full (Byte eoi f)) xs k.fin es rest n2 k.ends here.rises (piece_tidy M step peek place p (Full (Byte eoi f)) fits placed (unasked_last (steps_of p (Byte eoi f)) (steps_unasked p (Byte eoi f) tt))) k.so
    hosts_out (ToListener at) a fits {n2 = n2} {ss2 = ss2} {es = es} plays rest more e =
        let placed = rises_placed M step peek place p.seats here.rises in
        let w = ToListener at in
        let k = to_listener_on_bus M step peek mute place p at fits placed here.rises xs here.stand plays rest more e in
        come_to M step peek place (bytes_last M step peek place plays) mute p (Full w) xs k.0 es rest n2 k.1.0 here.rises (piece_tidy M step peek place p (Full w) fits placed (unasked_last (steps_of p w) (steps_unasked p w tt)))
        (subst (λ (v : List Step). Rattle.cbm_session.proofs.headline.AlongBus.WithinAll M step peek mute place xs v k.0 es rest ss2 ⊎ Rattle.cbm_session.proofs.headline.AlongBus.PassedAll M step peek mute place xs v k.0 es n2 ss2) (sym (listener_steps p at)) k.1.1)
    hosts_out (ToNobody at clock) a fits {n2 = n2} {ss2 = ss2} {es = es} plays rest more e =
        let placed = rises_placed M step peek place p.seats here.rises in
        let w = ToNobody at clock in
        let k = to_nobody_on_bus M step peek mute place p at clock fits placed here.rises xs here.stand plays rest more e in
        come_to M step peek place (bytes_last M step peek place plays) mute p (Full w) xs k.0 es rest n2 k.1.0 here.rises (piece_tidy M step peek place p (Full w) fits placed (unasked_last (steps_of p w) (steps_unasked p w tt)))
        (subst (λ (v : List Step). Rattle.cbm_session.proofs.headline.AlongBus.WithinAll M step peek mute place xs v k.0 es rest ss2 ⊎ Rattle.cbm_session.proofs.headline.AlongBus.PassedAll M step peek mute place xs v k.0 es n2 ss2) (sym (nobody_steps M step peek mute place p at clock)) k.1.1)
    hosts_out (ToTalker at clock) a fits plays rest more e = elim a [ ]
    hosts_out (Nothing at clock freed) a fits plays rest more e = elim a [ ]
    hosts_out (Talk at f) a fits plays rest more e = elim a [ ]

    -- A piece of a talking drive, whole or cut, that its machine answers.
    pub talkers_out : (w : Whole) (o : Option ℕ) → IsTalkers w → PieceFits p (upto o w) → IsAnswer M step peek (ms (talker_of p.seats).device) w → {n n2 : ℕ} {ss2 : List (Station M)} {es : List Event} → Plays M step peek n xs es n2 ss2 → (rest : List Event) → Compat (piece_steps p (upto o w)) (es ++ rest)
        → Out (upto o w) es n2 ss2
    talkers_out (PullPiece at) o a fits answer plays rest meets = elim a [ ]
    talkers_out (Command f) o a fits answer plays rest meets = elim a [ ]
    talkers_out (Byte eoi f) o a fits answer plays rest meets = elim a [ ]
    talkers_out (ToListener at) o a fits answer plays rest meets = elim a [ ]
    talkers_out (ToNobody at clock) o a fits answer plays rest meets = elim a [ ]
    talkers_out (ToTalker at clock) o a fits answer {n2 = n2} {ss2 = ss2} {es = es} plays rest meets =
        let w = ToTalker at clock in
        let whole = upto_fits p o w fits in
        let placed = rises_placed M step peek place p.seats here.rises in
        let says : ℕ → Option (ℕ × Bool) = λ d. peek (step (ms d) Released) in
        let t = the_seat place p p.seats xs here.stand whole.0.talker in
        let answered = all_with place ms (turns.Answers M step peek says place) (λ s x e r. ap (λ (m : M). peek (step m Released)) e) p p.seats xs here.stand here.ran in
        let k = to_talker_on_bus M step peek says place p t.0 t.1.0 t.1.1 at clock placed here.rises xs (restand M step peek says place p p.seats xs here.stand) answered o fits (answer.0, ap (λ (b : Party). says b.device) (sym t.1.2) ∙ answer.1) plays rest meets in
        come_to M step peek place (bytes_last M step peek place plays) says p (upto o w) xs k.0 es rest n2 k.1.0 here.rises (piece_tidy M step peek place p (upto o w) fits placed (upto_last p o w (unasked_last (steps_of p w) (steps_unasked p w tt)))) k.1.1
    talkers_out (Nothing at clock freed) o a fits answer {n2 = n2} {ss2 = ss2} {es = es} plays rest meets =
        let w = Nothing at clock freed in
        let whole = upto_fits p o w fits in
        let placed = rises_placed M step peek place p.seats here.rises in
        let says : ℕ → Option (ℕ × Bool) = λ d. peek (step (ms d) Released) in
        let t = the_seat place p p.seats xs here.stand whole.0.talker in
        let answered = all_with place ms (turns.Answers M step peek says place) (λ s x e r. ap (λ (m : M). peek (step m Released)) e) p p.seats xs here.stand here.ran in
        let last : LastSaid (turn_begins at (mutes p at clock freed)) = begins_last at (mutes p at clock freed) (turn_last (device t.0) (mutes p at clock freed) (mute_turn p t.0 t.1.0 t.1.1 at clock freed)) in
        let k = nothing_on_bus M step peek says place p t.0 t.1.0 t.1.1 at clock placed here.rises xs (restand M step peek says place p p.seats xs here.stand) answered freed o fits (ap (λ (b : Party). says b.device) (sym t.1.2) ∙ answer) plays rest meets in
        come_to M step peek place (bytes_last M step peek place plays) says p (upto o w) xs k.0 es rest n2 k.1.0 here.rises (piece_tidy M step peek place p (upto o w) fits placed (upto_last p o w (subst LastSaid (sym (mute_steps p at clock freed (omega (arith, whole.1)))) last))) k.1.1
      where
        begins_last : (at : ℕ) (ys : List Step) → LastSaid ys → LastSaid (turn_begins at ys)
        begins_last at [] l = (tt, tt)
        begins_last at (y ∷ ys) l = (tt, (tt, l))
    talkers_out (Talk at f) o a fits answer {n2 = n2} {ss2 = ss2} {es = es} plays rest meets =
        let w = Talk at f in
        let whole : Fits p (Talk at f) = upto_fits p o w fits in
        let placed = rises_placed M step peek place p.seats here.rises in
        let says : ℕ → Option (ℕ × Bool) = λ d. peek (ms d) in
        let t = the_seat place p p.seats xs here.stand (here.leads at whole.0).talker in
        let telling = all_with place ms (Telling M step peek says place) (λ s x e r. ap peek e) p p.seats xs here.stand here.ran in
        let is = frame_steps M step peek says place p at t.0 t.1.0 t.1.1 f whole in
        let k = talk_on_bus M step peek says place p at t.0 t.1.0 t.1.1 f o fits (ap (λ (b : Party). says b.device) (sym t.1.2) ∙ answer) placed here.rises xs (restand M step peek says place p p.seats xs here.stand) telling plays rest meets in
        come_to M step peek place (bytes_last M step peek place plays) says p (upto o w) xs k.0 es rest n2 k.1.0 here.rises (piece_tidy M step peek place p (upto o w) fits placed (upto_last p o w (subst LastSaid (sym is) (told_last t.0.party at f)))) k.1.1

    -- ATN's pull: the host's next change is at its moment, or all have still to answer; or all are after it.
    pub record PullInside (at : ℕ) (es : List Event) (ss2 : List (Station M)) : Type 0 where
      pub fin : List (Rattle.cbm_session.specs.Among.Rest × Rattle.cbm_iec.specs.declared.port.Port.Port)
      pub so : PullWithin M step peek mute place at xs (steps_of p (PullPiece at)) fin es ss2

    pub pull_out : (at : ℕ) → Fits p (PullPiece at) → {n n2 : ℕ} {ss2 : List (Station M)} {es : List Event} → Plays M step peek n xs es n2 ss2 → (rest more : List Event) → es ++ rest ≡ events_of (steps_of p (PullPiece at)) ++ more → NextHost (at + 60) more
        → PullInside at es ss2 ⊎ Afterwards M step peek place (whole_point p (PullPiece at)) xs (steps_of p (PullPiece at)) es n2 ss2
    pull_out at fits {n2 = n2} {ss2 = ss2} {es = es} plays rest more e next =
        let show = all_showing p.place refl in
        let k = pull_on_bus M step peek mute place p at fits here.rises xs here.stand show plays rest more e next in
        elim k.so [
          | inl w ↦ inl (record { fin = k.fin; so = w })
          | inr w ↦ inr (
              let there = stand_so M step peek mute place (whole_point p (PullPiece at)) (map (λ s. Rattle.cbm_session.proofs.reading.PieceReadings.next_seat (PullPiece at) s) p.seats) k.fin w.there k.ends w.ends in
              record { more = w.more; now = w.now; there = w.there; shown_so = w.shown_so; plays = w.plays; stand = there; show = in_hold (whole_point p (PullPiece at)).seats w.there there; ran = w.ran }
              )
        ]
      where
        quiet_shows : (x : Station M) → port_due x.port ≡ None → (t : ℕ) → port_due x.port ≡ Some t → Rattle.cbm_session.specs.Playing.shown M step peek t x ≡ [] → ⊥
        quiet_shows x q t d e = let c : Some t ≡ None = sym d ∙ q in cc

        open_show : (ss : List Seat) (zs : List (Station M)) → Stood M step peek place p ss zs → ((r : Role) (side : Side) → SideAmong p.place r side → side_due side ≡ None) → AllShow M step peek mute place zs
        open_show [] [] h f = tt
        open_show [] (z ∷ zs) h f = elim h [ ]
        open_show (s ∷ ss) [] h f = elim h [ ]
        open_show (s ∷ ss) (z ∷ zs) h f = (quiet_shows z (f s.role z.port.side h.0.stands.side), open_show ss zs h.1 f)

        in_hold : (ss : List Seat) (zs : List (Station M)) → Stood M step peek place (whole_point p (PullPiece at)) ss zs → AllShow M step peek mute place zs
        in_hold [] [] h = tt
        in_hold [] (z ∷ zs) h = elim h [ ]
        in_hold (s ∷ ss) [] h = elim h [ ]
        in_hold (s ∷ ss) (z ∷ zs) h = (quiet_shows z (ap (λ (v : Side). side_due v) h.0.stands.side), in_hold ss zs h.1)

        all_showing : (q : BusPlace) → p.place ≡ q → AllShow M step peek mute place xs
        all_showing Open e = open_show p.seats xs here.stand (λ r side h. done_due side (subst (λ (v : BusPlace). SideAmong v r side) e h))
        all_showing (Commanding some) e = absurd (subst (λ (v : BusPlace). Rattle.cbm_session.specs.Pieces.PullFits p at v) e fits)
        all_showing Listening e = open_show p.seats xs here.stand (λ r side h. listening_due r side (subst (λ (v : BusPlace). SideAmong v r side) e h))
        all_showing (Leading t) e = absurd (subst (λ (v : BusPlace). Rattle.cbm_session.specs.Pieces.PullFits p at v) e fits)
        all_showing (Cutting c) e = here.show c e
