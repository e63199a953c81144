-- ATN's release to listeners, or to nobody, on a bus: the host frees ATN, and from there on the drives go with the rest.
use Rattle.std.proofs.Common.{◌≡◌, ℕ, zero, ◌+◌, ◌⊎◌, inl, inr, Bool, true, false, List, [], ◌∷◌, ◌++◌, map, Option, Some, None, ap, sym, ◌∙◌, subst, arith, refl}
use Rattle.cbm_iec.specs.Ports.{side_due, port_due, told, told_act}
use Rattle.cbm_iec.specs.declared.machine.Act.TheVariants.{Released}
use Rattle.cbm_iec.specs.declared.machine.Act.{Act}
use Rattle.cbm_iec.specs.declared.ear.Ear.TheVariants.{Leaving, Holding}
use Rattle.cbm_iec.specs.declared.ear.Ear.{Ear}
use Rattle.cbm_iec.specs.declared.event.Event.{Event}
use Rattle.cbm_iec.specs.declared.event.Who.TheVariants.{Host}
use Rattle.cbm_iec.specs.declared.lines.Change.{Change}
use Rattle.cbm_iec.specs.declared.lines.Line.TheVariants.{Atn, Clock}
use Rattle.cbm_iec.specs.declared.lines.Line.{Line}
use Rattle.cbm_iec.specs.declared.lines.Way.TheVariants.{Free}
use Rattle.cbm_iec.specs.declared.lines.Way.{Way}
use Rattle.cbm_iec.specs.declared.lines.Held.{Held}
use Rattle.cbm_iec.specs.declared.party.Party.{Party}
use Rattle.cbm_iec.specs.declared.party.Role.TheVariants.{Absent, Listener, Talker}
use Rattle.cbm_iec.specs.declared.party.Role.{Role}
use Rattle.cbm_iec.specs.declared.port.Port.{Port}
use Rattle.cbm_iec.specs.declared.port.Side.TheVariants.{Hearing}
use Rattle.cbm_iec.specs.declared.port.Side.{Side}
use Rattle.cbm_session.proofs.alone.Frames.{done_due, stands}
use Rattle.cbm_session.proofs.among.Around.{every_merge, every_each, merge_drives}
use Rattle.cbm_session.proofs.among.Calm.{Every}
use Rattle.cbm_session.proofs.among.Frames.{in_hold}
use Rattle.cbm_session.proofs.among.Fronts.{steps_order, follows_drive, follows_wires}
use Rattle.cbm_session.proofs.among.Points.{next_party, whole_sound, commanding_rest, each_seat}
use Rattle.cbm_session.proofs.among.Sessions.{piece_among, left_is}
use Rattle.cbm_session.proofs.among.Standing.{IsSound}
use Rattle.cbm_session.proofs.among.Turns.{commanding_port, drives_of, late_drives, listener_steps}
use Rattle.cbm_session.proofs.headline.AlongBus.{GoesSo, AllGo, OwnedIn, devs_tell, ran_tell, RisingIn, IsPlain, WithinAll, PassedAll, along_bus}
use Rattle.cbm_session.proofs.headline.BusActs.{ran_then, ran_stays}
use Rattle.cbm_session.proofs.headline.BusStep as bus
use Rattle.cbm_session.proofs.headline.BusStep.{Tied}
use Rattle.cbm_session.proofs.headline.FrameBus.{ear_asks, StandsSo, AllStand, AllEnd, OfFrame, frame_noatn, frame_last, frame_others, devs_are, steps_owned, twin_self, listening_due}
use Rattle.cbm_session.proofs.headline.GoesOf.{OthersData, goes_of}
use Rattle.cbm_session.proofs.headline.Meeting.{Meets, Compat, AsksFor}
use Rattle.cbm_session.proofs.headline.SideStates.{EarHolds, SideHolds, SideAsks}
use Rattle.cbm_session.proofs.headline.TalkSwap.{twin_compat}
use Rattle.cbm_session.proofs.headline.Ties.{Placed, tied_all}
use Rattle.cbm_session.proofs.joining.Merging.{AllBefore, InOrder}
use Rattle.cbm_session.proofs.joining.Orders.{host_order}
use Rattle.cbm_session.proofs.joining.Owning.{part_owned, part_order}
use Rattle.cbm_session.proofs.joining.Showing.{merge_first}
use Rattle.cbm_session.proofs.joining.Talkers.{silent_bus}
use Rattle.cbm_session.proofs.reading.OneReading.{NoAtn}
use Rattle.cbm_session.proofs.reading.PieceReadings.{next_seat}
use Rattle.cbm_session.proofs.timing.SessionOrder.{part_host, piece_goes}
use Rattle.cbm_session.specs.Among.{Rest, wires_of, after_the_host, CountsFor, FollowsAmong, tells, reacts}
use Rattle.cbm_session.specs.Buses.{rest_at, SaysAs, StandsAmong}
use Rattle.cbm_session.specs.Following.{IsInTime}
use Rattle.cbm_session.specs.Laws.{GoesOn}
use Rattle.cbm_session.specs.Pieces.{Whole, Point, let_go, host_part, own_part, steps_of, Fits, whole_point, Full, ToListener, ToNobody, Commanding}
use Rattle.cbm_session.specs.Playing.{Station, host_event, tell, Plays, stays, change, reaction}
use Rattle.cbm_session.specs.Seats.{lines, Seat, device, is_talker, has_talker}
use Rattle.cbm_session.specs.Steps.{Mark, Step, events_of, event_of, host, for_each, merge}

-- a drive that has nothing due goes on by the host
pub among_host : (says : Option (ℕ × Bool)) {r r2 : Rest} {q q2 : Port} {t : ℕ} {line : Line} {way : Way} {mark : Mark} {ss : List Step} → FollowsAmong says r q (record { event = event_of Host t line way; mark = mark } ∷ ss) r2 q2 → port_due q ≡ None
    → CountsFor q.party.device mark (told_act (wires_of (after_the_host line way r)) q) × FollowsAmong says (after_the_host line way r) (told t (wires_of (after_the_host line way r)) q) ss r2 q2
among_host says (tells i k f) n = (k, f)
among_host says (reacts t more d e sh l f) n = let k : Some t ≡ None = sym d ∙ n in absurd cc

module _ (M : Type 0) (step : M → Act → M) (peek : M → Option (ℕ × Bool)) (says : ℕ → Option (ℕ × Bool)) (place : ℕ → ℕ) where
  -- nothing is due
  abbrev pub AllQuiet : List (Station M) → Type 0
  AllQuiet [] = Unit {0}
  AllQuiet (x ∷ xs) = (port_due x.port ≡ None) × AllQuiet xs

  pub quiet_first : (t : ℕ) (before : List (Station M)) (o : Station M) (afterwards : List (Station M)) → AllQuiet (before ++ o ∷ afterwards) → port_due o.port ≡ Some t → ⊥
  quiet_first t [] o afterwards h e = let k : Some t ≡ None = sym e ∙ h.0 in cc
  quiet_first t (b ∷ before) o afterwards h e = quiet_first t before o afterwards h.1 e

  -- Where nothing is due the next event is the host's, and `more` is what comes of the play after it.
  pub peel : {n n2 : ℕ} {xs ss2 : List (Station M)} {es : List Event} → Plays M step peek n xs es n2 ss2 → AllQuiet xs → (y : Step) (ys : List Step) (c : Change) (fin : List (Rest × Port)) → y.event ≡ host_event c → AllGo M step peek says place xs (y ∷ ys) fin
      → (rest : List Event) → Compat (y ∷ ys) (es ++ rest)
      → ((more : List Event) → Plays M step peek c.moment (map (λ x. tell M step peek c x) xs) more n2 ss2 → Compat ys (more ++ rest) → WithinAll M step peek says place (map (λ x. tell M step peek c x) xs) ys fin more rest ss2 ⊎ PassedAll M step peek says place (map (λ x. tell M step peek c x) xs) ys fin more n2 ss2)
      → WithinAll M step peek says place xs (y ∷ ys) fin es rest ss2 ⊎ PassedAll M step peek says place xs (y ∷ ys) fin es n2 ss2
  peel {n} {n2} {xs} {ss2} {es} (stays b e k f) quiet y ys c fin same first rest meets afterwards =
      inl (record { front = []; back = y ∷ ys; parts = refl; shown_so = sym e; goes = subst (λ (v : List (Station M)). AllGo M step peek says place v (y ∷ ys) fin) (sym f) first; meets = subst (λ (v : List Event). Compat (y ∷ ys) (v ++ rest)) e meets; ran = ran_stays M step peek f })
  peel {n} {n2} {xs} {ss2} {es} (change x more b l i e p) quiet y ys c fin same first rest meets afterwards =
      let d : Compat (y ∷ ys) (host_event x ∷ (more ++ rest)) = subst (λ (v : List Event). Compat (y ∷ ys) (v ++ rest)) e meets in
      let met : host_event c ≡ host_event x = subst (λ (w : Event). Meets w.who w.change.moment Host x.moment (w ≡ host_event x)) same d.0 in
      let is : y.event ≡ host_event x = same ∙ met in
      let equal : c ≡ x = ap (λ (v : Event). v.change) met in
      let p2 : Plays M step peek c.moment (map (λ z. tell M step peek c z) xs) more n2 ss2 = subst (λ (v : Change). Plays M step peek v.moment (map (λ z. tell M step peek v z) xs) more n2 ss2) (sym equal) p in
      elim (afterwards more p2 (d.1 is)) [
        | inl w ↦ inl (record { front = y ∷ w.front; back = w.back; parts = ap (λ (v : List Step). y ∷ v) w.parts; shown_so = ap (λ (v : Event). v ∷ events_of w.front) is ∙ ap (λ (v : List Event). host_event x ∷ v) w.shown_so ∙ sym e; goes = w.goes; meets = w.meets; ran = ran_then M step peek (record { runs = λ ms done h. ran_tell M step peek says place ms done c y ys xs fin first same h }) w.ran })
        | inr w ↦ inr (record { more = w.more; now = w.now; there = w.there; shown_so = e ∙ ap (λ (v : List Event). host_event x ∷ v) w.shown_so ∙ ap (λ (v : Event). v ∷ (events_of ys ++ w.more)) (sym is); plays = w.plays; goes = w.goes; ran = ran_then M step peek (record { runs = λ ms done h. ran_tell M step peek says place ms done c y ys xs fin first same h }) w.ran })
      ]
  peel {n} {n2} {xs} {ss2} {es} (reaction t before o afterwards more b u f e p) quiet y ys c fin same first rest meets next =
      absurd (quiet_first t before o afterwards (subst AllQuiet u quiet) f.due)

-- a drive in hold to which ATN is freed, and that doesn't talk: it stays, or will let go of DATA
release_side : (b : Party) (at n : ℕ) (r : Role) → is_talker r ≡ false
    → (ear : Ear) × (((told at (wires_of (after_the_host Atn Free (in_hold true n))) (stands b r (lines false true) (wires_of (in_hold true n)) (Hearing Holding))).side ≡ Hearing ear) × EarHolds ear (lines false true))
release_side b at n Absent h = (Leaving (at + b.reaction), (refl, refl))
release_side b at n Listener h = (Holding, (refl, refl))
release_side b at n Talker h = absurd cc

module _ (M : Type 0) (step : M → Act → M) (peek : M → Option (ℕ × Bool)) (says : ℕ → Option (ℕ × Bool)) (place : ℕ → ℕ) where
  -- both ways that a station goes: with the whole piece, and after the host's change with the rest
  module _ (p : Point) (w : Whole) (at : ℕ) (ys : List Step) (fits : Fits p w) (attention : p.place ≡ Commanding true) (steps : steps_of p w ≡ for_each Released (host at Atn Free) ∷ ys)
      (quiet : (s : Seat) (q : Port) → StandsAmong (whole_point p w) (next_seat w s) q → port_due q ≡ None) (noatn : NoAtn ys) (mild : (d : ℕ) → OthersData d ys)
      (silent : (s : Seat) → IsSound p s → is_talker s.role ≡ false) (any : (s : Seat) (d : ℕ) → SaysAs s.role (Full w) (says d)) where
    abbrev freed : Change
    freed = (host at Atn Free).event.change

    one_released : (s : Seat) (x : Station M) → StandsSo M step peek says place p s x → (r2 : Rest) (q2 : Port) → FollowsAmong (says x.port.party.device) x.rest x.port (steps_of p w) r2 q2 → StandsAmong (whole_point p w) (next_seat w s) q2
        → GoesSo M step peek says place x (for_each Released (host at Atn Free) ∷ ys) (r2, q2) × GoesSo M step peek says place (tell M step peek freed x) ys (r2, q2)
    one_released s x h r2 q2 f there =
        let q = x.port in
        let d = q.party.device in
        let k = commanding_rest p s true h.sound attention in
        let port = commanding_port p s q true k.0 h.sound h.stands attention k.2 in
        let side : q.side ≡ Hearing Holding = ap (λ (v : Port). v.side) port in
        let own : q.own ≡ lines false true = ap (λ (v : Port). v.own) port in
        let due : port_due q ≡ None = ap (λ (v : Side). side_due v) side in
        let rest : x.rest ≡ in_hold true k.0 = h.rest ∙ k.2 in
        let seen : q.others ≡ wires_of x.rest = h.stands.others ∙ ap (λ (r : Rest). wires_of r) (sym h.rest) in
        let f2 : FollowsAmong (says d) x.rest q (for_each Released (host at Atn Free) ∷ ys) r2 q2 = subst (λ (v : List Step). FollowsAmong (says d) x.rest q v r2 q2) steps f in
        let g = among_host (says d) f2 due in
        let z = release_side s.party at k.0 s.role (silent s h.sound) in
        let same : told at (wires_of (after_the_host Atn Free x.rest)) q ≡ told at (wires_of (after_the_host Atn Free (in_hold true k.0))) (stands s.party s.role (lines false true) (wires_of (in_hold true k.0)) (Hearing Holding)) =
        ap (λ (v : Rest). told at (wires_of (after_the_host Atn Free v)) q) rest ∙ ap (λ (v : Port). told at (wires_of (after_the_host Atn Free (in_hold true k.0))) v) port in
        let now : (told at (wires_of (after_the_host Atn Free x.rest)) q).side ≡ Hearing z.0 = ap (λ (v : Port). v.side) same ∙ z.1.0 in
        let holds : SideHolds (told at (wires_of (after_the_host Atn Free x.rest)) q).side q.own = subst (λ (v : Side). SideHolds v q.own) (sym now) (subst (λ (v : Held). EarHolds z.0 v) (sym own) z.1.1) in
        let end : (t : ℕ) (zs : List Step) → port_due q2 ≡ Some t → AllBefore t zs = λ t zs e. (let none = quiet s q2 there in let c : Some t ≡ None = sym e ∙ none in absurd cc) in
        let goes = goes_of (says d) g.1 holds refl noatn (mild d) in (
          record {
            goes = bus.tells (subst (λ (o : Option ℕ). IsInTime at o) (sym due) tt) g.0 goes;
            asks = subst (λ (v : Side). SideAsks v (peek x.machine ≡ says d)) (sym side) tt;
            holds = subst (λ (v : Side). SideHolds v q.own) (sym side) (ap (λ (v : Held). v.data_low) own);
            seen = seen;
            end = λ t e. end t (for_each Released (host at Atn Free) ∷ ys) e;
          },
          record {
            goes = goes;
            asks = subst (λ (v : Side). AsksFor ys v (peek (tell M step peek freed x).machine ≡ says d)) (sym now) (ear_asks (peek (tell M step peek freed x).machine ≡ says d) z.0 ys);
            holds = holds;
            seen = refl;
            end = λ t e. end t ys e;
          },
        )

    all_released : (ss : List Seat) (xs : List (Station M)) → AllStand M step peek says place p ss xs
        → (es : List (Rest × Port)) × (AllGo M step peek says place xs (for_each Released (host at Atn Free) ∷ ys) es × AllGo M step peek says place (map (λ x. tell M step peek freed x) xs) ys es × AllEnd M step peek says place (whole_point p w) (map (λ s. next_seat w s) ss) es × AllQuiet M step peek says place xs)
    all_released [] [] h = ([], (tt, tt, tt, tt))
    all_released [] (x ∷ xs) h = elim h [ ]
    all_released (s ∷ ss) [] h = elim h [ ]
    all_released (s ∷ ss) (x ∷ xs) h =
        let st = h.0.stands in
        let q = x.port in
        let d = q.party.device in
        let z = piece_among w p s q (says d) h.0.sound st fits (any s d) in
        let p2 = whole_point p w in
        let same = next_party w s in
        let left = left_is p s q z.port (Full w) z.rest (says d) h.0.sound st fits z.follows in
        let there : StandsAmong p2 (next_seat w s) z.port = record {
          party = follows_drive (says d) z.follows ∙ st.party ∙ (sym same);
          role = z.role;
          own = z.own;
          others = follows_wires (says d) z.follows st.others ∙ ap (λ (r : Rest). wires_of r) left ∙ ap (λ (b : Party). wires_of (rest_at b.device p2)) (sym same);
          side = z.side;
        } in
        let f : FollowsAmong (says d) x.rest q (steps_of p w) z.rest z.port = subst (λ (r : Rest). FollowsAmong (says d) r q (steps_of p w) z.rest z.port) (sym h.0.rest) z.follows in
        let go = one_released s x h.0 z.rest z.port f there in
        let more = all_released ss xs h.1 in
        let k = commanding_rest p s true h.0.sound attention in
        let due : port_due q ≡ None = ap (λ (v : Port). port_due v) (commanding_port p s q true k.0 h.0.sound st attention k.2) in
        ((z.rest, z.port) ∷ more.0, ((go.0, more.1.0), (go.1, more.1.1), ((whole_sound p s w h.0.sound fits, there, left ∙ ap (λ (b : Party). rest_at b.device p2) (sym same)), more.1.2), (due, more.1.3)))

    -- A release that the drives of a bus play.
    release_on_bus : Every OfFrame ys → Placed place p.seats → RisingIn M step peek says place (map (λ s. device s) p.seats) → (xs : List (Station M)) → AllStand M step peek says place p p.seats xs
        → {n n2 : ℕ} {ss2 : List (Station M)} {es : List Event} → Plays M step peek n xs es n2 ss2 → (rest more : List Event) → es ++ rest ≡ events_of (steps_of p w) ++ more
        → (fin : List (Rest × Port)) × (AllEnd M step peek says place (whole_point p w) (map (λ s. next_seat w s) p.seats) fin × (WithinAll M step peek says place xs (for_each Released (host at Atn Free) ∷ ys) fin es rest ss2 ⊎ PassedAll M step peek says place xs (for_each Released (host at Atn Free) ∷ ys) fin es n2 ss2))
    release_on_bus frame placed rising xs stand {n} {n2} {ss2} {es} plays rest more e =
        let all = all_released p.seats xs stand in
        let ds = devs_are M step peek says place p p.seats xs stand in
        let y = for_each Released (host at Atn Free) in
        let keep = devs_tell M step peek says place freed xs ∙ ds in
        let plain : IsPlain M step peek says place (map (λ s. device s) p.seats) ys = record {
          noatn = noatn;
          last = frame_last ys frame;
          goes_on = (subst GoesOn steps (piece_goes p w fits)).1;
          order = (subst InOrder steps (steps_order p w fits)).1;
          tied = (subst (Tied place) steps (tied_all place (λ (x : Seat). own_part p w x) (part_owned p w) (part_order p w fits) (host_part p w) p.seats (part_host p w) (host_order p w fits) placed)).1;
          owned = (subst (OwnedIn M step peek says place (map (λ s. device s) p.seats)) steps (steps_owned M step peek says place p w)).1;
        } in
        let e2 : es ++ rest ≡ events_of (y ∷ ys) ++ more = e ∙ ap (λ (v : List Step). events_of v ++ more) steps in
        let meets : Compat (y ∷ ys) (es ++ rest) = subst (λ (v : List Event). Compat (y ∷ ys) v) (sym e2) (twin_compat zero (y ∷ ys) (y ∷ ys) more (twin_self zero (y ∷ ys))) in
        (all.0, (all.1.2, peel M step peek says place plays all.1.3 y ys freed all.0 refl all.1.0 rest meets (λ more p1 c1. along_bus M step peek says place p1 ys all.0 all.1.1 (subst (λ (v : List ℕ). RisingIn M step peek says place v) (sym keep) rising) (subst (λ (v : List ℕ). IsPlain M step peek says place v ys) (sym keep) plain) rest c1)))

  no_talker : (p : Point) (s : Seat) → IsSound p s → has_talker p.seats ≡ false → is_talker s.role ≡ false
  no_talker p s h e = silent_bus (device s) p.seats s h.seated.sits e

  let_go_frame : (at : ℕ) (x : Seat) (r : Role) → Every OfFrame (elim r as (λ q. List Step) [ Absent ↦ let_go at x | Listener ↦ [] | Talker ↦ [] ])
  let_go_frame at x Absent = ((refl, tt, refl), tt)
  let_go_frame at x Listener = tt
  let_go_frame at x Talker = tt

  pub to_listener_on_bus : (p : Point) (at : ℕ) → Fits p (ToListener at) → Placed place p.seats → RisingIn M step peek says place (map (λ s. device s) p.seats) → (xs : List (Station M)) → AllStand M step peek says place p p.seats xs
      → {n n2 : ℕ} {ss2 : List (Station M)} {es : List Event} → Plays M step peek n xs es n2 ss2 → (rest more : List Event) → es ++ rest ≡ events_of (steps_of p (ToListener at)) ++ more
      → (fin : List (Rest × Port)) × (AllEnd M step peek says place (whole_point p (ToListener at)) (map (λ s. next_seat (ToListener at) s) p.seats) fin × (WithinAll M step peek says place xs (for_each Released (host at Atn Free) ∷ drives_of p (ToListener at)) fin es rest ss2 ⊎ PassedAll M step peek says place xs (for_each Released (host at Atn Free) ∷ drives_of p (ToListener at)) fin es n2 ss2))
  to_listener_on_bus p at fits placed rising xs stand plays rest more e =
      release_on_bus p (ToListener at) at (drives_of p (ToListener at)) fits fits.commanding (listener_steps p at) quiet (frame_noatn (drives_of p (ToListener at)) frame) (λ d. frame_others d (drives_of p (ToListener at)) frame) (λ s h. no_talker p s h fits.talker) any frame placed rising xs stand plays rest more e
    where
      frame : Every OfFrame (drives_of p (ToListener at))
      frame = every_each OfFrame (λ (x : Seat). own_part p (ToListener at) x) [] p.seats tt (each_seat (λ x. Every OfFrame (own_part p (ToListener at) x)) p.seats (λ (x : Seat). let_go_frame at x x.role))

      quiet : (s : Seat) (q : Port) → StandsAmong (whole_point p (ToListener at)) (next_seat (ToListener at) s) q → port_due q ≡ None
      quiet s q st = listening_due (next_seat (ToListener at) s).role q.side st.side

      any : (s : Seat) (d : ℕ) → SaysAs s.role (Full (ToListener at)) (says d)
      any s d = go s.role
        where
          go : (r : Role) → SaysAs r (Full (ToListener at)) (says d)
          go Absent = tt
          go Listener = tt
          go Talker = tt

  -- to nobody: the host frees CLOCK then
  abbrev pub nobody_rest : Point → ℕ → ℕ → List Step
  nobody_rest p at clock = merge (host clock Clock Free ∷ []) (drives_of p (ToNobody at clock))

  pub nobody_steps : (p : Point) (at clock : ℕ) → steps_of p (ToNobody at clock) ≡ for_each Released (host at Atn Free) ∷ nobody_rest p at clock
  nobody_steps p at clock =
      merge_drives (λ x. own_part p (ToNobody at clock) x) (for_each Released (host at Atn Free) ∷ host clock Clock Free ∷ []) p.seats
      ∙ merge_first (for_each Released (host at Atn Free)) (host clock Clock Free ∷ []) (drives_of p (ToNobody at clock)) (late_drives at (λ x. own_part p (ToNobody at clock) x) p.seats (λ (x : Seat). (omega arith, tt)))

  pub to_nobody_on_bus : (p : Point) (at clock : ℕ) → Fits p (ToNobody at clock) → Placed place p.seats → RisingIn M step peek says place (map (λ s. device s) p.seats) → (xs : List (Station M)) → AllStand M step peek says place p p.seats xs
      → {n n2 : ℕ} {ss2 : List (Station M)} {es : List Event} → Plays M step peek n xs es n2 ss2 → (rest more : List Event) → es ++ rest ≡ events_of (steps_of p (ToNobody at clock)) ++ more
      → (fin : List (Rest × Port)) × (AllEnd M step peek says place (whole_point p (ToNobody at clock)) (map (λ s. next_seat (ToNobody at clock) s) p.seats) fin × (WithinAll M step peek says place xs (for_each Released (host at Atn Free) ∷ nobody_rest p at clock) fin es rest ss2 ⊎ PassedAll M step peek says place xs (for_each Released (host at Atn Free) ∷ nobody_rest p at clock) fin es n2 ss2))
  to_nobody_on_bus p at clock fits placed rising xs stand plays rest more e =
      release_on_bus p (ToNobody at clock) at (nobody_rest p at clock) fits fits.0.commanding (nobody_steps p at clock) quiet (frame_noatn (nobody_rest p at clock) frame) (λ d. frame_others d (nobody_rest p at clock) frame) (λ s h. no_talker p s h fits.0.talker) any frame placed rising xs stand plays rest more e
    where
      frame : Every OfFrame (nobody_rest p at clock)
      frame = every_merge OfFrame (host clock Clock Free ∷ []) (drives_of p (ToNobody at clock)) ((refl, tt, tt), tt) (every_each OfFrame (λ (x : Seat). own_part p (ToNobody at clock) x) [] p.seats tt (each_seat (λ x. Every OfFrame (own_part p (ToNobody at clock) x)) p.seats (λ (x : Seat). ((refl, tt, refl), tt))))

      quiet : (s : Seat) (q : Port) → StandsAmong (whole_point p (ToNobody at clock)) (next_seat (ToNobody at clock) s) q → port_due q ≡ None
      quiet s q st = done_due q.side st.side

      any : (s : Seat) (d : ℕ) → SaysAs s.role (Full (ToNobody at clock)) (says d)
      any s d = go s.role
        where
          go : (r : Role) → SaysAs r (Full (ToNobody at clock)) (says d)
          go Absent = tt
          go Listener = tt
          go Talker = tt
