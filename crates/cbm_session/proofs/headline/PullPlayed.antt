-- ATN's pull on a bus, from a point of a session at which it may come: the play is in the pull, or after it with each drive as the session has it.
use Rattle.std.proofs.Common.{◌≡◌, ℕ, ◌+◌, ◌≤◌, ◌⊎◌, inl, inr, Bool, true, false, List, [], ◌∷◌, ◌++◌, map, append_assoc, Option, Some, ap, sym, ◌∙◌, subst, arith, refl}
use Rattle.std.specs.Prelude.{if◌then◌else◌}
use Rattle.cbm_iec.specs.Hearing.{is_same}
use Rattle.cbm_iec.specs.Ports.{port_due, turned_side, lined_side, told, told_act}
use Rattle.cbm_iec.specs.declared.machine.Act.TheVariants.{Pulled}
use Rattle.cbm_iec.specs.declared.machine.Act.{Act}
use Rattle.cbm_iec.specs.declared.ear.Ear.TheVariants.{Starting}
use Rattle.cbm_iec.specs.declared.event.Event.{Event}
use Rattle.cbm_iec.specs.declared.event.Who.TheVariants.{Host, Drive}
use Rattle.cbm_iec.specs.declared.lines.Change.{Change}
use Rattle.cbm_iec.specs.declared.lines.Line.TheVariants.{Atn}
use Rattle.cbm_iec.specs.declared.lines.Way.TheVariants.{Pull}
use Rattle.cbm_iec.specs.declared.lines.Lines.{Lines}
use Rattle.cbm_iec.specs.declared.party.Party.{Party}
use Rattle.cbm_iec.specs.declared.party.Role.TheVariants.{Absent, Listener, Talker}
use Rattle.cbm_iec.specs.declared.party.Role.{Role}
use Rattle.cbm_iec.specs.declared.port.Port.{Port}
use Rattle.cbm_iec.specs.declared.port.Side.TheVariants.{Hearing}
use Rattle.cbm_session.proofs.alone.Pieces.{pull_out}
use Rattle.cbm_session.proofs.among.Calm.{Every}
use Rattle.cbm_session.proofs.among.Fronts.{follows_drive, follows_wires}
use Rattle.cbm_session.proofs.among.Points.{next_party, whole_sound}
use Rattle.cbm_session.proofs.among.Pulls.{pull_in_time, pull_host, pull_steps, pull_drives}
use Rattle.cbm_session.proofs.among.Sessions.{piece_among, left_is}
use Rattle.cbm_session.proofs.headline.AlongBus.{RisingIn, devs, devs_tell}
use Rattle.cbm_session.proofs.headline.BusActs.{ran_stays}
use Rattle.cbm_session.proofs.headline.FrameBus.{AllStand, AllEnd, devs_are}
use Rattle.cbm_session.proofs.headline.Meeting.{first_append, first_shown}
use Rattle.cbm_session.proofs.headline.PullBus.{event_head, event_tail, NextHost, Waits, AllOf, OfHost, PullWithin, PullPassed, counted_ran, along_host, host_first_within, host_first_passed}
use Rattle.cbm_session.proofs.headline.PullSettled.{among_told}
use Rattle.cbm_session.proofs.joining.Seating.{Sits}
use Rattle.cbm_session.proofs.reading.PieceReadings.{next_seat}
use Rattle.cbm_session.specs.Among.{Rest, wires_of, after_the_host, CountsFor, FollowsAmong}
use Rattle.cbm_session.specs.Buses.{rest_at, SaysAs, StandsAmong}
use Rattle.cbm_session.specs.Following.{IsInTime}
use Rattle.cbm_session.specs.Laws.{SeatsReact}
use Rattle.cbm_session.specs.Pieces.{Point, own_part, steps_of, Fits, whole_point, PullPiece, Full}
use Rattle.cbm_session.specs.Playing.{Station, host_event, drive_events, tell, shown, AllInTime, Plays, stays, change, reaction}
use Rattle.cbm_session.specs.Seats.{Seat, device}
use Rattle.cbm_session.specs.Steps.{Step, events_of, host, for_each, merge_all}

pub sits_react : (d : ℕ) (seats : List Seat) (s : Seat) → Sits d seats s → SeatsReact seats → (1 ≤ s.party.reaction) × (s.party.reaction ≤ 60)
sits_react d [] s h r = elim h [ ]
sits_react d (x ∷ xs) s (inl h) r = (subst (λ (v : Seat). 1 ≤ v.party.reaction) h.0 r.0, subst (λ (v : Seat). v.party.reaction ≤ 60) h.0 r.1)
sits_react d (x ∷ xs) s (inr h) r = sits_react d xs s h.1 r.2

module _ (M : Type 0) (step : M → Act → M) (peek : M → Option (ℕ × Bool)) (says : ℕ → Option (ℕ × Bool)) (place : ℕ → ℕ) where
  -- each reaction that is due shows: so it is at rest, in hold, and where a piece was cut
  abbrev pub AllShow : List (Station M) → Type 0
  AllShow [] = Unit {0}
  AllShow (x ∷ xs) = ((t : ℕ) → port_due x.port ≡ Some t → shown M step peek t x ≡ [] → ⊥) × AllShow xs

  pub show_among : (before : List (Station M)) (o : Station M) (afterwards : List (Station M)) → AllShow (before ++ o ∷ afterwards) → (t : ℕ) → port_due o.port ≡ Some t → shown M step peek t o ≡ [] → ⊥
  show_among [] o afterwards h = h.0
  show_among (b ∷ before) o afterwards h = show_among before o afterwards h.1

  module _ (p : Point) (at : ℕ) (fits : Fits p (PullPiece at)) where
    abbrev the_pull : Change
    the_pull = (host at Atn Pull).event.change

    abbrev drives : List Step
    drives = merge_all [] (map (λ (x : Seat). own_part p (PullPiece at) x) p.seats)

    abbrev hosts : List Step
    hosts = pull_host p.host.clock_low p.host.data_low at

    abbrev first : Step
    first = for_each Pulled (host at Atn Pull)

    hosts_only : Every (OfHost M step peek says place at) hosts
    hosts_only = go p.host.clock_low p.host.data_low
      where
        go : (c d : Bool) → Every (OfHost M step peek says place at) (pull_host c d at)
        go true true = ((refl, refl, refl), tt)
        go true false = tt
        go false true = ((refl, refl, refl), ((refl, refl, refl), tt))
        go false false = ((refl, refl, refl), tt)

    says_any : (r : Role) (d : ℕ) → SaysAs r (Full (PullPiece at)) (says d)
    says_any Absent d = tt
    says_any Listener d = tt
    says_any Talker d = tt

    -- told of the pull, each waits to answer it
    all_pulled : (ss : List Seat) (xs : List (Station M)) → AllStand M step peek says place p ss xs
        → (es : List (Rest × Port)) × (AllOf M step peek says place at (λ x e. Waits M step peek says place at x (hosts ++ drives) e) (map (λ x. tell M step peek the_pull x) xs) es
        × AllOf M step peek says place at (λ x e. CountsFor x.port.party.device first.mark (told_act (wires_of (after_the_host Atn Pull x.rest)) x.port)) xs es
        × AllEnd M step peek says place (whole_point p (PullPiece at)) (map (λ s. next_seat (PullPiece at) s) ss) es × AllInTime M step peek at xs)
    all_pulled [] [] h = ([], (tt, tt, tt, tt))
    all_pulled [] (x ∷ xs) h = elim h [ ]
    all_pulled (s ∷ ss) [] h = elim h [ ]
    all_pulled (s ∷ ss) (x ∷ xs) h =
        let st = h.0.stands in
        let sound = h.0.sound in
        let q = x.port in
        let d = q.party.device in
        let w = PullPiece at in
        let z = piece_among w p s q (says d) sound st fits (says_any s.role d) in
        let p2 = whole_point p w in
        let same = next_party w s in
        let left = left_is p s q z.port (Full w) z.rest (says d) sound st fits z.follows in
        let there : StandsAmong p2 (next_seat w s) z.port = record {
          party = follows_drive (says d) z.follows ∙ st.party ∙ (sym same);
          role = z.role;
          own = z.own;
          others = follows_wires (says d) z.follows st.others ∙ ap (λ (r : Rest). wires_of r) left ∙ ap (λ (b : Party). wires_of (rest_at b.device p2)) (sym same);
          side = z.side;
        } in
        let in_time : IsInTime at (port_due q) = pull_in_time p at p.place s.role q.side st.side fits in
        let f : FollowsAmong (says d) x.rest q (first ∷ (hosts ++ drives)) z.rest z.port = subst (λ (v : List Step). FollowsAmong (says d) x.rest q v z.rest z.port) (pull_steps p at) (subst (λ (r : Rest). FollowsAmong (says d) r q (steps_of p w) z.rest z.port) (sym h.0.rest) z.follows) in
        let g = among_told (says d) f in_time in
        let now = wires_of (after_the_host Atn Pull x.rest) in
        let free : q.others.atn_low ≡ false = ap (λ (v : Lines). v.atn_low) st.others ∙ pull_out p at p.place fits in
        let side : (told at now q).side ≡ Hearing (Starting (at + q.party.reaction)) = ap (λ (v : Bool). if is_same v true then lined_side q.party.reaction at q.others now q.side else turned_side at now q) free in
        let react = sits_react (device s) p.seats s sound.seated.sits sound.react in
        let reaction_is : q.party.reaction ≡ s.party.reaction = ap (λ (b : Party). b.reaction) st.party in
        let some = react.0 in
        let few = react.1 in
        let more = all_pulled ss xs h.1 in (
          (z.rest, z.port) ∷ more.0,
          (
            (
              record {
                due = at + q.party.reaction;
                starts = record { side = side; later = omega (arith, some, reaction_is); soon = omega (arith, few, reaction_is) };
                seen = refl;
                follows = g.1;
                end = z.side;
                end_low = ap (λ (r : Rest). r.host.clock_low) left;
              },
              more.1.0,
            ),
            (g.0, more.1.1),
            ((whole_sound p s w sound fits, there, left ∙ ap (λ (b : Party). rest_at b.device p2) (sym same)), more.1.2),
            (in_time, more.1.3),
          ),
        )

    -- The pull as the drives of a bus play it.
    pub record PullOnBus (xs : List (Station M)) (es : List Event) (n2 : ℕ) (ss2 : List (Station M)) : Type 0 where
      pub fin : List (Rest × Port)
      pub ends : AllEnd M step peek says place (whole_point p (PullPiece at)) (map (λ s. next_seat (PullPiece at) s) p.seats) fin
      pub so : PullWithin M step peek says place at xs (steps_of p (PullPiece at)) fin es ss2 ⊎ PullPassed M step peek says place at xs (steps_of p (PullPiece at)) fin es n2 ss2

    pub pull_on_bus : RisingIn M step peek says place (map (λ s. device s) p.seats) → (xs : List (Station M)) → AllStand M step peek says place p p.seats xs → AllShow xs → {n n2 : ℕ} {ss2 : List (Station M)} {es : List Event} → Plays M step peek n xs es n2 ss2 → (rest more : List Event)
        → es ++ rest ≡ events_of (steps_of p (PullPiece at)) ++ more → NextHost (at + 60) more → PullOnBus xs es n2 ss2
    pull_on_bus rising xs stand show {n} {n2} {ss2} {es} plays rest more e next =
        let all = all_pulled p.seats xs stand in
        let ds = devs_are M step peek says place p p.seats xs stand in
        let e2 : es ++ rest ≡ first.event ∷ (events_of (hosts ++ drives) ++ more) = e ∙ ap (λ (v : List Step). events_of v ++ more) (pull_steps p at) in
        record {
          fin = all.0;
          ends = all.1.2;
          so = subst (λ (v : List Step). PullWithin M step peek says place at xs v all.0 es ss2 ⊎ PullPassed M step peek says place at xs v all.0 es n2 ss2) (sym (pull_steps p at))
              (by_play plays all.0 all.1.0 all.1.1 all.1.3 (subst (λ (v : List ℕ). RisingIn M step peek says place v) (sym ds) rising) show e2);
        }
      where
        by_play : {n : ℕ} → Plays M step peek n xs es n2 ss2 → (fin : List (Rest × Port)) → AllOf M step peek says place at (λ x e. Waits M step peek says place at x (hosts ++ drives) e) (map (λ x. tell M step peek the_pull x) xs) fin
            → AllOf M step peek says place at (λ x e. CountsFor x.port.party.device first.mark (told_act (wires_of (after_the_host Atn Pull x.rest)) x.port)) xs fin → AllInTime M step peek at xs → RisingIn M step peek says place (devs M step peek says place xs) → AllShow xs
            → es ++ rest ≡ first.event ∷ (events_of (hosts ++ drives) ++ more) → PullWithin M step peek says place at xs (first ∷ (hosts ++ drives)) fin es ss2 ⊎ PullPassed M step peek says place at xs (first ∷ (hosts ++ drives)) fin es n2 ss2
        by_play (stays b k l f) fin w c i r s j =
            inl (record {
              front = [];
              back = first ∷ (hosts ++ drives);
              parts = refl;
              shown_so = sym k;
              state = inl (record { next = first; others = hosts ++ drives; is = refl; who = refl; moment = refl; in_time = subst (λ (v : List (Station M)). AllInTime M step peek at v) (sym f) i; begun = inl refl });
              ran = ran_stays M step peek f;
            })
        by_play (change x moreE b l i k q) fin w c t r s j =
            let whole : host_event x ∷ (moreE ++ rest) ≡ first.event ∷ (events_of (hosts ++ drives) ++ more) = sym (ap (λ (v : List Event). v ++ rest) k) ∙ j in
            let same : first.event ≡ host_event x = sym (event_head (host_event x) first.event (moreE ++ rest) (events_of (hosts ++ drives) ++ more) whole) in
            let is : the_pull ≡ x = ap (λ (v : Event). v.change) same in
            let w2 = subst (λ (v : Change). AllOf M step peek says place at (λ x e. Waits M step peek says place at x (hosts ++ drives) e) (map (λ z. tell M step peek v z) xs) fin) is w in
            let c2 = subst (λ (v : Change). AllOf M step peek says place at (λ z e. CountsFor z.port.party.device first.mark (told_act (wires_of (after_the_host v.line v.way z.rest)) z.port)) xs fin) is c in
            let keep = devs_tell M step peek says place x xs in
            let ran = counted_ran M step peek says place at x first xs fin c2 in
            let go = along_host M step peek says place at q hosts drives fin w2 hosts_only (pull_drives p at) (subst (λ (v : List ℕ). RisingIn M step peek says place v) (sym keep) r) rest more (event_tail (host_event x) first.event (moreE ++ rest) (events_of (hosts ++ drives) ++ more) whole) next in
            elim go [
              | inl v ↦ inl (host_first_within M step peek says place at first x same k ran v)
              | inr v ↦ inr (host_first_passed M step peek says place at first x same k ran v)
            ]
        by_play (reaction t before o afterwards moreE b u f k q) fin w c i r s j =
            let some = show_among before o afterwards (subst AllShow u s) t f.due in
            let d = o.port.party.device in
            let mine = first_append d t (drive_events d (shown M step peek t o)) (moreE ++ rest) (first_shown d t o.port.own (Rattle.cbm_iec.specs.Ports.next_held (peek o.machine) o.port) some) in
            let whole : drive_events d (shown M step peek t o) ++ (moreE ++ rest) ≡ first.event ∷ (events_of (hosts ++ drives) ++ more) = sym (append_assoc (drive_events d (shown M step peek t o)) moreE rest) ∙ sym (ap (λ (v : List Event). v ++ rest) k) ∙ j in
            let there = subst (λ (v : List Event). Rattle.cbm_session.proofs.headline.Meeting.FirstIs d t v) whole mine in
            let no : Host ≡ Drive d = there.0 in
            absurd cc
