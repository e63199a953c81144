-- The turnaround on a bus, by the answer of the talker's machine: the host pulls DATA, frees ATN, then CLOCK; the drives without a role let go, the talker leads or is silent.
use Rattle.cbm_session.proofs.alone.Frames.{done_due}
use Rattle.cbm_iec.specs.declared.pace.Pace.TheVariants.{Profile, Kernal}
use Rattle.cbm_iec.specs.declared.pace.Pace.{Pace}
use Rattle.std.proofs.Common.{◌≡◌, ℕ, ◌+◌, ◌≤◌, ◌<◌, ◌⊎◌, Bool, true, false, List, [], ◌∷◌, ◌++◌, map, Option, Some, None, ap, sym, ◌∙◌, subst, arith, refl}
use Rattle.std.specs.Prelude.{if◌then◌else◌, nat_eq, max}
use Rattle.cbm_iec.specs.Hearing.{is_same}
use Rattle.cbm_iec.specs.Machines.{acted}
use Rattle.cbm_iec.specs.Ports.{side_due, port_due, freed_side, turned_side, lined_side, lined_act, told, told_act}
use Rattle.cbm_iec.specs.declared.machine.Act.TheVariants.{Pulled, Released}
use Rattle.cbm_iec.specs.declared.machine.Act.{Act}
use Rattle.cbm_iec.specs.declared.ear.Ear.TheVariants.{Leaving, Holding}
use Rattle.cbm_iec.specs.declared.event.Event.{Event}
use Rattle.cbm_iec.specs.declared.lines.Change.{Change}
use Rattle.cbm_iec.specs.declared.lines.Line.TheVariants.{Atn, Clock, Data}
use Rattle.cbm_iec.specs.declared.lines.Way.TheVariants.{Pull, Free}
use Rattle.cbm_iec.specs.declared.lines.Held.{Held}
use Rattle.cbm_iec.specs.declared.lines.Lines.{Lines}
use Rattle.cbm_iec.specs.declared.mouth.Mouth.TheVariants.{Turned}
use Rattle.cbm_iec.specs.declared.party.Party.{Party}
use Rattle.cbm_iec.specs.declared.party.Role.TheVariants.{Absent, Listener, Talker}
use Rattle.cbm_iec.specs.declared.party.Role.{Role}
use Rattle.cbm_iec.specs.declared.port.Port.{Port}
use Rattle.cbm_iec.specs.declared.port.Side.TheVariants.{Hearing, Speaking}
use Rattle.cbm_iec.specs.declared.port.Side.{Side}
use Rattle.cbm_session.proofs.among.Around.{every_each}
use Rattle.cbm_session.proofs.among.Calm.{Every}
use Rattle.cbm_session.proofs.among.Frames.{each_sits}
use Rattle.cbm_session.proofs.among.Frames.{in_hold}
use Rattle.cbm_session.proofs.among.Points.{commanding_rest, only_talker, none_listen}
use Rattle.cbm_session.proofs.among.Pulls.{clock_held}
use Rattle.cbm_session.proofs.among.Standing.{IsSound}
use Rattle.cbm_session.proofs.among.Turns.{commanding_port}
use Rattle.cbm_session.proofs.frames.Phases.{each}
use Rattle.cbm_session.proofs.headline.AlongBus.{GoesSo, AllGo, devs, devs_tell, RisingIn, OwnedIn, IsPlain, WithinAll, PassedAll, along_bus, host_atn}
use Rattle.cbm_session.proofs.headline.BusStep as bus
use Rattle.cbm_session.proofs.headline.BusStep.{Tied}
use Rattle.cbm_session.proofs.headline.FrameBus.{ear_asks, StandsSo, AllStand, AllEnd, AllWith, devs_are}
use Rattle.cbm_session.proofs.headline.GoesOf.{DataOf, OthersData, goes_of, goes_idle, leaving}
use Rattle.cbm_session.proofs.headline.Meeting.{Compat, AsksFor, LastSaid, SaysOpen}
use Rattle.cbm_session.proofs.headline.PieceBus.{upto, seat_afterwards, follow, piece_order, steps_go, steps_tied, steps_sit, every_before, upto_fits}
use Rattle.cbm_session.proofs.headline.PullSettled.{holding_told, among_told}
use Rattle.cbm_session.proofs.headline.ReleaseBus.{AllQuiet, peel}
use Rattle.cbm_session.proofs.headline.SideStates.{SideHolds, SideAsks}
use Rattle.cbm_session.proofs.headline.TalkBus.{done_before}
use Rattle.cbm_session.proofs.headline.Ties.{Placed}
use Rattle.cbm_session.proofs.headline.TurnTwin.{turn_begins, leads, mutes, lead_steps, mute_steps}
use Rattle.cbm_session.proofs.joining.Merging.{AllBefore, InOrder, before_yes, front_before, all_sooner}
use Rattle.cbm_session.proofs.joining.Talkers.{talker_is}
use Rattle.cbm_session.proofs.reading.OneReading.{is_atn, NoAtn}
use Rattle.cbm_session.proofs.reading.PieceReadings.{next_seat}
use Rattle.cbm_session.proofs.timing.SessionOrder.{steps_done, end_by}
use Rattle.cbm_session.specs.Among.{Rest, wires_of, after_the_host, FollowsAmong}
use Rattle.cbm_session.specs.Buses.{SaysAs, SideAmong, StandsAmong}
use Rattle.cbm_session.specs.Following.{IsInTime, Says}
use Rattle.cbm_session.specs.Laws.{SeatsReact, GoesOn}
use Rattle.cbm_session.specs.Pieces.{silent_part, Whole, Piece, Point, own_part, steps_of, before, piece_steps, let_go, freed_steps, after_all_of, Fits, CutFits, PieceFits, whole_point, point_after, Full, Cut, ToTalker, Nothing, Commanding, Leading}
use Rattle.cbm_session.specs.Playing.{Station, tell, Plays}
use Rattle.cbm_session.specs.Seats.{lines, Seat, device, is_listener, is_talker, has_listener, talker_of}
use Rattle.cbm_session.specs.Steps.{Step, host, drive, for_each}

-- a step after ATN's release: no change of ATN, no byte said, and of the drives only the talker changes CLOCK
abbrev pub OfTurn : ℕ → Step → Type 0
OfTurn d s = (is_atn s.event.change.line ≡ false) × SaysOpen s.mark × DataOf d s.event.who s.event.change.line

turn_noatn : (d : ℕ) (ss : List Step) → Every (OfTurn d) ss → NoAtn ss
turn_noatn d [] a = tt
turn_noatn d (s ∷ ss) a = (a.0.0, turn_noatn d ss a.1)

pub turn_last : (d : ℕ) (ss : List Step) → Every (OfTurn d) ss → LastSaid ss
turn_last d [] a = tt
turn_last d (s ∷ []) a = tt
turn_last d (s ∷ t ∷ ss) a = (a.0.1, turn_last d (t ∷ ss) a.1)

turn_others : (d : ℕ) (ss : List Step) → Every (OfTurn d) ss → OthersData d ss
turn_others d [] a = tt
turn_others d (s ∷ ss) a = (a.0.2, turn_others d ss a.1)

freed_turn : (d : ℕ) (freed : Option ℕ) → Every (OfTurn d) (freed_steps freed)
freed_turn d None = tt
freed_turn d (Some g) = ((refl, tt, tt), tt)

module _ (p : Point) (s : Seat) (sound : IsSound p s) (talks : s.role ≡ Talker) (at clock : ℕ) where
  lead_own : (x : Seat) → (nat_eq (device s) (device x) ≡ false → is_talker x.role ≡ false) → Every (OfTurn (device s)) (own_part p (ToTalker at clock) x)
  lead_own x k = go x.role k (nat_eq (device s) (device x)) refl
    where
      go : (r : Role) → (nat_eq (device s) (device x) ≡ false → is_talker r ≡ false) → (v : Bool) → nat_eq (device s) (device x) ≡ v
          → Every (OfTurn (device s)) (elim r as (λ q. List Step) [ Absent ↦ let_go at x | Listener ↦ [] | Talker ↦ drive (device x) (clock + x.party.reaction) Clock Pull ∷ drive (device x) (clock + x.party.reaction) Data Free ∷ [] ])
      go Absent k v e = ((refl, tt, tt), tt)
      go Listener k v e = tt
      go Talker k true e = ((refl, tt, e), ((refl, tt, tt), tt))
      go Talker k false e = let c : true ≡ false = k e in absurd cc

  mute_own : (freed : Option ℕ) (x : Seat) → (nat_eq (device s) (device x) ≡ false → is_talker x.role ≡ false) → Every (OfTurn (device s)) (own_part p (Nothing at clock freed) x)
  mute_own freed x k = go x.role k (nat_eq (device s) (device x)) refl
    where
      by_pace : (e : Pace) → nat_eq (device s) (device x) ≡ true → Every (OfTurn (device s)) (silent_part e (device x) (clock + x.party.reaction))
      by_pace Profile e = ((refl, tt, tt), tt)
      by_pace Kernal e = ((refl, tt, e), ((refl, tt, e), ((refl, tt, tt), tt)))

      go : (r : Role) → (nat_eq (device s) (device x) ≡ false → is_talker r ≡ false) → (v : Bool) → nat_eq (device s) (device x) ≡ v
          → Every (OfTurn (device s)) (elim r as (λ q. List Step) [ Absent ↦ let_go at x | Listener ↦ [] | Talker ↦ silent_part x.party.pace (device x) (clock + x.party.reaction) ])
      go Absent k v e = ((refl, tt, tt), tt)
      go Listener k v e = tt
      go Talker k true e = by_pace x.party.pace e
      go Talker k false e = let c : true ≡ false = k e in absurd cc

  pub lead_turn : Every (OfTurn (device s)) (leads p at clock)
  lead_turn = every_each (OfTurn (device s)) (λ (x : Seat). own_part p (ToTalker at clock) x) (host clock Clock Free ∷ []) p.seats ((refl, tt, tt), tt)
      (each (λ x. nat_eq (device s) (device x) ≡ false → is_talker x.role ≡ false) (λ x. Every (OfTurn (device s)) (own_part p (ToTalker at clock) x)) p.seats (λ x k. lead_own x k) (only_talker (device s) p.seats s sound.seated.one sound.seated.sits (ap is_talker talks)))

  pub mute_turn : (freed : Option ℕ) → Every (OfTurn (device s)) (mutes p at clock freed)
  mute_turn freed = every_each (OfTurn (device s)) (λ (x : Seat). own_part p (Nothing at clock freed) x) (host clock Clock Free ∷ freed_steps freed) p.seats ((refl, tt, tt), freed_turn (device s) freed)
      (each (λ x. nat_eq (device s) (device x) ≡ false → is_talker x.role ≡ false) (λ x. Every (OfTurn (device s)) (own_part p (Nothing at clock freed) x)) p.seats (λ x k. mute_own freed x k) (only_talker (device s) p.seats s sound.seated.one sound.seated.sits (ap is_talker talks)))

-- what stands after all releases is before the talker's next frame
pub after_below : (at m k : ℕ) (seats : List Seat) → SeatsReact seats → m < k → at + 61 < k → after_all_of at m seats < k
after_below at m k [] r l h = l
after_below at m k (x ∷ xs) r l h = go x.role (after_below at m k xs r.2 l h)
  where
    go : (q : Role) → after_all_of at m xs < k → (elim q as (λ u. ℕ) [ Absent ↦ max (at + x.party.reaction + 1) (after_all_of at m xs) | Listener ↦ after_all_of at m xs | Talker ↦ after_all_of at m xs ]) < k
    go Absent b = let few = r.1 in omega (arith, b, h, few)
    go Listener b = b
    go Talker b = b

-- told that ATN is free
freed_told : (t : ℕ) (r r2 : Rest) (q : Port) → q.others ≡ wires_of r → (wires_of r).atn_low ≡ true → (wires_of r2).atn_low ≡ false
    → ((told t (wires_of r2) q).side ≡ freed_side q.party.reaction t (wires_of r2).clock_low q.role q.side) × (told_act (wires_of r2) q ≡ Some Released)
freed_told t r r2 q seen low free =
    let was : q.others.atn_low ≡ true = ap (λ (l : Lines). l.atn_low) seen ∙ low in
    let now = wires_of r2 in (
      ap (λ (v : Bool). if is_same v now.atn_low then lined_side q.party.reaction t q.others now q.side else turned_side t now q) was
          ∙ ap (λ (v : Bool). if v then lined_side q.party.reaction t q.others now q.side else (if v then Hearing (Rattle.cbm_iec.specs.declared.ear.Ear.TheVariants.Starting (t + q.party.reaction)) else freed_side q.party.reaction t now.clock_low q.role q.side)) free,
      ap (λ (v : Bool). if is_same v now.atn_low then lined_act q.others now q.side else Some (if now.atn_low then Pulled else Released)) was
          ∙ ap (λ (v : Bool). if v then lined_act q.others now q.side else Some (if v then Pulled else Released)) free,
    )

-- a cut after ATN's release
turn_cut : (at c : ℕ) (ys : List Step) → at + 1 ≤ c → before c (turn_begins at ys) ≡ turn_begins at (before c ys)
turn_cut at c ys l =
    before_yes c (host at Data Pull) (for_each Released (host at Atn Free) ∷ ys) (omega (arith, l))
    ∙ ap (λ (zs : List Step). host at Data Pull ∷ zs) (before_yes c (for_each Released (host at Atn Free)) ys (omega (arith, l)))

module _ (M : Type 0) (step : M → Act → M) (peek : M → Option (ℕ × Bool)) (says : ℕ → Option (ℕ × Bool)) (place : ℕ → ℕ) where
  -- what the machine of the talker has to say after ATN's release
  abbrev pub Answers : Seat → Station M → Type 0
  Answers x z = x.role ≡ Talker → peek (step z.machine Released) ≡ says z.port.party.device

  -- A turnaround that fits, with what comes after ATN's release.
  module _ (p : Point) (piece : Piece) (at : ℕ) (ys : List Step) (s : Seat) (sound : IsSound p s) (talks : s.role ≡ Talker) (fits : PieceFits p piece) (attention : p.place ≡ Commanding true) (deaf : has_listener p.seats ≡ false) (steps : piece_steps p piece ≡ turn_begins at ys)
      (kind : Every (OfTurn (device s)) ys) (later : (x : Seat) (q : Port) → StandsAmong (point_after p piece) (seat_afterwards p piece x) q → (t : ℕ) → port_due q ≡ Some t → AllBefore t (turn_begins at ys))
      (said : (x : Seat) → IsSound p x → (d : ℕ) → device x ≡ d → SaysAs x.role piece (says d)) where
    abbrev pulled : Change
    pulled = (host at Data Pull).event.change

    abbrev freed : Change
    freed = (host at Atn Free).event.change

    abbrev once : Station M → Station M
    once x = tell M step peek pulled x

    abbrev twice : Station M → Station M
    twice x = tell M step peek freed (tell M step peek pulled x)

    the_talker : (x : Seat) → IsSound p x → x.role ≡ Talker → x.party ≡ s.party
    the_talker x h r = sym (talker_is (device x) p.seats x h.seated.one h.seated.sits (ap is_talker r)) ∙ talker_is (device s) p.seats s sound.seated.one sound.seated.sits (ap is_talker talks)

    not_listening : (x : Seat) → IsSound p x → is_listener x.role ≡ false
    not_listening x h = each_sits (λ z. is_listener z.role ≡ false) (device x) p.seats x (none_listen p.seats deaf) h.seated.sits

    pub record Turned3 (x : Station M) (e : Rest × Port) : Type 0 where
      pub first : GoesSo M step peek says place x (turn_begins at ys) e
      pub second : GoesSo M step peek says place (once x) (for_each Released (host at Atn Free) ∷ ys) e
      pub third : GoesSo M step peek says place (twice x) ys e
      pub quiet : port_due x.port ≡ None
      pub still : port_due (once x).port ≡ None

    one_turned : (x : Seat) (z : Station M) → StandsSo M step peek says place p x z → (x.role ≡ Talker → peek (step z.machine Released) ≡ says z.port.party.device) → (r2 : Rest) (q2 : Port) → FollowsAmong (says z.port.party.device) z.rest z.port (piece_steps p piece) r2 q2
        → StandsAmong (point_after p piece) (seat_afterwards p piece x) q2 → Turned3 z (r2, q2)
    one_turned x z h answer r2 q2 f there =
        let q = z.port in
        let d = q.party.device in
        let k = commanding_rest p x true h.sound attention in
        let port = commanding_port p x q true k.0 h.sound h.stands attention k.2 in
        let side : q.side ≡ Hearing Holding = ap (λ (v : Port). v.side) port in
        let own : q.own ≡ lines false true = ap (λ (v : Port). v.own) port in
        let rest : z.rest ≡ in_hold true k.0 = h.rest ∙ k.2 in
        let seen : q.others ≡ wires_of z.rest = h.stands.others ∙ ap (λ (r : Rest). wires_of r) (sym h.rest) in
        let host_low : z.rest.host.clock_low ≡ true = ap (λ (r : Rest). r.host.clock_low) rest in
        let atn : (wires_of z.rest).atn_low ≡ true = ap (λ (r : Rest). r.host.atn_low) rest in
        let r1 = after_the_host Data Pull z.rest in
        let q1 = told at (wires_of r1) q in
        let low = clock_held z.rest host_low in
        let low1 = clock_held r1 host_low in
        let one = holding_told at z.rest r1 q seen (host_atn Data Pull z.rest refl) low low1 side in
        let due : port_due q ≡ None = ap (λ (v : Side). side_due v) side in
        let due1 : port_due q1 ≡ None = ap (λ (v : Side). side_due v) one.0 in
        let f0 : FollowsAmong (says d) z.rest q (turn_begins at ys) r2 q2 = subst (λ (v : List Step). FollowsAmong (says d) z.rest q v r2 q2) steps f in
        let g1 = among_told (says d) f0 (subst (λ (o : Option ℕ). IsInTime at o) (sym due) tt) in
        let g2 = among_told (says d) g1.1 (subst (λ (o : Option ℕ). IsInTime at o) (sym due1) tt) in
        let rf = after_the_host Atn Free r1 in
        let two = freed_told at r1 rf q1 refl atn refl in
        let now : (twice z).port.side ≡ freed_side q.party.reaction at true x.role (Hearing Holding) =
        two.0 ∙ ap (λ (v : Bool). freed_side q.party.reaction at v q.role q1.side) (clock_held rf host_low) ∙ ap (λ (v : Role). freed_side q.party.reaction at true v q1.side) h.stands.role ∙ ap (λ (v : Side). freed_side q.party.reaction at true x.role v) one.0 in
        let machine : (twice z).machine ≡ step z.machine Released =
        ap (λ (v : Option Act). acted M step v (once z).machine) two.1 ∙ ap (λ (v : Option Act). step (acted M step v z.machine) Released) one.1 in
        let holding : (y : Side) → y ≡ Hearing Holding → SideHolds y q.own = λ y e. subst (λ (v : Side). SideHolds v q.own) (sym e) (ap (λ (v : Held). v.data_low) own) in
        let end : (t : ℕ) → port_due q2 ≡ Some t → AllBefore t (turn_begins at ys) = later x q2 there in
        let last : GoesSo M step peek says place (twice z) ys (r2, q2) = by_role x.role refl own now answer machine g2.1 end h.sound h.stands in
        record {
          first = record {
            goes = bus.tells (subst (λ (o : Option ℕ). IsInTime at o) (sym due) tt) g1.0 (bus.tells (subst (λ (o : Option ℕ). IsInTime at o) (sym due1) tt) g2.0 last.goes);
            asks = subst (λ (v : Side). SideAsks v (peek z.machine ≡ says d)) (sym side) tt;
            holds = holding q.side side;
            seen = seen;
            end = end;
          };
          second = record {
            goes = bus.tells (subst (λ (o : Option ℕ). IsInTime at o) (sym due1) tt) g2.0 last.goes;
            asks = subst (λ (v : Side). SideAsks v (peek (once z).machine ≡ says d)) (sym one.0) tt;
            holds = holding q1.side one.0;
            seen = refl;
            end = λ t e. (end t e).1;
          };
          third = last;
          quiet = due;
          still = due1;
        }
      where
        asks_turned : (zs : List Step) → peek (twice z).machine ≡ says z.port.party.device → AsksFor zs (Speaking Turned) (peek (twice z).machine ≡ says z.port.party.device)
        asks_turned [] e = tt
        asks_turned (y ∷ zs) e = e

        by_role : (r : Role) → x.role ≡ r → z.port.own ≡ lines false true → (twice z).port.side ≡ freed_side z.port.party.reaction at true x.role (Hearing Holding) → (x.role ≡ Talker → peek (step z.machine Released) ≡ says z.port.party.device) → (twice z).machine ≡ step z.machine Released
            → FollowsAmong (says z.port.party.device) (twice z).rest (twice z).port ys r2 q2 → ((t : ℕ) → port_due q2 ≡ Some t → AllBefore t (turn_begins at ys)) → IsSound p x → StandsAmong p x z.port → GoesSo M step peek says place (twice z) ys (r2, q2)
        by_role Absent e own now answer machine f end sound2 st =
            let side : (twice z).port.side ≡ Hearing (Leaving (at + z.port.party.reaction)) = now ∙ ap (λ (v : Role). freed_side z.port.party.reaction at true v (Hearing Holding)) e in
            let holds : SideHolds (twice z).port.side (twice z).port.own = subst (λ (y : Side). SideHolds y (twice z).port.own) (sym side) (ap (λ (o : Held). o.data_low) own) in
            record {
              goes = goes_idle (says z.port.party.device) f (leaving (at + z.port.party.reaction) side) holds refl (turn_noatn (device s) ys kind);
              asks = subst (λ (y : Side). AsksFor ys y (peek (twice z).machine ≡ says z.port.party.device)) (sym side) (ear_asks (peek (twice z).machine ≡ says z.port.party.device) (Leaving (at + z.port.party.reaction)) ys);
              holds = holds;
              seen = refl;
              end = λ t d. (end t d).1.1;
            }
        by_role Listener e own now answer machine f end sound2 st = let c : true ≡ false = sym (ap is_listener e) ∙ not_listening x sound2 in absurd cc
        by_role Talker e own now answer machine f end sound2 st =
            let side : (twice z).port.side ≡ Speaking Turned = now ∙ ap (λ (v : Role). freed_side z.port.party.reaction at true v (Hearing Holding)) e in
            let holds : SideHolds (twice z).port.side (twice z).port.own = subst (λ (y : Side). SideHolds y (twice z).port.own) (sym side) (ap (λ (o : Held). o.data_low) own, ap (λ (o : Held). o.clock_low) own) in
            let device_is : device s ≡ z.port.party.device = sym (ap (λ (b : Party). b.device) (st.party ∙ (the_talker x sound2 e))) in
            record {
              goes = goes_of (says z.port.party.device) f holds refl (turn_noatn (device s) ys kind) (subst (λ (n : ℕ). OthersData n ys) device_is (turn_others (device s) ys kind));
              asks = subst (λ (y : Side). AsksFor ys y (peek (twice z).machine ≡ says z.port.party.device)) (sym side) (asks_turned ys (ap peek machine ∙ answer e));
              holds = holds;
              seen = refl;
              end = λ t d. (end t d).1.1;
            }

    all_turned : (ss : List Seat) (xs : List (Station M)) → AllStand M step peek says place p ss xs → AllWith M step peek says place Answers ss xs
        → (es : List (Rest × Port)) × (AllGo M step peek says place xs (turn_begins at ys) es × AllGo M step peek says place (map (λ x. once x) xs) (for_each Released (host at Atn Free) ∷ ys) es
        × AllGo M step peek says place (map (λ x. tell M step peek freed x) (map (λ x. once x) xs)) ys es
        × AllEnd M step peek says place (point_after p piece) (map (λ x. seat_afterwards p piece x) ss) es × AllQuiet M step peek says place xs × AllQuiet M step peek says place (map (λ x. once x) xs))
    all_turned [] [] h a = ([], (tt, tt, tt, tt, tt, tt))
    all_turned [] (z ∷ xs) h a = elim h [ ]
    all_turned (x ∷ ss) [] h a = elim h [ ]
    all_turned (x ∷ ss) (z ∷ xs) h a =
        let st = h.0.stands in
        let q = z.port in
        let d = q.party.device in
        let dev : device x ≡ d = sym (ap (λ (b : Party). b.device) st.party) in
        let v = follow p piece x q (says d) h.0.sound st fits (said x h.0.sound d dev) in
        let f : FollowsAmong (says d) z.rest q (piece_steps p piece) v.rest v.port = subst (λ (r : Rest). FollowsAmong (says d) r q (piece_steps p piece) v.rest v.port) (sym h.0.rest) v.follows in
        let go = one_turned x z h.0 a.0 v.rest v.port f v.there in
        let more = all_turned ss xs h.1 a.1 in (
          (v.rest, v.port) ∷ more.0,
          ((go.first, more.1.0), (go.second, more.1.1), (go.third, more.1.2), ((v.sound, v.there, v.is), more.1.3), (go.quiet, more.1.4), (go.still, more.1.5)),
        )

    -- The turnaround as the drives of a bus play it, as far as the host does the same.
    pub turned_on_bus : Placed place p.seats → RisingIn M step peek says place (map (λ x. device x) p.seats) → (xs : List (Station M)) → AllStand M step peek says place p p.seats xs → AllWith M step peek says place Answers p.seats xs → {n n2 : ℕ} {ss2 : List (Station M)} {es : List Event} → Plays M step peek n xs es n2 ss2
        → (rest : List Event) → Compat (turn_begins at ys) (es ++ rest)
        → (fin : List (Rest × Port)) × (AllEnd M step peek says place (point_after p piece) (map (λ x. seat_afterwards p piece x) p.seats) fin × (WithinAll M step peek says place xs (piece_steps p piece) fin es rest ss2 ⊎ PassedAll M step peek says place xs (piece_steps p piece) fin es n2 ss2))
    turned_on_bus placed rising xs stand answer {n} {n2} {ss2} {es} plays rest meets =
        let all = all_turned p.seats xs stand answer in
        let ds = devs_are M step peek says place p p.seats xs stand in
        let y2 = for_each Released (host at Atn Free) in
        let xs1 = map (λ x. once x) xs in
        let xs2 = map (λ x. tell M step peek freed x) xs1 in
        let keep : devs M step peek says place xs2 ≡ map (λ x. device x) p.seats = devs_tell M step peek says place freed xs1 ∙ devs_tell M step peek says place pulled xs ∙ ds in
        let plain : IsPlain M step peek says place (map (λ x. device x) p.seats) ys = record {
          noatn = turn_noatn (device s) ys kind;
          last = turn_last (device s) ys kind;
          goes_on = (subst GoesOn steps (steps_go p piece fits)).1.1;
          order = (subst InOrder steps (piece_order p piece fits)).1.1;
          tied = (subst (Tied place) steps (steps_tied place p piece fits placed)).1.1;
          owned = (subst (OwnedIn M step peek says place (map (λ x. device x) p.seats)) steps (steps_sit M step peek place p piece fits)).1.1;
        } in
        let out = peel M step peek says place plays all.1.4 (host at Data Pull) (y2 ∷ ys) pulled all.0 refl all.1.0 rest meets
        (λ more p1 c1. peel M step peek says place p1 all.1.5 y2 ys freed all.0 refl all.1.1 rest c1
        (λ more2 p2 c2. along_bus M step peek says place p2 ys all.0 all.1.2 (subst (λ (v : List ℕ). RisingIn M step peek says place v) (sym keep) rising) (subst (λ (v : List ℕ). IsPlain M step peek says place v ys) (sym keep) plain) rest c2)) in
        (all.0, (all.1.3, subst (λ (v : List Step). WithinAll M step peek says place xs v all.0 es rest ss2 ⊎ PassedAll M step peek says place xs v all.0 es n2 ss2) (sym steps) out))

  -- A turnaround, whole or cut: the two kinds, by the answer of the talker's machine.
  module _ (p : Point) (s : Seat) (sound : IsSound p s) (talks : s.role ≡ Talker) (at clock : ℕ) where
    talker : talker_of p.seats ≡ s.party
    talker = talker_is (device s) p.seats s sound.seated.one sound.seated.sits (ap is_talker talks)

    -- after the answer of a talker that leads all is done before its next frame
    lead_later : Fits p (ToTalker at clock) → (x : Seat) (q : Port) → StandsAmong (whole_point p (ToTalker at clock)) (next_seat (ToTalker at clock) x) q → (t : ℕ) → port_due q ≡ Some t → AllBefore t (turn_begins at (leads p at clock))
    lead_later fits x q st t e = go (next_seat (ToTalker at clock) x).role st.side
      where
        go : (r : Role) → SideAmong (Leading (clock + (talker_of p.seats).reaction + 80)) r q.side → AllBefore t (turn_begins at (leads p at clock))
        go Absent h = let k : Some t ≡ None = sym e ∙ ap (λ (v : Side). side_due v) h in absurd cc
        go Listener h = elim h [ ]
        go Talker h =
            let k : Some t ≡ Some (clock + (talker_of p.seats).reaction + 80) = sym e ∙ ap (λ (v : Side). side_due v) h in
            let is : t ≡ clock + (talker_of p.seats).reaction + 80 = cc in
            let late = fits.1 in
            let below = after_below at (clock + (talker_of p.seats).reaction + 1) t p.seats sound.react (omega (arith, is)) (omega (arith, is, late)) in
            subst (AllBefore t) (lead_steps p at clock (omega (arith, fits.1))) (done_before (end_by p (ToTalker at clock)) t (steps_of p (ToTalker at clock)) below (steps_done p s (ToTalker at clock) sound fits))

    -- what it has to say is what the piece has
    said_so : (w : Whole) (o : Option ℕ) → Says w (says (device s)) → (x : Seat) → IsSound p x → (d : ℕ) → device x ≡ d → SaysAs x.role (upto o w) (says d)
    said_so w o k x h d e = go o x.role refl
      where
        same : x.role ≡ Talker → says d ≡ says (device s)
        same r = ap says (sym e) ∙ ap (λ (b : Party). says b.device) (sym (talker_is (device x) p.seats x h.seated.one h.seated.sits (ap is_talker r)) ∙ talker)

        go : (o : Option ℕ) (r : Role) → x.role ≡ r → SaysAs r (upto o w) (says d)
        go None Absent r = tt
        go None Listener r = tt
        go None Talker r = subst (Says w) (sym (same r)) k
        go (Some c) Absent r = tt
        go (Some c) Listener r = tt
        go (Some c) Talker r = subst (Says w) (sym (same r)) k

    module _ (placed : Placed place p.seats) (rising : RisingIn M step peek says place (map (λ x. device x) p.seats)) (xs : List (Station M)) (stand : AllStand M step peek says place p p.seats xs) (answer : AllWith M step peek says place Answers p.seats xs) where
      -- of a cut nothing is due before it
      cut_later : (w : Whole) (c : ℕ) (ys : List Step) → before c (steps_of p w) ≡ turn_begins at ys → (x : Seat) (q : Port) → StandsAmong (point_after p (Cut w c)) (seat_afterwards p (Cut w c) x) q → (t : ℕ) → port_due q ≡ Some t → AllBefore t (turn_begins at ys)
      cut_later w c ys e x q st t d = let late : c ≤ t = subst (λ (o : Option ℕ). IsInTime c o) d st.side in all_sooner c t (turn_begins at ys) late (subst (AllBefore c) e (front_before c (steps_of p w)))

      turn_on_bus : (w : Whole) (o : Option ℕ) (ys : List Step) → PieceFits p (upto o w) → p.place ≡ Commanding true → has_listener p.seats ≡ false → steps_of p w ≡ turn_begins at ys → ((c : ℕ) → CutFits p w c → at + 1 ≤ c) → Every (OfTurn (device s)) ys
          → ((x : Seat) (q : Port) → StandsAmong (whole_point p w) (next_seat w x) q → (t : ℕ) → port_due q ≡ Some t → AllBefore t (turn_begins at ys)) → Says w (says (device s))
          → {n n2 : ℕ} {ss2 : List (Station M)} {es : List Event} → Plays M step peek n xs es n2 ss2 → (rest : List Event) → Compat (piece_steps p (upto o w)) (es ++ rest)
          → (fin : List (Rest × Port)) × (AllEnd M step peek says place (point_after p (upto o w)) (map (λ x. seat_afterwards p (upto o w) x) p.seats) fin
          × (WithinAll M step peek says place xs (piece_steps p (upto o w)) fin es rest ss2 ⊎ PassedAll M step peek says place xs (piece_steps p (upto o w)) fin es n2 ss2))
      turn_on_bus w None ys fits attention deaf steps cut kind later k {es = es} plays rest meets =
          turned_on_bus p (Full w) at ys s sound talks fits attention deaf steps kind later (said_so w None k) placed rising xs stand answer plays rest (subst (λ (l : List Step). Compat l (es ++ rest)) steps meets)
      turn_on_bus w (Some c) ys fits attention deaf steps cut kind later k {es = es} plays rest meets =
          let is = ap (λ (l : List Step). before c l) steps ∙ turn_cut at c ys (cut c fits.1) in
          turned_on_bus p (Cut w c) at (before c ys) s sound talks fits attention deaf is (every_before (OfTurn (device s)) c ys kind) (cut_later w c (before c ys) is) (said_so w (Some c) k) placed rising xs stand answer plays rest (subst (λ (l : List Step). Compat l (es ++ rest)) is meets)

      pub to_talker_on_bus : (o : Option ℕ) → PieceFits p (upto o (ToTalker at clock)) → Says (ToTalker at clock) (says (device s)) → {n n2 : ℕ} {ss2 : List (Station M)} {es : List Event} → Plays M step peek n xs es n2 ss2 → (rest : List Event) → Compat (piece_steps p (upto o (ToTalker at clock))) (es ++ rest)
          → (fin : List (Rest × Port)) × (AllEnd M step peek says place (point_after p (upto o (ToTalker at clock))) (map (λ x. seat_afterwards p (upto o (ToTalker at clock)) x) p.seats) fin
          × (WithinAll M step peek says place xs (piece_steps p (upto o (ToTalker at clock))) fin es rest ss2 ⊎ PassedAll M step peek says place xs (piece_steps p (upto o (ToTalker at clock))) fin es n2 ss2))
      to_talker_on_bus o fits k plays rest meets =
          let whole : Fits p (ToTalker at clock) = upto_fits p o (ToTalker at clock) fits in
          turn_on_bus (ToTalker at clock) o (leads p at clock) fits whole.0.commanding whole.0.listener (lead_steps p at clock (omega (arith, whole.1))) (λ c f. f) (lead_turn p s sound talks at clock) (lead_later whole) k plays rest meets

      pub nothing_on_bus : (freed : Option ℕ) (o : Option ℕ) → PieceFits p (upto o (Nothing at clock freed)) → Says (Nothing at clock freed) (says (device s)) → {n n2 : ℕ} {ss2 : List (Station M)} {es : List Event} → Plays M step peek n xs es n2 ss2 → (rest : List Event) → Compat (piece_steps p (upto o (Nothing at clock freed))) (es ++ rest)
          → (fin : List (Rest × Port)) × (AllEnd M step peek says place (point_after p (upto o (Nothing at clock freed))) (map (λ x. seat_afterwards p (upto o (Nothing at clock freed)) x) p.seats) fin
          × (WithinAll M step peek says place xs (piece_steps p (upto o (Nothing at clock freed))) fin es rest ss2 ⊎ PassedAll M step peek says place xs (piece_steps p (upto o (Nothing at clock freed))) fin es n2 ss2))
      nothing_on_bus freed o fits k plays rest meets =
          let whole : Fits p (Nothing at clock freed) = upto_fits p o (Nothing at clock freed) fits in
          turn_on_bus (Nothing at clock freed) o (mutes p at clock freed) fits whole.0.commanding whole.0.listener (mute_steps p at clock freed (omega (arith, whole.1))) (λ c f. f) (mute_turn p s sound talks at clock freed)
          (λ x q st t e. let c : Some t ≡ None = sym e ∙ done_due q.side st.side in absurd cc) k plays rest meets
