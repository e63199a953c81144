-- A frame of the talker on a bus: under way it is the frame of the byte that the talker's machine has to say; played to its end it says that byte, and all stand after it.
use Rattle.cbm_session.proofs.alone.Frames.{done_due}
use Rattle.cbm_iec.specs.Profile.{bit_time}
use Rattle.std.proofs.Common.{◌≡◌, ℕ, suc, ◌+◌, ◌≤◌, ◌<◌, ◌⊎◌, inl, inr, Bool, true, false, List, [], ◌∷◌, ◌++◌, map, Option, Some, None, ap, sym, ◌∙◌, subst, arith, refl, eq-eqb}
use Rattle.std.proofs.lemmas.Bool.Decides.{leb_tells}
use Rattle.std.specs.Prelude.{if◌then◌else◌}
use Rattle.cbm_iec.specs.Ports.{side_due, port_due}
use Rattle.cbm_iec.specs.declared.machine.Act.TheVariants.{Said}
use Rattle.cbm_iec.specs.declared.machine.Act.{Act}
use Rattle.cbm_iec.specs.declared.ear.Ear.TheVariants.{Idle}
use Rattle.cbm_iec.specs.declared.event.Event.{Event}
use Rattle.cbm_iec.specs.declared.event.Who.TheVariants.{Host, Drive}
use Rattle.cbm_iec.specs.declared.event.Who.{Who}
use Rattle.cbm_iec.specs.declared.lines.Line.TheVariants.{Clock, Data}
use Rattle.cbm_iec.specs.declared.lines.Way.TheVariants.{Pull, Free}
use Rattle.cbm_iec.specs.declared.lines.Held.{Held}
use Rattle.cbm_iec.specs.declared.mouth.Mouth.TheVariants.{Led}
use Rattle.cbm_iec.specs.declared.party.Party.{Party}
use Rattle.cbm_iec.specs.declared.party.Role.TheVariants.{Absent, Listener, Talker}
use Rattle.cbm_iec.specs.declared.party.Role.{Role}
use Rattle.cbm_iec.specs.declared.port.Port.{Port}
use Rattle.cbm_iec.specs.declared.port.Side.TheVariants.{Hearing, Speaking}
use Rattle.cbm_iec.specs.declared.port.Side.{Side}
use Rattle.cbm_session.proofs.among.Calm.{Every}
use Rattle.cbm_session.proofs.among.Frames.{each_sits}
use Rattle.cbm_session.proofs.among.Fronts.{steps_order}
use Rattle.cbm_session.proofs.among.Points.{leading_alone}
use Rattle.cbm_session.proofs.among.Standing.{IsSound}
use Rattle.cbm_session.proofs.headline.AlongBus.{GoesSo, RisingIn, IsPlain, WithinAll, PassedAll, along_bus}
use Rattle.cbm_session.proofs.headline.FrameBus.{ear_asks, StandsSo, AllStand, AllEnd, AllWith, devs_are}
use Rattle.cbm_session.proofs.headline.GoesOf.{OthersData, goes_of, goes_idle, idle}
use Rattle.cbm_session.proofs.headline.Meeting.{Compat, LastSaid, AsksFor}
use Rattle.cbm_session.proofs.headline.PieceBus.{upto, seat_afterwards, upto_fits, piece_tidy, tidy_plain, all_go_with, upto_last}
use Rattle.cbm_session.proofs.headline.SideStates.{SideHolds}
use Rattle.cbm_session.proofs.headline.TalkParts.{told_last, told_noatn}
use Rattle.cbm_session.proofs.headline.Ties.{Placed}
use Rattle.cbm_session.proofs.joining.Merging.{AllBefore, before_yes, before_no, front_before, cut_front, all_sooner}
use Rattle.cbm_session.proofs.joining.OneDrive.{one_told, told_is}
use Rattle.cbm_session.proofs.joining.Talkers.{talker_is}
use Rattle.cbm_session.proofs.reading.OneReading.{NoAtn, noatn_front}
use Rattle.cbm_session.proofs.reading.PieceReadings.{next_seat}
use Rattle.cbm_session.proofs.timing.SessionOrder.{steps_done, Done, DoneBy}
use Rattle.cbm_session.specs.Among.{Rest, wires_of, FollowsAmong}
use Rattle.cbm_session.specs.Bits.{number_of}
use Rattle.cbm_session.specs.Buses.{SaysAs, SideAmong, OwnAt, StandsAmong}
use Rattle.cbm_session.specs.Following.{IsInTime}
use Rattle.cbm_session.specs.Frames.{Told, is_last, signal_steps, first_bit, bit_steps, ToldFits}
use Rattle.cbm_session.specs.Pieces.{Whole, BusPlace, Point, steps_of, before, piece_steps, Fits, PieceFits, told_since, whole_point, point_after, Talk, Open, Leading}
use Rattle.cbm_session.specs.Playing.{Station, Plays}
use Rattle.cbm_session.specs.Seats.{lines, Seat, device, is_talker, talker_of}
use Rattle.cbm_session.specs.Steps.{Step, moment_of, host, drive, for_one}

-- a frame's drive is the talker
others_append : (d : ℕ) (xs ys : List Step) → OthersData d xs → OthersData d ys → OthersData d (xs ++ ys)
others_append d [] ys a b = b
others_append d (x ∷ xs) ys a b = (a.0, others_append d xs ys a.1 b)

bits_data : (b : Party) (at : ℕ) (held : Bool) (bits : List Bool) → OthersData b.device (bit_steps b at held bits)
bits_data b at true [] = (eq-eqb b.device b.device refl, (tt, tt))
bits_data b at false [] = (eq-eqb b.device b.device refl, tt)
bits_data b at true (true ∷ bits) = (eq-eqb b.device b.device refl, (tt, (eq-eqb b.device b.device refl, bits_data b (at + bit_time b.pace) false bits)))
bits_data b at false (true ∷ bits) = (eq-eqb b.device b.device refl, (eq-eqb b.device b.device refl, bits_data b (at + bit_time b.pace) false bits))
bits_data b at true (false ∷ bits) = (eq-eqb b.device b.device refl, (eq-eqb b.device b.device refl, bits_data b (at + bit_time b.pace) true bits))
bits_data b at false (false ∷ bits) = (eq-eqb b.device b.device refl, (tt, (eq-eqb b.device b.device refl, bits_data b (at + bit_time b.pace) true bits)))

signal_data : (d : ℕ) (x : Option (ℕ × ℕ)) → OthersData d (signal_steps x)
signal_data d None = tt
signal_data d (Some (pull, free)) = (tt, (tt, tt))

last_data : (b : Party) (n accept : ℕ) (v : Bool) → OthersData b.device (for_one b.device (Said n v) (host accept Data Pull) ∷ (if v then drive b.device (accept + b.reaction) Clock Free ∷ [] else []))
last_data b n accept true = (tt, (eq-eqb b.device b.device refl, tt))
last_data b n accept false = (tt, tt)

told_data : (b : Party) (at : ℕ) (f : Told) → OthersData b.device (one_told b at f)
told_data b at f = (
  eq-eqb b.device b.device refl,
  (
    tt,
    others_append b.device (signal_steps f.signal) (bit_steps b (first_bit b f) false f.bits ++ for_one b.device (Said (number_of f.bits) (is_last f)) (host f.accept Data Pull) ∷ (if is_last f then drive b.device (f.accept + b.reaction) Clock Free ∷ [] else []))
        (signal_data b.device f.signal) (others_append b.device (bit_steps b (first_bit b f) false f.bits) (for_one b.device (Said (number_of f.bits) (is_last f)) (host f.accept Data Pull) ∷ (if is_last f then drive b.device (f.accept + b.reaction) Clock Free ∷ [] else []))
        (bits_data b (first_bit b f) false f.bits) (last_data b (number_of f.bits) f.accept (is_last f))),
  ),
)

data_before : (d c : ℕ) (ys : List Step) → OthersData d ys → OthersData d (before c ys)
data_before d c [] a = tt
data_before d c (y ∷ ys) a = elim (leb_tells (suc (moment_of y)) c) [
  | inl x ↦ (let l = x.1 in subst (OthersData d) (sym (before_yes c y ys (omega (arith, l)))) (a.0, data_before d c ys a.1))
  | inr x ↦ (let l = x.1 in subst (OthersData d) (sym (before_no c y ys (omega (arith, l)))) (data_before d c ys a.1))
]

-- all steps done by a moment are before a later one
pub done_before : (m t : ℕ) (ss : List Step) → m < t → Every (DoneBy m) ss → AllBefore t ss
done_before m t [] l a = tt
done_before m t (s ∷ ss) l a = (go s.event.who a.0, done_before m t ss l a.1)
  where
    go : (w : Who) → Done m w (moment_of s) → moment_of s < t
    go Host h = omega (arith, h, l)
    go (Drive o) h = omega (arith, h, l)

since_accept : (b : Party) (f : Told) (v : Bool) → is_last f ≡ v → v ≡ false → told_since b f < f.accept + 100
since_accept b f true e k = absurd cc
since_accept b f false e k = let s : told_since b f ≡ f.accept = ap (λ (v : Bool). if v then f.accept + b.reaction + 1 else f.accept) e in omega (arith, s)

module _ (M : Type 0) (step : M → Act → M) (peek : M → Option (ℕ × Bool)) (says : ℕ → Option (ℕ × Bool)) (place : ℕ → ℕ) where
  -- what the talker has to say is the byte of its machine
  abbrev pub Telling : Seat → Station M → Type 0
  Telling x z = x.role ≡ Talker → peek z.machine ≡ says z.port.party.device

  module _ (p : Point) (at : ℕ) (s : Seat) (sound : IsSound p s) (talks : s.role ≡ Talker) where
    the_talker : talker_of p.seats ≡ s.party
    the_talker = talker_is (device s) p.seats s sound.seated.one sound.seated.sits (ap is_talker talks)

    -- there is one talker
    only_one : (x : Seat) → IsSound p x → x.role ≡ Talker → x.party ≡ s.party
    only_one x h r = sym (talker_is (device x) p.seats x h.seated.one h.seated.sits (ap is_talker r)) ∙ the_talker

    pub frame_steps : (f : Told) → Fits p (Talk at f) → steps_of p (Talk at f) ≡ one_told s.party at f
    frame_steps f h = leading_alone p s at f sound talks ∙ told_is s.party at f (subst (λ (b : Party). ToldFits b at f) the_talker h.1)

    asks_led : (zs : List Step) (A : Type 0) → A → AsksFor zs (Speaking (Led at)) A
    asks_led [] A k = tt
    asks_led (y ∷ zs) A k = k

    -- Of its frame a drive goes with what it follows, whole or cut.
    talk_goes : (zs : List Step) → NoAtn zs → OthersData s.party.device zs → p.place ≡ Leading at → (x : Seat) (z : Station M) → StandsSo M step peek says place p x z → Telling x z → (r2 : Rest) (q2 : Port) → FollowsAmong (says z.port.party.device) z.rest z.port zs r2 q2
        → ((t : ℕ) → port_due q2 ≡ Some t → AllBefore t zs) → GoesSo M step peek says place z zs (r2, q2)
    talk_goes zs noatn mild leading x z h tells r2 q2 g end = by x.role refl
      where
        seen : z.port.others ≡ wires_of z.rest
        seen = h.stands.others ∙ ap (λ (r : Rest). wires_of r) (sym h.rest)

        side_at : SideAmong (Leading at) x.role z.port.side
        side_at = subst (λ (v : BusPlace). SideAmong v x.role z.port.side) leading h.stands.side

        own_at : OwnAt (Leading at) x.role x.own
        own_at = subst (λ (v : BusPlace). OwnAt v x.role x.own) leading (each_sits (λ y. OwnAt p.place y.role y.own) (device x) p.seats x h.sound.own h.sound.seated.sits)

        by : (r : Role) → x.role ≡ r → GoesSo M step peek says place z zs (r2, q2)
        by Absent k =
            let side : z.port.side ≡ Hearing Idle = subst (λ (r : Role). SideAmong (Leading at) r z.port.side) k side_at in
            let holds : SideHolds z.port.side z.port.own = subst (λ (v : Side). SideHolds v z.port.own) (sym side) tt in
            record {
              goes = goes_idle (says z.port.party.device) g (idle side) holds seen noatn;
              asks = subst (λ (v : Side). AsksFor zs v (peek z.machine ≡ says z.port.party.device)) (sym side) (ear_asks (peek z.machine ≡ says z.port.party.device) Idle zs);
              holds = holds;
              seen = seen;
              end = end;
            }
        by Listener k = absurd (subst (λ (r : Role). SideAmong (Leading at) r z.port.side) k side_at)
        by Talker k =
            let side : z.port.side ≡ Speaking (Led at) = subst (λ (r : Role). SideAmong (Leading at) r z.port.side) k side_at in
            let own : x.own ≡ lines true false = subst (λ (r : Role). OwnAt (Leading at) r x.own) k own_at in
            let holds : SideHolds z.port.side z.port.own = subst (λ (v : Side). SideHolds v z.port.own) (sym side) (ap (λ (v : Held). v.clock_low) (h.stands.own ∙ own)) in
            let d : z.port.party.device ≡ s.party.device = ap (λ (b : Party). b.device) (h.stands.party ∙ (only_one x h.sound k)) in
            record {
              goes = goes_of (says z.port.party.device) g holds seen noatn (subst (λ (v : ℕ). OthersData v zs) (sym d) mild);
              asks = subst (λ (v : Side). AsksFor zs v (peek z.machine ≡ says z.port.party.device)) (sym side) (asks_led zs (peek z.machine ≡ says z.port.party.device) (tells k));
              holds = holds;
              seen = seen;
              end = end;
            }

    -- after a frame nothing is due before its last step, and after a cut nothing before it
    whole_end : (f : Told) (fits : Fits p (Talk at f)) (x : Seat) (q2 : Port) → StandsAmong (whole_point p (Talk at f)) (next_seat (Talk at f) x) q2 → (t : ℕ) → port_due q2 ≡ Some t → AllBefore t (steps_of p (Talk at f))
    whole_end f fits x q2 there t e = go (is_last f) refl (next_seat (Talk at f) x).role there.side
      where
        done : Every (DoneBy (told_since (talker_of p.seats) f)) (steps_of p (Talk at f))
        done = steps_done p s (Talk at f) sound fits

        go : (v : Bool) → is_last f ≡ v → (r : Role) → SideAmong (if v then Open else Leading (f.accept + 100)) r q2.side → AllBefore t (steps_of p (Talk at f))
        go true l r st = let k : Some t ≡ None = sym e ∙ done_due q2.side st in absurd cc
        go false l Absent st = let k : Some t ≡ None = sym e ∙ ap (λ (v : Side). side_due v) st in absurd cc
        go false l Listener st = elim st [ ]
        go false l Talker st =
            let k : Some t ≡ Some (f.accept + 100) = sym e ∙ ap (λ (v : Side). side_due v) st in
            let late : t ≡ f.accept + 100 = cc in
            let soon = since_accept (talker_of p.seats) f false l refl in
            done_before (told_since (talker_of p.seats) f) t (steps_of p (Talk at f)) (omega (arith, late, soon)) done

    frame_end : (f : Told) (o : Option ℕ) (fits : PieceFits p (upto o (Talk at f))) (x : Seat) (q2 : Port) → StandsAmong (point_after p (upto o (Talk at f))) (seat_afterwards p (upto o (Talk at f)) x) q2 → (t : ℕ) → port_due q2 ≡ Some t → AllBefore t (piece_steps p (upto o (Talk at f)))
    frame_end f None fits x q2 there t e = whole_end f fits x q2 there t e
    frame_end f (Some c) fits x q2 there t e = let late : c ≤ t = subst (λ (v : Option ℕ). IsInTime c v) e there.side in all_sooner c t (before c (steps_of p (Talk at f))) late (front_before c (steps_of p (Talk at f)))

    upto_noatn : (o : Option ℕ) (w : Whole) → PieceFits p (upto o w) → NoAtn (steps_of p w) → NoAtn (piece_steps p (upto o w))
    upto_noatn None w fits n = n
    upto_noatn (Some c) w fits n = let k = cut_front c (steps_of p w) (steps_order p w fits.0) in noatn_front (before c (steps_of p w)) k.0 (subst NoAtn k.1 n)

    upto_data : (o : Option ℕ) (w : Whole) (d : ℕ) → OthersData d (steps_of p w) → OthersData d (piece_steps p (upto o w))
    upto_data None w d h = h
    upto_data (Some c) w d h = data_before d c (steps_of p w) h

    upto_says : (f : Told) (o : Option ℕ) → says (device s) ≡ Some (number_of f.bits, is_last f) → (x : Seat) → IsSound p x → SaysAs x.role (upto o (Talk at f)) (says (device x))
    upto_says f o k x h = go o x.role refl
      where
        same : x.role ≡ Talker → says (device x) ≡ Some (number_of f.bits, is_last f)
        same e = ap (λ (b : Party). says b.device) (only_one x h e) ∙ k

        go : (o : Option ℕ) (r : Role) → x.role ≡ r → SaysAs r (upto o (Talk at f)) (says (device x))
        go None Absent e = tt
        go None Listener e = tt
        go None Talker e = same e
        go (Some c) Absent e = tt
        go (Some c) Listener e = tt
        go (Some c) Talker e = same e

    -- A frame that says the machine's byte, whole or cut, on a bus, as far as the host does the same.
    pub talk_on_bus : (f : Told) (o : Option ℕ) → PieceFits p (upto o (Talk at f)) → says (device s) ≡ Some (number_of f.bits, is_last f) → Placed place p.seats → RisingIn M step peek says place (map (λ x. device x) p.seats) → (xs : List (Station M)) → AllStand M step peek says place p p.seats xs
        → AllWith M step peek says place Telling p.seats xs → {n1 n2 : ℕ} {ss2 : List (Station M)} {es : List Event} → Plays M step peek n1 xs es n2 ss2 → (rest : List Event) → Compat (piece_steps p (upto o (Talk at f))) (es ++ rest)
        → (fin : List (Rest × Port)) × (AllEnd M step peek says place (point_after p (upto o (Talk at f))) (map (λ x. seat_afterwards p (upto o (Talk at f)) x) p.seats) fin
        × (WithinAll M step peek says place xs (piece_steps p (upto o (Talk at f))) fin es rest ss2 ⊎ PassedAll M step peek says place xs (piece_steps p (upto o (Talk at f))) fin es n2 ss2))
    talk_on_bus f o fits said placed rising xs stand tells plays rest meets =
        let w = Talk at f in
        let k = upto o w in
        let whole : Fits p (Talk at f) = upto_fits p o w fits in
        let is = frame_steps f whole in
        let told = subst (λ (b : Party). ToldFits b at f) the_talker whole.1 in
        let noatn = upto_noatn o w fits (subst NoAtn (sym is) (told_noatn s.party at f told)) in
        let mild = upto_data o w s.party.device (subst (λ (v : List Step). OthersData s.party.device v) (sym is) (told_data s.party at f)) in
        let all = all_go_with M step peek place says p k Telling fits (λ x z h t r2 q2 g there. talk_goes (piece_steps p k) noatn mild whole.0 x z h t r2 q2 g (frame_end f o fits x q2 there)) (λ x h. upto_says f o said x h) p.seats xs stand tells in
        let ds = devs_are M step peek says place p p.seats xs stand in
        let tidy = piece_tidy M step peek place p k fits placed (upto_last p o w (subst LastSaid (sym is) (told_last s.party at f))) in
        let plain = tidy_plain M step peek place says (map (λ x. device x) p.seats) (piece_steps p k) tidy noatn in
        (all.0, (all.1.1, along_bus M step peek says place plays (piece_steps p k) all.0 all.1.0 (subst (λ (v : List ℕ). RisingIn M step peek says place v) (sym ds) rising) (subst (λ (v : List ℕ). IsPlain M step peek says place v (piece_steps p k)) (sym ds) plain) rest meets))
