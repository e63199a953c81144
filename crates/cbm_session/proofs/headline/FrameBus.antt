-- A frame of the host to the drives of a bus: what they do is a front of it, and where it was played to its end they stand after it.
use Rattle.std.proofs.Common.{◌≡◌, ℕ, zero, ◌⊎◌, inl, inr, Bool, true, false, not, List, [], ◌∷◌, ◌++◌, map, Option, Some, None, ap, sym, ◌∙◌, subst, refl}
use Rattle.std.specs.Prelude.{if◌then◌else◌}
use Rattle.cbm_iec.specs.Ports.{side_due, port_due}
use Rattle.cbm_iec.specs.declared.machine.Act.TheVariants.{Attention, Heard}
use Rattle.cbm_iec.specs.declared.machine.Act.{Act}
use Rattle.cbm_iec.specs.declared.ear.Ear.TheVariants.{Idle, Holding}
use Rattle.cbm_iec.specs.declared.ear.Ear.{Ear}
use Rattle.cbm_iec.specs.declared.event.Event.{Event}
use Rattle.cbm_iec.specs.declared.event.Who.TheVariants.{Host, Drive}
use Rattle.cbm_iec.specs.declared.event.Who.{Who}
use Rattle.cbm_iec.specs.declared.lines.Line.TheVariants.{Atn, Clock, Data}
use Rattle.cbm_iec.specs.declared.lines.Line.{Line}
use Rattle.cbm_iec.specs.declared.lines.Way.TheVariants.{Free}
use Rattle.cbm_iec.specs.declared.lines.Held.{Held}
use Rattle.cbm_iec.specs.declared.party.Party.{Party}
use Rattle.cbm_iec.specs.declared.party.Role.TheVariants.{Absent, Listener, Talker}
use Rattle.cbm_iec.specs.declared.party.Role.{Role}
use Rattle.cbm_iec.specs.declared.port.Port.{Port}
use Rattle.cbm_iec.specs.declared.port.Side.TheVariants.{Hearing}
use Rattle.cbm_iec.specs.declared.port.Side.{Side}
use Rattle.cbm_session.proofs.alone.Sessions.{AllHost}
use Rattle.cbm_session.proofs.among.Around.{every_each, every_append}
use Rattle.cbm_session.proofs.among.Calm.{Every}
use Rattle.cbm_session.proofs.among.Frames.{each_sits}
use Rattle.cbm_session.proofs.among.Fronts.{steps_order, follows_drive, follows_wires}
use Rattle.cbm_session.proofs.among.Points.{next_party, whole_sound, each_seat}
use Rattle.cbm_session.proofs.among.Sessions.{piece_among, left_is}
use Rattle.cbm_session.proofs.among.Standing.{IsSound}
use Rattle.cbm_session.proofs.frames.Phases.{Each}
use Rattle.cbm_session.proofs.headline.AlongBus.{GoesSo, AllGo, devs, SitsIn, RisingIn, OwnedIn, IsPlain, WithinAll, PassedAll, along_bus}
use Rattle.cbm_session.proofs.headline.GoesOf.{OthersData, goes_of}
use Rattle.cbm_session.proofs.headline.Meeting.{Compat, SaysOpen, LastSaid, AsksFor}
use Rattle.cbm_session.proofs.headline.SideStates.{SideHolds}
use Rattle.cbm_session.proofs.headline.TalkStates.{NoneSaid}
use Rattle.cbm_session.proofs.headline.TalkSwap.{Twin, twin_compat}
use Rattle.cbm_session.proofs.headline.Ties.{Placed, tied_all}
use Rattle.cbm_session.proofs.joining.Orders.{host_order}
use Rattle.cbm_session.proofs.joining.Owning.{AllOwned, part_owned, part_order}
use Rattle.cbm_session.proofs.reading.OneReading.{is_atn, NoAtn}
use Rattle.cbm_session.proofs.reading.PieceReadings.{is_commanding, next_seat}
use Rattle.cbm_session.proofs.timing.SessionOrder.{part_host, piece_goes}
use Rattle.cbm_session.specs.Among.{Rest, wires_of, FollowsAmong}
use Rattle.cbm_session.specs.Bits.{where_held, BitCell, cell_steps, cells_steps, held_after, byte_in_cells}
use Rattle.cbm_session.specs.Buses.{rest_at, SaysAs, SideAmong, OwnAt, StandsAmong}
use Rattle.cbm_session.specs.Frames.{Sent, wire, end_of, hearing, sending}
use Rattle.cbm_session.specs.Pieces.{Whole, BusPlace, Point, host_part, own_part, steps_of, Fits, whole_point, Command, Byte, Full, Commanding, Listening}
use Rattle.cbm_session.specs.Playing.{Station, Plays}
use Rattle.cbm_session.specs.Seats.{Seat, device, listeners, is_listener}
use Rattle.cbm_session.specs.Steps.{Step, events_of, host}

-- a step of a frame of the host: of the host without ATN, or a drive's of DATA; it says no byte
abbrev pub DataStep : Who → Line → Type 0
DataStep Host line = Unit {0}
DataStep (Drive o) line = line ≡ Data

abbrev pub OfFrame : Step → Type 0
OfFrame s = (is_atn s.event.change.line ≡ false) × SaysOpen s.mark × DataStep s.event.who s.event.change.line

cells_frame : (held : Bool) (cs : List BitCell) → Every OfFrame (cells_steps held cs)
cells_frame held [] = tt
cells_frame held (c ∷ cs) = every_append OfFrame (cell_steps held c) (cells_steps (not c.bit) cs) (one held c.bit c.set c.free c.pull) (cells_frame (not c.bit) cs)
  where
    one : (held bit : Bool) (set free pull : ℕ) → Every OfFrame (cell_steps held (record { bit = bit; set = set; free = free; pull = pull }))
    one true true set free pull = ((refl, tt, tt), ((refl, tt, tt), ((refl, tt, tt), tt)))
    one false true set free pull = ((refl, tt, tt), ((refl, tt, tt), tt))
    one true false set free pull = ((refl, tt, tt), ((refl, tt, tt), tt))
    one false false set free pull = ((refl, tt, tt), ((refl, tt, tt), ((refl, tt, tt), tt)))

sending_frame : (f : Sent) → Every OfFrame (sending f)
sending_frame f = ((refl, tt, tt), ((refl, tt, tt), every_append OfFrame (cells_steps false f.cells) (where_held (held_after false f.cells) (host (end_of f) Data Free)) (cells_frame false f.cells) (last (held_after false f.cells))))
  where
    last : (v : Bool) → Every OfFrame (where_held v (host (end_of f) Data Free))
    last true = ((refl, tt, tt), tt)
    last false = tt

hearing_frame : (t : ℕ) (eoi : Bool) (act : Act) (f : Sent) (s : Seat) → NoneSaid (Some act) → Every OfFrame (hearing t eoi act f s)
hearing_frame t true act f s n = ((refl, tt, refl), ((refl, tt, refl), ((refl, tt, refl), ((refl, n, refl), tt))))
hearing_frame t false act f s n = ((refl, tt, refl), ((refl, n, refl), tt))

-- a drive that listens, or has no role, has nothing due
pub listening_due : (r : Role) (side : Side) → SideAmong Listening r side → side_due side ≡ None
listening_due Absent side h = ap (λ (x : Side). side_due x) h
listening_due Listener side h = ap (λ (x : Side). side_due x) h
listening_due Talker side h = elim h [ ]

pub command_frame : (p : Point) (f : Sent) → Every OfFrame (steps_of p (Command f))
command_frame p f = every_each OfFrame (λ (x : Seat). own_part p (Command f) x) (sending f) p.seats (sending_frame f) (each_seat (λ x. Every OfFrame (own_part p (Command f) x)) p.seats (λ (x : Seat). hearing_frame (wire p.seats f) false (Attention (byte_in_cells f.cells)) f x tt))

pub byte_frame : (p : Point) (eoi : Bool) (f : Sent) → Every OfFrame (steps_of p (Byte eoi f))
byte_frame p eoi f = every_each OfFrame (λ (x : Seat). own_part p (Byte eoi f) x) (sending f) p.seats (sending_frame f) (each_seat (λ x. Every OfFrame (own_part p (Byte eoi f) x)) p.seats (λ (x : Seat). go x (is_listener x.role)))
  where
    go : (x : Seat) (v : Bool) → Every OfFrame (if v then hearing (wire (listeners p.seats) f) eoi (Heard (byte_in_cells f.cells) eoi) f x else [])
    go x true = hearing_frame (wire (listeners p.seats) f) eoi (Heard (byte_in_cells f.cells) eoi) f x tt
    go x false = tt

pub frame_noatn : (ss : List Step) → Every OfFrame ss → NoAtn ss
frame_noatn [] a = tt
frame_noatn (s ∷ ss) a = (a.0.0, frame_noatn ss a.1)

pub frame_last : (ss : List Step) → Every OfFrame ss → LastSaid ss
frame_last [] a = tt
frame_last (s ∷ []) a = tt
frame_last (s ∷ t ∷ ss) a = (a.0.1, frame_last (t ∷ ss) a.1)

pub frame_others : (d : ℕ) (ss : List Step) → Every OfFrame ss → OthersData d ss
frame_others d [] a = tt
frame_others d (s ∷ ss) a = (go s.event.who s.event.change.line a.0.2, frame_others d ss a.1)
  where
    go : (w : Who) (line : Line) → DataStep w line → Rattle.cbm_session.proofs.headline.GoesOf.DataOf d w line
    go Host line h = tt
    go (Drive o) Data h = tt
    go (Drive o) Clock h = cc
    go (Drive o) Atn h = cc

pub twin_self : (t : ℕ) (ys : List Step) → Twin t ys ys
twin_self t [] = tt
twin_self t (y ∷ ys) = inl (refl, twin_self t ys)

pub ear_asks : (A : Type 0) (ear : Ear) (ys : List Step) → AsksFor ys (Hearing ear) A
ear_asks A ear [] = tt
ear_asks A ear (y ∷ ys) = tt

module _ (M : Type 0) (step : M → Act → M) (peek : M → Option (ℕ × Bool)) (says : ℕ → Option (ℕ × Bool)) (place : ℕ → ℕ) where
  -- the stations of a bus stand at a point as its seats do
  pub record StandsSo (p : Point) (s : Seat) (x : Station M) : Type 0 where
    pub sound : IsSound p s
    pub stands : StandsAmong p s x.port
    pub rest : x.rest ≡ rest_at (device s) p

  abbrev pub AllStand : Point → List Seat → List (Station M) → Type 0
  AllStand p [] [] = Unit {0}
  AllStand p [] (x ∷ xs) = ⊥
  AllStand p (s ∷ ss) [] = ⊥
  AllStand p (s ∷ ss) (x ∷ xs) = StandsSo p s x × AllStand p ss xs

  -- the ends of what they go with, where the seats stand after the piece
  abbrev pub AllEnd : Point → List Seat → List (Rest × Port) → Type 0
  AllEnd p [] [] = Unit {0}
  AllEnd p [] (e ∷ es) = ⊥
  AllEnd p (s ∷ ss) [] = ⊥
  AllEnd p (s ∷ ss) (e ∷ es) = (IsSound p s × StandsAmong p s e.1 × (e.0 ≡ rest_at (device s) p)) × AllEnd p ss es

  -- what holds of a drive in hold, and after a frame
  abbrev HeldThere : Point → Whole → Type 0
  HeldThere p w = (s : Seat) (q : Port) → IsSound p s → StandsAmong p s q → SideHolds q.side q.own × ((ear : Ear) × (q.side ≡ Hearing ear))

  abbrev QuietAfter : Point → Whole → Type 0
  QuietAfter p w = (s : Seat) (q : Port) → StandsAmong (whole_point p w) (next_seat w s) q → port_due q ≡ None

  -- of each station something more is known
  abbrev pub AllWith : (Seat → Station M → Type 0) → List Seat → List (Station M) → Type 0
  AllWith A [] [] = Unit {0}
  AllWith A [] (x ∷ xs) = ⊥
  AllWith A (s ∷ ss) [] = ⊥
  AllWith A (s ∷ ss) (x ∷ xs) = A s x × AllWith A ss xs

  pub with_nothing : (p : Point) (ss : List Seat) (xs : List (Station M)) → AllStand p ss xs → AllWith (λ s x. Unit {0}) ss xs
  with_nothing p [] [] h = tt
  with_nothing p [] (x ∷ xs) h = elim h [ ]
  with_nothing p (s ∷ ss) [] h = elim h [ ]
  with_nothing p (s ∷ ss) (x ∷ xs) h = (tt, with_nothing p ss xs h.1)

  -- how a drive that follows a piece goes with it
  abbrev pub Turns : Point → Whole → (Seat → Station M → Type 0) → Type 0
  Turns p w A = (s : Seat) (x : Station M) → StandsSo p s x → A s x → (r2 : Rest) (q2 : Port) → FollowsAmong (says x.port.party.device) x.rest x.port (steps_of p w) r2 q2 → StandsAmong (whole_point p w) (next_seat w s) q2
      → GoesSo M step peek says place x (steps_of p w) (r2, q2)

  abbrev pub SaidSo : Point → Whole → Type 0
  SaidSo p w = (s : Seat) → IsSound p s → SaysAs s.role (Full w) (says (device s))

  pub all_go : (p : Point) (w : Whole) (A : Seat → Station M → Type 0) → Fits p w → Turns p w A → SaidSo p w → (ss : List Seat) (xs : List (Station M)) → AllStand p ss xs → AllWith A ss xs
      → (es : List (Rest × Port)) × (AllGo M step peek says place xs (steps_of p w) es × AllEnd (whole_point p w) (map (λ s. next_seat w s) ss) es)
  all_go p w A fits turn said [] [] h a = ([], (tt, tt))
  all_go p w A fits turn said [] (x ∷ xs) h a = elim h [ ]
  all_go p w A fits turn said (s ∷ ss) [] h a = elim h [ ]
  all_go p w A fits turn said (s ∷ ss) (x ∷ xs) h a =
      let st = h.0.stands in
      let q = x.port in
      let d = q.party.device in
      let dev : device s ≡ d = sym (ap (λ (b : Party). b.device) st.party) in
      let z = piece_among w p s q (says d) h.0.sound st fits (subst (λ (v : ℕ). SaysAs s.role (Full w) (says v)) dev (said s h.0.sound)) in
      let p2 = whole_point p w in
      let s2 = next_seat w s in
      let same = next_party w s in
      let left = left_is p s q z.port (Full w) z.rest (says d) h.0.sound st fits z.follows in
      let there : StandsAmong p2 s2 z.port = record {
        party = follows_drive (says d) z.follows ∙ st.party ∙ (sym same);
        role = z.role;
        own = z.own;
        others = follows_wires (says d) z.follows st.others ∙ ap (λ (r : Rest). wires_of r) left ∙ ap (λ (b : Party). wires_of (rest_at b.device p2)) (sym same);
        side = z.side;
      } in
      let f : FollowsAmong (says d) x.rest q (steps_of p w) z.rest z.port = subst (λ (r : Rest). FollowsAmong (says d) r q (steps_of p w) z.rest z.port) (sym h.0.rest) z.follows in
      let go = turn s x h.0 a.0 z.rest z.port f there in
      let more = all_go p w A fits turn said ss xs h.1 a.1 in
      ((z.rest, z.port) ∷ more.0, ((go, more.1.0), ((whole_sound p s w h.0.sound fits, there, left ∙ ap (λ (b : Party). rest_at b.device p2) (sym same)), more.1.1)))

  -- of a frame of the host
  frame_turns : (p : Point) (w : Whole) → Every OfFrame (steps_of p w) → HeldThere p w → QuietAfter p w → Turns p w (λ s x. Unit {0})
  frame_turns p w frame held quiet s x h a r2 q2 f there =
      let q = x.port in
      let d = q.party.device in
      let seen : q.others ≡ wires_of x.rest = h.stands.others ∙ ap (λ (r : Rest). wires_of r) (sym h.rest) in
      let holds = held s q h.sound h.stands in
      record {
        goes = goes_of (says d) f holds.0 seen (frame_noatn (steps_of p w) frame) (frame_others d (steps_of p w) frame);
        asks = subst (λ (v : Side). AsksFor (steps_of p w) v (peek x.machine ≡ says d)) (sym holds.1.1) (ear_asks (peek x.machine ≡ says d) holds.1.0 (steps_of p w));
        holds = holds.0;
        seen = seen;
        end = λ t e. let none = quiet s q2 there in let k : Some t ≡ None = sym e ∙ none in absurd cc;
      }

  -- the stations are the seats' drives
  pub devs_are : (p : Point) (ss : List Seat) (xs : List (Station M)) → AllStand p ss xs → devs M step peek says place xs ≡ map (λ s. device s) ss
  devs_are p [] [] h = refl
  devs_are p [] (x ∷ xs) h = elim h [ ]
  devs_are p (s ∷ ss) [] h = elim h [ ]
  devs_are p (s ∷ ss) (x ∷ xs) h = let d : x.port.party.device ≡ device s = ap (λ (b : Party). b.device) h.0.stands.party in ap (λ (v : ℕ). v ∷ devs M step peek says place xs) d ∙ ap (λ (v : List ℕ). device s ∷ v) (devs_are p ss xs h.1)

  abbrev SitsSo : List ℕ → Step → Type 0
  SitsSo ds y = (d : ℕ) → y.event.who ≡ Drive d → SitsIn M step peek says place d ds

  owned_every : (ds : List ℕ) (ys : List Step) → Every (SitsSo ds) ys → OwnedIn M step peek says place ds ys
  owned_every ds [] a = tt
  owned_every ds (y ∷ ys) a = (a.0, owned_every ds ys a.1)

  host_sits : (ds : List ℕ) (ys : List Step) → AllHost ys → Every (SitsSo ds) ys
  host_sits ds [] a = tt
  host_sits ds (y ∷ ys) a = (λ d w. let k : Drive d ≡ Host = sym w ∙ a.0 in absurd cc, host_sits ds ys a.1)

  own_sits : (ds : List ℕ) (o : ℕ) (ys : List Step) → AllOwned o ys → SitsIn M step peek says place o ds → Every (SitsSo ds) ys
  own_sits ds o [] a i = tt
  own_sits ds o (y ∷ ys) a i = (λ d w. let k : Drive d ≡ Drive o = sym w ∙ a.0 in let same : o ≡ d = cc in subst (λ (v : ℕ). SitsIn M step peek says place v ds) same i, own_sits ds o ys a.2 i)

  each_sits_in : (p : Point) (w : Whole) (ds : List ℕ) (ss : List Seat) → ((d : ℕ) → SitsIn M step peek says place d (map (λ s. device s) ss) → SitsIn M step peek says place d ds) → Each (λ x. Every (SitsSo ds) (own_part p w x)) ss
  each_sits_in p w ds [] f = tt
  each_sits_in p w ds (s ∷ ss) f = (own_sits ds (device s) (own_part p w s) (part_owned p w s) (f (device s) (inl refl)), each_sits_in p w ds ss (λ d i. f d (inr i)))

  pub steps_owned : (p : Point) (w : Whole) → OwnedIn M step peek says place (map (λ s. device s) p.seats) (steps_of p w)
  steps_owned p w =
      let ds = map (λ s. device s) p.seats in
      owned_every ds (steps_of p w) (every_each (SitsSo ds) (λ (x : Seat). own_part p w x) (host_part p w) p.seats (host_sits ds (host_part p w) (part_host p w)) (each_sits_in p w ds p.seats (λ d i. i)))

  -- A frame of the host that the drives of a bus play.
  pub record FrameOnBus (p : Point) (w : Whole) (from : List (Station M)) (es rest more : List Event) (n2 : ℕ) (ss2 : List (Station M)) : Type 0 where
    pub fin : List (Rest × Port)
    pub ends : AllEnd (whole_point p w) (map (λ s. next_seat w s) p.seats) fin
    pub so : WithinAll M step peek says place from (steps_of p w) fin es rest ss2 ⊎ PassedAll M step peek says place from (steps_of p w) fin es n2 ss2

  frame_on_bus : (p : Point) (w : Whole) → Fits p w → Every OfFrame (steps_of p w) → Turns p w (λ s x. Unit {0}) → SaidSo p w → Placed place p.seats → RisingIn M step peek says place (map (λ s. device s) p.seats)
      → (xs : List (Station M)) → AllStand p p.seats xs → {n n2 : ℕ} {ss2 : List (Station M)} {es : List Event} → Plays M step peek n xs es n2 ss2 → (rest more : List Event) → es ++ rest ≡ events_of (steps_of p w) ++ more → FrameOnBus p w xs es rest more n2 ss2
  frame_on_bus p w fits frame turn said placed rising xs stand {n} {n2} {ss2} {es} plays rest more e =
      let all = all_go p w (λ s x. Unit {0}) fits turn said p.seats xs stand (with_nothing p p.seats xs stand) in
      let ds = devs_are p p.seats xs stand in
      let plain : IsPlain M step peek says place (map (λ s. device s) p.seats) (steps_of p w) = record {
        noatn = frame_noatn (steps_of p w) frame;
        last = frame_last (steps_of p w) frame;
        goes_on = piece_goes p w fits;
        order = steps_order p w fits;
        tied = tied_all place (λ (x : Seat). own_part p w x) (part_owned p w) (part_order p w fits) (host_part p w) p.seats (part_host p w) (host_order p w fits) placed;
        owned = steps_owned p w;
      } in
      let meets : Compat (steps_of p w) (es ++ rest) = subst (λ (v : List Event). Compat (steps_of p w) v) (sym e) (twin_compat zero (steps_of p w) (steps_of p w) more (twin_self zero (steps_of p w))) in
      record {
        fin = all.0;
        ends = all.1.1;
        so = along_bus M step peek says place plays (steps_of p w) all.0 all.1.0 (subst (λ (v : List ℕ). RisingIn M step peek says place v) (sym ds) rising) (subst (λ (v : List ℕ). IsPlain M step peek says place v (steps_of p w)) (sym ds) plain) rest meets;
      }

  -- a byte in attention
  pub command_on_bus : (p : Point) (f : Sent) → Fits p (Command f) → Placed place p.seats → RisingIn M step peek says place (map (λ s. device s) p.seats) → (xs : List (Station M)) → AllStand p p.seats xs
      → {n n2 : ℕ} {ss2 : List (Station M)} {es : List Event} → Plays M step peek n xs es n2 ss2 → (rest more : List Event) → es ++ rest ≡ events_of (steps_of p (Command f)) ++ more → FrameOnBus p (Command f) xs es rest more n2 ss2
  command_on_bus p f fits placed rising xs stand plays rest more e =
      frame_on_bus p (Command f) fits (command_frame p f) (frame_turns p (Command f) (command_frame p f) held quiet) says_any placed rising xs stand plays rest more e
    where
      held : HeldThere p (Command f)
      held s q sound st =
          let c = is_commanding fits.0 in
          let side : SideAmong (Commanding c.0) s.role q.side = subst (λ (x : BusPlace). SideAmong x s.role q.side) c.1 st.side in
          let own : OwnAt (Commanding c.0) s.role s.own = subst (λ (x : BusPlace). OwnAt x s.role s.own) c.1 (each_sits (λ x. OwnAt p.place x.role x.own) (device s) p.seats s sound.own sound.seated.sits) in
          (subst (λ (x : Side). SideHolds x q.own) (sym side) (ap (λ (h : Held). h.data_low) (st.own ∙ own)), (Holding, side))

      quiet : QuietAfter p (Command f)
      quiet s q st = ap (λ (x : Side). side_due x) st.side

      says_any : SaidSo p (Command f)
      says_any s sound = go s.role
        where
          go : (r : Role) → SaysAs r (Full (Command f)) (says (device s))
          go Absent = tt
          go Listener = tt
          go Talker = tt

  -- a byte to listeners
  pub byte_on_bus : (p : Point) (eoi : Bool) (f : Sent) → Fits p (Byte eoi f) → Placed place p.seats → RisingIn M step peek says place (map (λ s. device s) p.seats) → (xs : List (Station M)) → AllStand p p.seats xs
      → {n n2 : ℕ} {ss2 : List (Station M)} {es : List Event} → Plays M step peek n xs es n2 ss2 → (rest more : List Event) → es ++ rest ≡ events_of (steps_of p (Byte eoi f)) ++ more → FrameOnBus p (Byte eoi f) xs es rest more n2 ss2
  byte_on_bus p eoi f fits placed rising xs stand plays rest more e =
      frame_on_bus p (Byte eoi f) fits (byte_frame p eoi f) (frame_turns p (Byte eoi f) (byte_frame p eoi f) held quiet) says_any placed rising xs stand plays rest more e
    where
      by_role : (r : Role) (s : Seat) (q : Port) → SideAmong Listening r q.side → OwnAt Listening r s.own → q.own ≡ s.own → SideHolds q.side q.own × ((ear : Ear) × (q.side ≡ Hearing ear))
      by_role Absent s q side own is = (subst (λ (x : Side). SideHolds x q.own) (sym side) tt, (Idle, side))
      by_role Listener s q side own is = (subst (λ (x : Side). SideHolds x q.own) (sym side) (ap (λ (h : Held). h.data_low) (is ∙ own)), (Holding, side))
      by_role Talker s q side own is = elim side [ ]

      held : HeldThere p (Byte eoi f)
      held s q sound st =
          let side : SideAmong Listening s.role q.side = subst (λ (x : BusPlace). SideAmong x s.role q.side) fits.0 st.side in
          let own : OwnAt Listening s.role s.own = subst (λ (x : BusPlace). OwnAt x s.role s.own) fits.0 (each_sits (λ x. OwnAt p.place x.role x.own) (device s) p.seats s sound.own sound.seated.sits) in
          by_role s.role s q side own st.own

      quiet : QuietAfter p (Byte eoi f)
      quiet s q st = listening_due (next_seat (Byte eoi f) s).role q.side st.side

      says_any : SaidSo p (Byte eoi f)
      says_any s sound = go s.role
        where
          go : (r : Role) → SaysAs r (Full (Byte eoi f)) (says (device s))
          go Absent = tt
          go Listener = tt
          go Talker = tt
