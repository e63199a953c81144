-- A piece of a session, whole or cut, on a bus: how each drive follows it and stands after it, and what a play that keeps to it comes to.
use Rattle.std.proofs.Common.{◌≡◌, ℕ, suc, ◌⊎◌, inl, inr, Bool, List, [], ◌∷◌, ◌++◌, map, append-nil, Option, Some, None, ap, sym, ◌∙◌, subst, arith, refl}
use Rattle.std.proofs.lemmas.Bool.Decides.{leb_tells}
use Rattle.cbm_iec.specs.declared.machine.Act.{Act}
use Rattle.cbm_iec.specs.declared.event.Event.{Event}
use Rattle.cbm_iec.specs.declared.party.Party.{Party}
use Rattle.cbm_iec.specs.declared.party.Role.TheVariants.{Absent, Listener, Talker}
use Rattle.cbm_iec.specs.declared.party.Role.{Role}
use Rattle.cbm_iec.specs.declared.port.Port.{Port}
use Rattle.cbm_session.proofs.among.Calm.{Every}
use Rattle.cbm_session.proofs.among.Fronts.{steps_order, cut_among, follows_drive, follows_wires}
use Rattle.cbm_session.proofs.among.Points.{next_party, whole_sound, cut_sound}
use Rattle.cbm_session.proofs.among.Sessions.{piece_among, left_is}
use Rattle.cbm_session.proofs.among.Standing.{IsSound}
use Rattle.cbm_session.proofs.headline.AlongBus.{GoesSo, AllGo, devs, OwnedIn, IsPlain, WithinAll, PassedAll, owned_after}
use Rattle.cbm_session.proofs.headline.AfterBus.{stand_so, all_there, all_show}
use Rattle.cbm_session.proofs.headline.BusActs.{RanOn}
use Rattle.cbm_session.proofs.headline.BusStep as bus
use Rattle.cbm_session.proofs.headline.BusStep.{Goes, Tied, tied_after}
use Rattle.cbm_session.proofs.headline.CutBus.{last_front, goes_front, order_front, tied_front, owned_front}
use Rattle.cbm_session.proofs.headline.FrameBus.{StandsSo, AllStand, AllEnd, AllWith, steps_owned}
use Rattle.cbm_session.proofs.headline.Meeting.{LastSaid, last_after_it}
use Rattle.cbm_session.proofs.headline.Premises.{mute, Rises, Stood, stood}
use Rattle.cbm_session.proofs.headline.PullPlayed.{AllShow}
use Rattle.cbm_session.proofs.headline.Ties.{Placed, tied_all}
use Rattle.cbm_session.proofs.joining.Merging.{InOrder, before_yes, before_no, cut_front, order_after, goes_after}
use Rattle.cbm_session.proofs.joining.Orders.{host_order}
use Rattle.cbm_session.proofs.joining.Owning.{part_owned, part_order}
use Rattle.cbm_session.proofs.reading.OneReading.{NoAtn}
use Rattle.cbm_session.proofs.reading.PieceReadings.{next_seat, next_seats}
use Rattle.cbm_session.proofs.timing.SessionOrder.{part_host, piece_goes}
use Rattle.cbm_session.specs.Among.{Rest, wires_of, FollowsAmong}
use Rattle.cbm_session.specs.Buses.{rest_at, SaysAs, StandsAmong}
use Rattle.cbm_session.specs.Laws.{GoesOn}
use Rattle.cbm_session.specs.Pieces.{Whole, Piece, Point, host_part, own_part, steps_of, before, piece_steps, Fits, PieceFits, held_by, seat_with, whole_point, point_after, Full, Cut}
use Rattle.cbm_session.specs.Playing.{Station, AllBytes, Plays, stays, change, reaction}
use Rattle.cbm_session.specs.Seats.{Seat, device}
use Rattle.cbm_session.specs.Steps.{Step, moment_of, events_of}

abbrev pub whole_of : Piece → Whole
whole_of (Full w) = w
whole_of (Cut w c) = w

-- a piece to its end, or to a cut
abbrev pub upto : Option ℕ → Whole → Piece
upto None w = Full w
upto (Some c) w = Cut w c

-- a seat after a piece
abbrev pub seat_afterwards : Point → Piece → Seat → Seat
seat_afterwards p (Full w) s = next_seat w s
seat_afterwards p (Cut w c) s = seat_with s.role (held_by s.own (before c (own_part p w s))) s

pub seats_afterwards : (p : Point) (k : Piece) → (point_after p k).seats ≡ map (λ s. seat_afterwards p k s) p.seats
seats_afterwards p (Full w) = next_seats p w
seats_afterwards p (Cut w c) = refl

pub whole_fits : (p : Point) (k : Piece) → PieceFits p k → Fits p (whole_of k)
whole_fits p (Full w) f = f
whole_fits p (Cut w c) f = f.0

pub party_after : (p : Point) (k : Piece) (s : Seat) → (seat_afterwards p k s).party ≡ s.party
party_after p (Full w) s = next_party w s
party_after p (Cut w c) s = refl

pub devices_after : (p : Point) (k : Piece) → map (λ s. device s) (point_after p k).seats ≡ map (λ s. device s) p.seats
devices_after p k = ap (λ (l : List Seat). map (λ s. device s) l) (seats_afterwards p k) ∙ go p.seats
  where
    go : (ss : List Seat) → map (λ s. device s) (map (λ s. seat_afterwards p k s) ss) ≡ map (λ s. device s) ss
    go [] = refl
    go (s ∷ ss) = ap (λ (b : Party). b.device ∷ map (λ x. device x) (map (λ x. seat_afterwards p k x) ss)) (party_after p k s) ∙ ap (λ (l : List ℕ). device s ∷ l) (go ss)

-- A drive that stands at a point follows a piece and stands after it, whole or cut.
pub record Followed (p : Point) (k : Piece) (s : Seat) (q : Port) (peek : Option (ℕ × Bool)) : Type 0 where
  pub rest : Rest
  pub port : Port
  pub follows : FollowsAmong peek (rest_at (device s) p) q (piece_steps p k) rest port
  pub there : StandsAmong (point_after p k) (seat_afterwards p k s) port
  pub sound : IsSound (point_after p k) (seat_afterwards p k s)
  pub is : rest ≡ rest_at (device (seat_afterwards p k s)) (point_after p k)

pub follow : (p : Point) (k : Piece) (s : Seat) (q : Port) (peek : Option (ℕ × Bool)) → IsSound p s → StandsAmong p s q → PieceFits p k → SaysAs s.role k peek → Followed p k s q peek
follow p (Full w) s q peek h st fits said =
    let z = piece_among w p s q peek h st fits said in
    let p2 = whole_point p w in
    let same = next_party w s in
    let left = left_is p s q z.port (Full w) z.rest peek h st fits z.follows in
    record {
      rest = z.rest;
      port = z.port;
      follows = z.follows;
      there = record {
        party = follows_drive peek z.follows ∙ st.party ∙ (sym same);
        role = z.role;
        own = z.own;
        others = follows_wires peek z.follows st.others ∙ ap (λ (r : Rest). wires_of r) left ∙ ap (λ (b : Party). wires_of (rest_at b.device p2)) (sym same);
        side = z.side;
      };
      sound = whole_sound p s w h fits;
      is = left ∙ ap (λ (b : Party). rest_at b.device p2) (sym same);
    }
follow p (Cut w c) s q peek h st fits said =
    let z = cut_among p s w c q peek h st fits (piece_among w p s q peek h st fits.0 (as_whole s.role said)) in
    let left = left_is p s q z.port (Cut w c) z.rest peek h st fits z.follows in
    record {
      rest = z.rest;
      port = z.port;
      follows = z.follows;
      there = record {
        party = follows_drive peek z.follows ∙ st.party;
        role = z.role;
        own = z.own;
        others = follows_wires peek z.follows st.others ∙ ap (λ (r : Rest). wires_of r) left;
        side = z.side;
      };
      sound = cut_sound p s w c h fits;
      is = left;
    }
  where
    as_whole : (r : Role) → SaysAs r (Cut w c) peek → SaysAs r (Full w) peek
    as_whole Absent y = tt
    as_whole Listener y = tt
    as_whole Talker y = y

-- a piece's steps are in order
pub piece_order : (p : Point) (k : Piece) → PieceFits p k → InOrder (piece_steps p k)
piece_order p (Full w) f = steps_order p w f
piece_order p (Cut w c) f = let k = cut_front c (steps_of p w) (steps_order p w f.0) in order_front (before c (steps_of p w)) k.0 (subst InOrder k.1 (steps_order p w f.0))

pub steps_go : (p : Point) (k : Piece) → PieceFits p k → GoesOn (piece_steps p k)
steps_go p (Full w) f = piece_goes p w f
steps_go p (Cut w c) f = let k = cut_front c (steps_of p w) (steps_order p w f.0) in goes_front (before c (steps_of p w)) k.0 (subst GoesOn k.1 (piece_goes p w f.0))

pub steps_tied : (place : ℕ → ℕ) (p : Point) (k : Piece) → PieceFits p k → Placed place p.seats → Tied place (piece_steps p k)
steps_tied place p (Full w) f placed = tied_all place (λ (x : Seat). own_part p w x) (part_owned p w) (part_order p w f) (host_part p w) p.seats (part_host p w) (host_order p w f) placed
steps_tied place p (Cut w c) f placed =
    let k = cut_front c (steps_of p w) (steps_order p w f.0) in
    tied_front place (before c (steps_of p w)) k.0 (subst (Tied place) k.1 (tied_all place (λ (x : Seat). own_part p w x) (part_owned p w) (part_order p w f.0) (host_part p w) p.seats (part_host p w) (host_order p w f.0) placed))

pub steps_last : (p : Point) (k : Piece) → PieceFits p k → LastSaid (steps_of p (whole_of k)) → LastSaid (piece_steps p k)
steps_last p (Full w) f l = l
steps_last p (Cut w c) f l = let k = cut_front c (steps_of p w) (steps_order p w f.0) in last_front (before c (steps_of p w)) k.0 (subst LastSaid k.1 l)

pub every_before : (P : Step → Type 0) (c : ℕ) (ys : List Step) → Every P ys → Every P (before c ys)
every_before P c [] a = tt
every_before P c (y ∷ ys) a = elim (leb_tells (suc (moment_of y)) c) [
  | inl x ↦ (let l = x.1 in subst (Every P) (sym (before_yes c y ys (omega (arith, l)))) (a.0, every_before P c ys a.1))
  | inr x ↦ (let l = x.1 in subst (Every P) (sym (before_no c y ys (omega (arith, l)))) (every_before P c ys a.1))
]

pub upto_fits : (p : Point) (o : Option ℕ) (w : Whole) → PieceFits p (upto o w) → Fits p w
upto_fits p None w f = f
upto_fits p (Some c) w f = f.0

pub upto_last : (p : Point) (o : Option ℕ) (w : Whole) → LastSaid (steps_of p w) → LastSaid (steps_of p (whole_of (upto o w)))
upto_last p None w l = l
upto_last p (Some c) w l = l

-- who goes with steps stays who it is
goes_party : (says : Option (ℕ × Bool)) {r r2 : Rest} {q q2 : Port} {ss : List Step} → Goes says r q ss r2 q2 → q2.party ≡ q.party
goes_party says (bus.ends a b) = ap (λ (x : Port). x.party) b
goes_party says (bus.tells i k f) = goes_party says f
goes_party says (bus.hears a i y k f) = goes_party says f
goes_party says (bus.reacts t more d e sh l f) = goes_party says f

module _ (M : Type 0) (step : M → Act → M) (peek : M → Option (ℕ × Bool)) (place : ℕ → ℕ) where
  -- what is asked of a piece's steps by those who go with them
  pub record IsTidy (ds : List ℕ) (ys : List Step) : Type 0 where
    pub last : LastSaid ys
    pub goes_on : GoesOn ys
    pub order : InOrder ys
    pub tied : Tied place ys
    pub owned : OwnedIn M step peek mute place ds ys

  pub steps_sit : (p : Point) (k : Piece) → PieceFits p k → OwnedIn M step peek mute place (map (λ s. device s) p.seats) (piece_steps p k)
  steps_sit p (Full w) f = steps_owned M step peek mute place p w
  steps_sit p (Cut w c) f =
      let k = cut_front c (steps_of p w) (steps_order p w f.0) in
      owned_front M step peek mute place (map (λ s. device s) p.seats) (before c (steps_of p w)) k.0 (subst (OwnedIn M step peek mute place (map (λ s. device s) p.seats)) k.1 (steps_owned M step peek mute place p w))

  pub piece_tidy : (p : Point) (k : Piece) → PieceFits p k → Placed place p.seats → LastSaid (steps_of p (whole_of k)) → IsTidy (map (λ s. device s) p.seats) (piece_steps p k)
  piece_tidy p k f placed last = record { last = steps_last p k f last; goes_on = steps_go p k f; order = piece_order p k f; tied = steps_tied place p k f placed; owned = steps_sit p k f }

  pub tidy_after_it : (ds : List ℕ) (xs ys : List Step) → IsTidy ds (xs ++ ys) → IsTidy ds ys
  tidy_after_it ds xs ys h = record { last = last_after_it xs ys h.last; goes_on = goes_after xs ys h.goes_on; order = order_after xs ys h.order; tied = tied_after place xs ys h.tied; owned = owned_after M step peek mute place ds xs ys h.owned }

  pub tidy_plain : (says : ℕ → Option (ℕ × Bool)) (ds : List ℕ) (ys : List Step) → IsTidy ds ys → NoAtn ys → IsPlain M step peek says place ds ys
  tidy_plain says ds ys h n = record { noatn = n; last = h.last; goes_on = h.goes_on; order = h.order; tied = h.tied; owned = h.owned }

  -- All stations go on with these steps, whatever they have to say.
  pub record Going (back : List Step) (ss : List (Station M)) : Type 0 where
    pub says : ℕ → Option (ℕ × Bool)
    pub fin : List (Rest × Port)
    pub goes : AllGo M step peek says place ss back fin
    pub tidy : IsTidy (devs M step peek mute place ss) back
    pub rises : Rises M step peek place (devs M step peek mute place ss)

  -- What came of a piece: the play is in it, or after it with all as the session has them.
  pub record Inside (from : List (Station M)) (ys : List Step) (es : List Event) (ss : List (Station M)) : Type 0 where
    pub front : List Step
    pub next : Step
    pub others : List Step
    pub parts : ys ≡ front ++ next ∷ others
    pub shown_so : events_of front ≡ es
    pub going : Going (next ∷ others) ss
    pub ran : RanOn M step peek from front ss

  pub record Afterwards (p : Point) (from : List (Station M)) (ys : List Step) (es : List Event) (n2 : ℕ) (ss2 : List (Station M)) : Type 0 where
    pub more : List Event
    pub now : ℕ
    pub there : List (Station M)
    pub shown_so : es ≡ events_of ys ++ more
    pub plays : Plays M step peek now there more n2 ss2
    pub stand : Stood M step peek place p p.seats there
    pub show : AllShow M step peek mute place there
    pub ran : RanOn M step peek from ys there

  -- the stations that go on are those of the bus
  same_devs : (says : ℕ → Option (ℕ × Bool)) (p : Point) (ss : List Seat) (fin : List (Rest × Port)) (xs : List (Station M)) (ys : List Step) → AllEnd M step peek says place p ss fin → AllGo M step peek says place xs ys fin → devs M step peek mute place xs ≡ map (λ s. device s) ss
  same_devs says p [] [] [] ys a g = refl
  same_devs says p [] [] (x ∷ xs) ys a g = elim g [ ]
  same_devs says p [] (e ∷ es) xs ys a g = elim a [ ]
  same_devs says p (s ∷ ss) [] xs ys a g = elim a [ ]
  same_devs says p (s ∷ ss) (e ∷ es) [] ys a g = elim g [ ]
  same_devs says p (s ∷ ss) (e ∷ es) (x ∷ xs) ys a g =
      let is : x.port.party.device ≡ device s = ap (λ (b : Party). b.device) (sym (goes_party (says x.port.party.device) g.0.goes) ∙ a.0.1.party) in
      ap (λ (v : ℕ). v ∷ devs M step peek mute place xs) is ∙ ap (λ (v : List ℕ). device s ∷ v) (same_devs says p ss es xs ys a.1 g.1)

  -- what all have to say at a play's end are bytes
  pub bytes_last : {n n2 : ℕ} {ss ss2 : List (Station M)} {es : List Event} → Plays M step peek n ss es n2 ss2 → AllBytes M step peek ss2
  bytes_last (stays y e k f) = subst (λ (v : List (Station M)). AllBytes M step peek v) (sym f) y
  bytes_last (change c more y l i e f) = bytes_last f
  bytes_last (reaction t b o h more y e i k f) = bytes_last f

  after_with : (says : ℕ → Option (ℕ × Bool)) (p : Point) (k : Piece) (from : List (Station M)) (fin : List (Rest × Port)) (es : List Event) (n2 : ℕ) (ss2 : List (Station M)) → AllEnd M step peek says place (point_after p k) (map (λ s. seat_afterwards p k s) p.seats) fin
      → PassedAll M step peek says place from (piece_steps p k) fin es n2 ss2 → Afterwards (point_after p k) from (piece_steps p k) es n2 ss2
  after_with says p k from fin es n2 ss2 ends w =
      let p2 = point_after p k in
      let there = stand_so M step peek says place p2 (map (λ s. seat_afterwards p k s) p.seats) fin w.there ends (all_there M step peek says place w.there fin w.goes) in
      record {
        more = w.more;
        now = w.now;
        there = w.there;
        shown_so = w.shown_so;
        plays = w.plays;
        stand = stood M step peek says place p2 p2.seats w.there (subst (λ (l : List Seat). AllStand M step peek says place p2 l w.there) (sym (seats_afterwards p k)) there);
        show = all_show M step peek says place w.there [] fin w.goes;
        ran = w.ran;
      }

  -- So what along_bus gives is one of the two.
  pub come_to : {ss2 : List (Station M)} → AllBytes M step peek ss2 → (says : ℕ → Option (ℕ × Bool)) (p : Point) (k : Piece) (from : List (Station M)) (fin : List (Rest × Port)) (es rest : List Event) (n2 : ℕ)
      → AllEnd M step peek says place (point_after p k) (map (λ s. seat_afterwards p k s) p.seats) fin → Rises M step peek place (map (λ s. device s) p.seats) → IsTidy (map (λ s. device s) p.seats) (piece_steps p k)
      → WithinAll M step peek says place from (piece_steps p k) fin es rest ss2 ⊎ PassedAll M step peek says place from (piece_steps p k) fin es n2 ss2
      → Inside from (piece_steps p k) es ss2 ⊎ Afterwards (point_after p k) from (piece_steps p k) es n2 ss2
  come_to {ss2} bytes says p k from fin es rest n2 ends rises tidy (inl w) = go w.back w.parts w.goes
    where
      ds : List ℕ
      ds = map (λ s. device s) p.seats

      go : (back : List Step) → piece_steps p k ≡ w.front ++ back → AllGo M step peek says place ss2 back fin → Inside from (piece_steps p k) es ss2 ⊎ Afterwards (point_after p k) from (piece_steps p k) es n2 ss2
      go [] e g =
          let all : piece_steps p k ≡ w.front = e ∙ append-nil w.front in
          inr (after_with says p k from fin es n2 ss2 ends (record {
            more = [];
            now = n2;
            there = ss2;
            shown_so = sym (append-nil (events_of (piece_steps p k)) ∙ ap (λ (l : List Step). events_of l) all ∙ w.shown_so);
            plays = stays bytes refl refl refl;
            goes = g;
            ran = subst (λ (l : List Step). RanOn M step peek from l ss2) (sym all) w.ran;
          }))
      go (y ∷ ys) e g =
          let same = same_devs says (point_after p k) (map (λ s. seat_afterwards p k s) p.seats) fin ss2 (y ∷ ys) ends g ∙ ap (λ (l : List Seat). map (λ s. device s) l) (sym (seats_afterwards p k)) ∙ devices_after p k in
          let left = tidy_after_it (map (λ s. device s) p.seats) w.front (y ∷ ys) (subst (IsTidy (map (λ s. device s) p.seats)) e tidy) in
          inl (record {
            front = w.front;
            next = y;
            others = ys;
            parts = e;
            shown_so = w.shown_so;
            going = record { says = says; fin = fin; goes = g; tidy = subst (λ (l : List ℕ). IsTidy l (y ∷ ys)) (sym same) left; rises = subst (λ (l : List ℕ). Rises M step peek place l) (sym same) rises };
            ran = w.ran;
          })
  come_to {ss2} bytes says p k from fin es rest n2 ends rises tidy (inr w) = inr (after_with says p k from fin es n2 ss2 ends w)

  -- How each drive goes with a piece, from how it follows it.
  module _ (says : ℕ → Option (ℕ × Bool)) where
    abbrev pub TurnsSo : Point → Piece → (Seat → Station M → Type 0) → Type 0
    TurnsSo p k A = (s : Seat) (x : Station M) → StandsSo M step peek says place p s x → A s x → (r2 : Rest) (q2 : Port) → FollowsAmong (says x.port.party.device) x.rest x.port (piece_steps p k) r2 q2 → StandsAmong (point_after p k) (seat_afterwards p k s) q2
        → GoesSo M step peek says place x (piece_steps p k) (r2, q2)

    pub all_go_with : (p : Point) (k : Piece) (A : Seat → Station M → Type 0) → PieceFits p k → TurnsSo p k A → ((s : Seat) → IsSound p s → SaysAs s.role k (says (device s))) → (ss : List Seat) (xs : List (Station M)) → AllStand M step peek says place p ss xs
        → AllWith M step peek says place A ss xs → (es : List (Rest × Port)) × (AllGo M step peek says place xs (piece_steps p k) es × AllEnd M step peek says place (point_after p k) (map (λ s. seat_afterwards p k s) ss) es)
    all_go_with p k A fits turn said [] [] h a = ([], (tt, tt))
    all_go_with p k A fits turn said [] (x ∷ xs) h a = elim h [ ]
    all_go_with p k A fits turn said (s ∷ ss) [] h a = elim h [ ]
    all_go_with p k A fits turn said (s ∷ ss) (x ∷ xs) h a =
        let st = h.0.stands in
        let q = x.port in
        let d = q.party.device in
        let dev : device s ≡ d = sym (ap (λ (b : Party). b.device) st.party) in
        let z = follow p k s q (says d) h.0.sound st fits (subst (λ (v : ℕ). SaysAs s.role k (says v)) dev (said s h.0.sound)) in
        let f : FollowsAmong (says d) x.rest q (piece_steps p k) z.rest z.port = subst (λ (r : Rest). FollowsAmong (says d) r q (piece_steps p k) z.rest z.port) (sym h.0.rest) z.follows in
        let go = turn s x h.0 a.0 z.rest z.port f z.there in
        let more = all_go_with p k A fits turn said ss xs h.1 a.1 in
        ((z.rest, z.port) ∷ more.0, ((go, more.1.0), ((z.sound, z.there, z.is), more.1.1)))
