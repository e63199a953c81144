-- Every drive of a bus follows every session from rest.
use Rattle.std.proofs.Common.{◌≡◌, ℕ, zero, ◌+◌, inl, inr, Bool, true, false, List, [], ◌∷◌, ◌++◌, map, Option, ap, sym, ◌∙◌, subst, arith, refl}
use Rattle.std.specs.Prelude.{if◌then◌else◌, nat_eq}
use Rattle.cbm_iec.specs.Ports.{resting}
use Rattle.cbm_iec.specs.declared.lines.Line.TheVariants.{Atn, Clock, Data}
use Rattle.cbm_iec.specs.declared.lines.Line.{Line}
use Rattle.cbm_iec.specs.declared.lines.Held.{Held}
use Rattle.cbm_iec.specs.declared.party.Party.{Party}
use Rattle.cbm_iec.specs.declared.party.Role.TheVariants.{Absent, Listener, Talker}
use Rattle.cbm_iec.specs.declared.party.Role.{Role}
use Rattle.cbm_iec.specs.declared.port.Port.{Port}
use Rattle.cbm_session.proofs.alone.Frames.{wires}
use Rattle.cbm_session.proofs.among.Answers.{talker_law}
use Rattle.cbm_session.proofs.among.Silences.{nothing_law}
use Rattle.cbm_session.proofs.among.Counted.{rest_after}
use Rattle.cbm_session.proofs.among.Frames.{each_sits}
use Rattle.cbm_session.proofs.among.Fronts.{steps_order, among_cut, follows_rest, follows_wires, follows_drive, cut_among}
use Rattle.cbm_session.proofs.among.Points.{none_listen, next_party, whole_sound, cut_sound, AllSound, rest_sound}
use Rattle.cbm_session.proofs.among.Pulls.{pull_among}
use Rattle.cbm_session.proofs.among.Standing.{IsSound, rest_afterwards, AmongLaw}
use Rattle.cbm_session.proofs.among.Talks.{command_law, byte_law, absent_byte_law, absent_talk_law, talk_law, side_there}
use Rattle.cbm_session.proofs.among.Turns.{SeatLaw, with_role, listener_law, absent_law, nobody_law, absent_turn_law, absent_nothing_law}
use Rattle.cbm_session.proofs.joining.Merging.{NoneBefore, InOrder, cut_front}
use Rattle.cbm_session.proofs.joining.Seating.{Sits}
use Rattle.cbm_session.proofs.joining.Talkers.{silent_bus}
use Rattle.cbm_session.proofs.reading.OneReading.{seat_of}
use Rattle.cbm_session.proofs.reading.PieceReadings.{next_seat}
use Rattle.cbm_session.specs.Among.{Rest, wires_of, FollowsAmong}
use Rattle.cbm_session.specs.Buses.{OwnAt, is_held, one_where, holding, rest_at, seat_for, StandsThere, SaysAs, FollowsUpTo, FollowsAllAmong, EachFollows, FollowsBuses, SideAmong, StandsAmong}
use Rattle.cbm_session.specs.Pieces.{Whole, Piece, Point, own_part, steps_of, before, piece_steps, PieceFits, held_by, seat_with, whole_point, point_after, PullPiece, Command, Byte, ToListener, ToNobody, ToTalker, Nothing, Talk, Full, Cut, Listening, Leading}
use Rattle.cbm_session.specs.Seats.{lines, Seat, device, is_listener, is_talker, has_listener}
use Rattle.cbm_session.specs.Sessions.{rest, Linked, AreDrives}
use Rattle.cbm_session.specs.Steps.{Step, moment_of}

-- by the roles that a piece allows
by_roles : (w : Whole) (s : Seat) → (s.role ≡ Absent → SeatLaw w s) → (s.role ≡ Listener → SeatLaw w s) → (s.role ≡ Talker → SeatLaw w s) → SeatLaw w s
by_roles w s a l t = go s.role refl
  where
    go : (r : Role) → s.role ≡ r → SeatLaw w s
    go Absent e = a e
    go Listener e = l e
    go Talker e = t e

not_listening : (p : Point) (s : Seat) → IsSound p s → has_listener p.seats ≡ false → s.role ≡ Listener → ⊥
not_listening p s h e r =
    let deaf : is_listener s.role ≡ false = each_sits (λ x. is_listener x.role ≡ false) (device s) p.seats s (none_listen p.seats e) h.seated.sits in
    let yes : is_listener s.role ≡ true = ap is_listener r in
    let both : true ≡ false = sym yes ∙ deaf in
    cc

pub not_talking : (s : Seat) → is_talker s.role ≡ false → s.role ≡ Talker → ⊥
not_talking s silent r = let yes : is_talker s.role ≡ true = ap is_talker r in let both : true ≡ false = sym yes ∙ silent in cc

-- each piece is followed
pub piece_among : (w : Whole) → AmongLaw w
piece_among (PullPiece at) = pull_among at
piece_among (Command g) = λ p s. command_law s g p
piece_among (Byte eoi g) = λ p s q peek sound st f y.
    by_roles (Byte eoi g) s (λ e. with_role (Byte eoi g) s Absent e (absent_byte_law s.party s.own eoi g)) (λ e. with_role (Byte eoi g) s Listener e (byte_law s.party s.own eoi g))
    (λ e. absurd (subst (λ (r : Role). SideAmong Listening r q.side) e (side_there p s q Listening st f.0))) p q peek sound st f y
piece_among (ToListener at) = λ p s q peek sound st f y.
    by_roles (ToListener at) s (λ e. with_role (ToListener at) s Absent e (absent_law s.party s.own at)) (λ e. with_role (ToListener at) s Listener e (listener_law s.party s.own at))
    (λ e. absurd (not_talking s (silent_bus (device s) p.seats s sound.seated.sits f.talker) e)) p q peek sound st f y
piece_among (ToNobody at clock) = λ p s q peek sound st f y.
    by_roles (ToNobody at clock) s (λ e. with_role (ToNobody at clock) s Absent e (nobody_law s.party s.own at clock)) (λ e. absurd (not_listening p s sound f.0.listener e))
    (λ e. absurd (not_talking s (silent_bus (device s) p.seats s sound.seated.sits f.0.talker) e)) p q peek sound st f y
piece_among (ToTalker at clock) = λ p s q peek sound st f y.
    by_roles (ToTalker at clock) s (λ e. with_role (ToTalker at clock) s Absent e (absent_turn_law s.party s.own at clock)) (λ e. absurd (not_listening p s sound f.0.listener e))
    (λ e. with_role (ToTalker at clock) s Talker e (talker_law s.party s.own at clock)) p q peek sound st f y
piece_among (Nothing at clock freed) = λ p s q peek sound st f y.
    by_roles (Nothing at clock freed) s (λ e. with_role (Nothing at clock freed) s Absent e (absent_nothing_law s.party s.own at clock freed)) (λ e. absurd (not_listening p s sound f.0.listener e))
    (λ e. with_role (Nothing at clock freed) s Talker e (nothing_law s.party s.own at clock freed)) p q peek sound st f y
piece_among (Talk at g) = λ p s q peek sound st f y.
    by_roles (Talk at g) s (λ e. with_role (Talk at g) s Absent e (absent_talk_law s.party s.own at g)) (λ e. absurd (subst (λ (r : Role). SideAmong (Leading at) r q.side) e (side_there p s q (Leading at) st f.0)))
    (λ e. with_role (Talk at g) s Talker e (talk_law s.party s.own at g)) p q peek sound st f y

-- what is said with a cut piece is what is said with the whole one
says_whole : (r : Role) (w : Whole) (c : ℕ) (peek : Option (ℕ × Bool)) → SaysAs r (Cut w c) peek → SaysAs r (Full w) peek
says_whole Absent w c peek y = tt
says_whole Listener w c peek y = tt
says_whole Talker w c peek y = y

-- what is left of the others is what the point after it says
pub left_is : (p : Point) (s : Seat) (q q2 : Port) (k : Piece) (r2 : Rest) (peek : Option (ℕ × Bool)) → IsSound p s → StandsAmong p s q → PieceFits p k → FollowsAmong peek (rest_at (device s) p) q (piece_steps p k) r2 q2 → r2 ≡ rest_at (device s) (point_after p k)
left_is p s q q2 k r2 peek h t f g = follows_rest peek g ∙ ap (λ (b : Party). rest_afterwards b.device (rest_at (device s) p) (piece_steps p k)) t.party ∙ rest_after p s k h f

-- and the drive is told so
followed : (p : Point) (s : Seat) (q q2 : Port) (k : Piece) (r2 : Rest) (peek : Option (ℕ × Bool)) → IsSound p s → StandsAmong p s q → PieceFits p k → FollowsAmong peek (rest_at (device s) p) q (piece_steps p k) r2 q2
    → FollowsAmong peek (rest_at q.party.device p) q (piece_steps p k) (rest_at q.party.device (point_after p k)) q2
followed p s q q2 k r2 peek h t f g =
    subst (λ (b : Party). FollowsAmong peek (rest_at b.device p) q (piece_steps p k) (rest_at b.device (point_after p k)) q2) (sym t.party)
    (subst (λ (r : Rest). FollowsAmong peek (rest_at (device s) p) q (piece_steps p k) r q2) (left_is p s q q2 k r2 peek h t f g) g)

-- a piece is in order, whole or cut
order_left : (xs ys : List Step) → InOrder (xs ++ ys) → InOrder xs
order_left [] ys o = tt
order_left (x ∷ xs) ys o = (none_left xs o.0, order_left xs ys o.1)
  where
    none_left : (zs : List Step) → NoneBefore (moment_of x) (zs ++ ys) → NoneBefore (moment_of x) zs
    none_left [] n = tt
    none_left (z ∷ zs) n = (n.0, none_left zs n.1)

piece_order : (p : Point) (k : Piece) → PieceFits p k → InOrder (piece_steps p k)
piece_order p (Full w) f = steps_order p w f
piece_order p (Cut w c) f = let o = steps_order p w f.0 in let cut = cut_front c (steps_of p w) o in order_left (before c (steps_of p w)) cut.0 (subst InOrder cut.1 o)

-- so it is followed up to each moment
up_to : (p : Point) (q q2 : Port) (k : Piece) (peek : Option (ℕ × Bool)) → PieceFits p k → FollowsAmong peek (rest_at q.party.device p) q (piece_steps p k) (rest_at q.party.device (point_after p k)) q2 → FollowsUpTo peek q p k
up_to p q q2 k peek f g = λ c e. among_cut peek c (rest_at q.party.device p) (rest_at q.party.device (point_after p k)) q q2 (piece_steps p k) g (piece_order p k f) e

-- The drive's seat is the one of its device, so it stands there as the session has it.
seat_found : (d : ℕ) (seats : List Seat) (s : Seat) → Sits d seats s → seat_for d seats ≡ s
seat_found d [] s h = elim h [ ]
seat_found d (x ∷ xs) s (inl h) = ap (λ (v : Bool). if v then x else seat_for d xs) h.1 ∙ h.0
seat_found d (x ∷ xs) s (inr h) = ap (λ (v : Bool). if v then x else seat_for d xs) h.0 ∙ seat_found d xs s h.1

stands_there : (p : Point) (s : Seat) (q : Port) → IsSound p s → StandsAmong p s q → StandsThere p q
stands_there p s q h t =
    let e : seat_for q.party.device p.seats ≡ s = ap (λ (b : Party). seat_for b.device p.seats) t.party ∙ seat_found (device s) p.seats s h.seated.sits in
    let own = each_sits (λ x. OwnAt p.place x.role x.own) (device s) p.seats s h.own h.seated.sits in (
      subst (λ (x : Seat). StandsAmong p x q) (sym e) t,
      subst (λ (r : Role). OwnAt p.place r q.own) (sym t.role) (subst (λ (o : Held). OwnAt p.place s.role o) (sym t.own) own),
    )

follows_among : (ks : List Piece) (p : Point) (s : Seat) (q : Port) → IsSound p s → StandsAmong p s q → Linked p ks → FollowsAllAmong q p ks
follows_among [] p s q h t l = stands_there p s q h t
follows_among (Full w ∷ ks) p s q h t l = (
  stands_there p s q h t,
  λ peek y.
      let x = piece_among w p s q peek h t l.0 (subst (λ (r : Role). SaysAs r (Full w) peek) t.role y) in
      let s2 = next_seat w s in
      let p2 = whole_point p w in
      let same = next_party w s in
      let left = left_is p s q x.port (Full w) x.rest peek h t l.0 x.follows in
      let there : StandsAmong p2 s2 x.port = record {
        party = follows_drive peek x.follows ∙ t.party ∙ (sym same);
        role = x.role;
        own = x.own;
        others = follows_wires peek x.follows t.others ∙ ap (λ (r : Rest). wires_of r) left ∙ ap (λ (b : Party). wires_of (rest_at b.device p2)) (sym same);
        side = x.side;
      } in
      let all = followed p s q x.port (Full w) x.rest peek h t l.0 x.follows in
      (up_to p q x.port (Full w) peek l.0 all, (x.port, (all, follows_among ks p2 s2 x.port (whole_sound p s w h l.0) there l.1))),
)
follows_among (Cut w c ∷ ks) p s q h t l = (
  stands_there p s q h t,
  λ peek y.
      let whole = piece_among w p s q peek h t l.0.0 (says_whole s.role w c peek (subst (λ (r : Role). SaysAs r (Cut w c) peek) t.role y)) in
      let x = cut_among p s w c q peek h t l.0 whole in
      let s2 = seat_with s.role (held_by s.own (before c (own_part p w s))) s in
      let p2 = point_after p (Cut w c) in
      let left = left_is p s q x.port (Cut w c) x.rest peek h t l.0 x.follows in
      let there : StandsAmong p2 s2 x.port = record {
        party = follows_drive peek x.follows ∙ t.party;
        role = x.role;
        own = x.own;
        others = follows_wires peek x.follows t.others ∙ ap (λ (r : Rest). wires_of r) left;
        side = x.side;
      } in
      let all = followed p s q x.port (Cut w c) x.rest peek h t l.0 x.follows in
      (up_to p q x.port (Cut w c) peek l.0 all, (x.port, (all, follows_among ks p2 s2 x.port (cut_sound p s w c h l.0) there l.1))),
)

-- at rest nobody holds a line
none_hold : (line : Line) (d : ℕ) (bs : List Party) → holding line d (map (λ b. seat_of b) bs) ≡ zero
none_hold line d [] = refl
none_hold line d (b ∷ bs) = go (nat_eq d b.device) (none_hold line d bs)
  where
    free : (x : Line) → one_where (is_held x (lines false false)) ≡ zero
    free Atn = refl
    free Clock = refl
    free Data = refl

    go : (v : Bool) → holding line d (map (λ b. seat_of b) bs) ≡ zero → (if v then holding line d (map (λ b. seat_of b) bs) else one_where (is_held line (lines false false)) + holding line d (map (λ b. seat_of b) bs)) ≡ zero
    go true e = e
    go false e = let k = free line in omega (arith, k, e)

-- so the others of each hold nothing
pub rest_free : (bs : List Party) (c : Party) → rest_at c.device (rest bs) ≡ record { host = record { atn_low = false; clock_low = false; data_low = false }; clocks = zero; datas = zero }
rest_free bs c =
    ap (λ (n : ℕ). record { host = record { atn_low = false; clock_low = false; data_low = false }; clocks = n; datas = holding Data c.device (rest bs).seats }) (none_hold Clock c.device bs)
    ∙ ap (λ (n : ℕ). record { host = record { atn_low = false; clock_low = false; data_low = false }; clocks = zero; datas = n }) (none_hold Data c.device bs)

pub at_rest : (bs : List Party) (c : Party) → StandsAmong (rest bs) (seat_of c) (resting c)
at_rest bs c =
    let seats = map (λ b. seat_of b) bs in
    record {
      party = refl;
      role = refl;
      own = refl;
      others = sym (ap (λ (n : ℕ). wires_of (record { host = wires false false false; clocks = n; datas = holding Data c.device seats })) (none_hold Clock c.device bs) ∙ ap (λ (n : ℕ). wires_of (record { host = wires false false false; clocks = zero; datas = n })) (none_hold Data c.device bs));
      side = inl refl;
    }

each_follows : (bs : List Party) (ks : List Piece) (cs : List Party) → Linked (rest bs) ks → AreDrives cs → AllSound (rest bs) cs → EachFollows cs (rest bs) ks
each_follows bs ks [] l d h = tt
each_follows bs ks (c ∷ cs) l d h = (follows_among ks (rest bs) (seat_of c) (resting c) h.0 (at_rest bs c) l, each_follows bs ks cs l d.1 h.1)

pub follows_buses : FollowsBuses
follows_buses bs ks h l = each_follows bs ks bs l h.drives (rest_sound bs h)
