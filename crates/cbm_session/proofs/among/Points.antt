-- The points of a session of a bus: what stands after a piece stands as it should, and what the others hold where the place says it.
use Rattle.std.proofs.Common.{◌≡◌, ℕ, zero, suc, ◌+◌, ◌≤◌, inl, inr, Bool, true, false, not, List, [], ◌∷◌, length, map, ap, sym, ◌∙◌, subst, arith, refl}
use Rattle.std.specs.Prelude.{if◌then◌else◌, nat_eq}
use Rattle.cbm_iec.specs.declared.lines.Line.TheVariants.{Atn, Clock, Data}
use Rattle.cbm_iec.specs.declared.lines.Line.{Line}
use Rattle.cbm_iec.specs.declared.lines.Held.{Held}
use Rattle.cbm_iec.specs.declared.party.Party.{Party}
use Rattle.cbm_iec.specs.declared.party.Role.TheVariants.{Absent, Listener, Talker}
use Rattle.cbm_iec.specs.declared.party.Role.{Role}
use Rattle.cbm_session.proofs.alone.Frames.{wires}
use Rattle.cbm_session.proofs.among.Around.{ForOthers}
use Rattle.cbm_session.proofs.among.Frames.{in_hold}
use Rattle.cbm_session.proofs.among.Standing.{HostAt, IsSound}
use Rattle.cbm_session.proofs.frames.Phases.{Each, each}
use Rattle.cbm_session.proofs.joining.Merging.{merge_nil}
use Rattle.cbm_session.proofs.joining.Seating.{Apart, Sits}
use Rattle.cbm_session.proofs.joining.Talkers.{if_false, true_false, silent_bus, OneTalker, talker_is, KeepsDrives, standing_drives}
use Rattle.cbm_session.proofs.reading.OneReading.{IsSeated, seated, whole_seated, seat_of, AllSit, all_sit, are_seats, none_talks}
use Rattle.cbm_session.proofs.reading.PieceReadings.{next_seat}
use Rattle.cbm_session.specs.Bits.{byte_in_cells}
use Rattle.cbm_session.specs.Buses.{is_held, one_where, holding, rest_at, OwnAt}
use Rattle.cbm_session.specs.Following.{in_attention}
use Rattle.cbm_session.specs.Frames.{Told, is_last, telling, taking}
use Rattle.cbm_session.specs.Laws.{SeatsReact}
use Rattle.cbm_session.specs.Pieces.{Whole, BusPlace, Point, own_part, steps_of, before, Fits, PieceFits, held_by, told_place, seat_with, obeying, standing, whole_point, point_after, PullPiece, Command, Byte, ToListener, ToNobody, ToTalker, Nothing, Talk, Cut, Open, Commanding, Listening, Leading, Cutting}
use Rattle.cbm_session.specs.Seats.{at_pace, lines, Seat, device, is_listener, is_talker, has_listener, has_talker, talker_of, listeners}
use Rattle.cbm_session.specs.Sessions.{rest, AreDrives, IsBus}
use Rattle.cbm_session.specs.Steps.{Step, merge, merge_all}

-- Where no drive talks, none of them does; where none listens, none.
pub none_talk : (seats : List Seat) → has_talker seats ≡ false → Each (λ x. is_talker x.role ≡ false) seats
none_talk [] h = tt
none_talk (x ∷ xs) h = let k = if_false (is_talker x.role) (has_talker xs) h in (k.0, none_talk xs k.1)

pub none_listen : (seats : List Seat) → has_listener seats ≡ false → Each (λ x. is_listener x.role ≡ false) seats
none_listen [] h = tt
none_listen (x ∷ xs) h = let k = if_false (is_listener x.role) (has_listener xs) h in (k.0, none_listen xs k.1)

-- and where this one talks, no other does
pub only_talker : (d : ℕ) (seats : List Seat) (s : Seat) → OneTalker seats → Sits d seats s → is_talker s.role ≡ true → ForOthers d (λ x. is_talker x.role ≡ false) seats
only_talker d [] s o h e = elim h [ ]
only_talker d (x ∷ xs) s o (inl h) e =
    let v : is_talker x.role ≡ true = subst (λ (q : Seat). is_talker q.role ≡ true) (sym h.0) e in (
      λ (k : nat_eq d (device x) ≡ false). absurd (true_false (nat_eq d (device x)) h.1 k),
      each (λ y. is_talker y.role ≡ false) (λ y. nat_eq d (device y) ≡ false → is_talker y.role ≡ false) xs (λ y g k. g) (none_talk xs (o.0 v)),
    )
only_talker d (x ∷ xs) s o (inr h) e = (λ (k : nat_eq d (device x) ≡ false). go (is_talker x.role) refl, only_talker d xs s o.1 h.1 e)
  where
    go : (v : Bool) → is_talker x.role ≡ v → is_talker x.role ≡ false
    go true k = absurd (true_false (is_talker s.role) e (silent_bus d xs s h.1 (o.0 k)))
    go false k = k

-- What a drive holds after a piece is what it should at the place there.
each_map : (P : Seat → Type 0) (f : Seat → Seat) (ss : List Seat) → Each (λ x. P (f x)) ss → Each P (map f ss)
each_map P f [] h = tt
each_map P f (x ∷ xs) h = (h.0, each_map P f xs h.1)

pub each_seat : (P : Seat → Type 0) (ss : List Seat) → ((x : Seat) → P x) → Each P ss
each_seat P [] f = tt
each_seat P (x ∷ xs) f = (f x, each_seat P xs f)

pub both_each : (P Q : Seat → Type 0) (ss : List Seat) → Each P ss → Each Q ss → Each (λ x. P x × Q x) ss
both_each P Q [] a b = tt
both_each P Q (x ∷ xs) a b = ((a.0, b.0), both_each P Q xs a.1 b.1)

abbrev pub StandsSo : BusPlace → Seat → Type 0
StandsSo place x = OwnAt place x.role x.own

-- at Listening none talks, and where one leads none listens
hears_own : (r : Role) (own : Held) → OwnAt Listening r own → is_talker r ≡ false
hears_own Absent own h = refl
hears_own Listener own h = refl
hears_own Talker own h = elim h [ ]

leads_own : (at : ℕ) (r : Role) (own : Held) → OwnAt (Leading at) r own → is_listener r ≡ false
leads_own at Absent own h = refl
leads_own at Listener own h = elim h [ ]
leads_own at Talker own h = refl

listening_own : (x : Seat) → is_talker x.role ≡ false → StandsSo Listening (standing (lines false false) x)
listening_own x = go x.role
  where
    go : (r : Role) → is_talker r ≡ false → StandsSo Listening (standing (lines false false) (record { party = x.party; role = r; own = x.own }))
    go Absent h = refl
    go Listener h = refl
    go Talker h = cc

open_own : (x : Seat) → is_listener x.role ≡ false → StandsSo Open (standing (lines false false) x)
open_own x = go x.role
  where
    go : (r : Role) → is_listener r ≡ false → StandsSo Open (standing (lines false false) (record { party = x.party; role = r; own = x.own }))
    go Absent h = refl
    go Listener h = cc
    go Talker h = refl

leading_own : (at : ℕ) (x : Seat) → is_listener x.role ≡ false → StandsSo (Leading at) (standing (lines true false) x)
leading_own at x = go x.role
  where
    go : (r : Role) → is_listener r ≡ false → StandsSo (Leading at) (standing (lines true false) (record { party = x.party; role = r; own = x.own }))
    go Absent h = refl
    go Listener h = cc
    go Talker h = refl

told_own : (f : Told) (x : Seat) → is_listener x.role ≡ false → StandsSo (told_place f) (standing (lines (not (is_last f)) false) x)
told_own f x h = go (is_last f)
  where
    go : (v : Bool) → StandsSo (if v then Open else Leading (f.accept + 100)) (standing (lines (not v) false) x)
    go true = open_own x h
    go false = leading_own (f.accept + 100) x h

told_host : (f : Told) → HostAt (told_place f) (lines false true)
told_host f = go (is_last f)
  where
    go : (v : Bool) → HostAt (if v then Open else Leading (f.accept + 100)) (lines false true)
    go true = tt
    go false = refl

-- those who stand after a piece, where something holds of each before it
stand_by : (P : Seat → Type 0) (place : BusPlace) (f : Seat → Seat) (ss : List Seat) → ((x : Seat) → P x → StandsSo place (f x)) → Each P ss → Each (StandsSo place) (map f ss)
stand_by P place f ss g h = each_map (StandsSo place) f ss (each P (λ x. StandsSo place (f x)) ss g h)

whole_own : (p : Point) (w : Whole) → Each (StandsSo p.place) p.seats → Fits p w → Each (StandsSo (whole_point p w).place) (whole_point p w).seats
whole_own p (PullPiece at) o h = each_map (StandsSo (Commanding false)) (λ x. seat_with x.role (lines false true) x) p.seats (each_seat (λ x. StandsSo (Commanding false) (seat_with x.role (lines false true) x)) p.seats (λ (x : Seat). refl))
whole_own p (Command f) o h = each_map (StandsSo (Commanding true)) (λ x. obeying (byte_in_cells f.cells) x) p.seats (each_seat (λ x. StandsSo (Commanding true) (obeying (byte_in_cells f.cells) x)) p.seats (λ (x : Seat). refl))
whole_own p (Byte eoi f) o h =
    stand_by (StandsSo Listening) Listening (λ x. standing (lines false false) x) p.seats (λ (x : Seat) (k : StandsSo Listening x). listening_own x (hears_own x.role x.own k))
    (subst (λ (q : BusPlace). Each (StandsSo q) p.seats) h.0 o)
whole_own p (ToListener at) o h = stand_by (λ x. is_talker x.role ≡ false) Listening (λ x. standing (lines false false) x) p.seats listening_own (none_talk p.seats h.talker)
whole_own p (ToNobody at clock) o h = stand_by (λ x. is_listener x.role ≡ false) Open (λ x. standing (lines false false) x) p.seats open_own (none_listen p.seats h.0.listener)
whole_own p (ToTalker at clock) o h =
    let place = (whole_point p (ToTalker at clock)).place in
    stand_by (λ x. is_listener x.role ≡ false) place (λ x. standing (lines true false) x) p.seats (leading_own (clock + (talker_of p.seats).reaction + 80)) (none_listen p.seats h.0.listener)
whole_own p (Nothing at clock freed) o h = stand_by (λ x. is_listener x.role ≡ false) Open (λ x. standing (lines false false) x) p.seats open_own (none_listen p.seats h.0.listener)
whole_own p (Talk at f) o h =
    stand_by (StandsSo (Leading at)) (told_place f) (λ x. standing (lines (not (is_last f)) false) x) p.seats (λ (x : Seat) (k : StandsSo (Leading at) x). told_own f x (leads_own at x.role x.own k))
    (subst (λ (q : BusPlace). Each (StandsSo q) p.seats) h.0 o)

-- and what the host holds
whole_host : (p : Point) (w : Whole) → HostAt (whole_point p w).place (whole_point p w).host
whole_host p (PullPiece at) = refl
whole_host p (Command f) = refl
whole_host p (Byte eoi f) = refl
whole_host p (ToListener at) = refl
whole_host p (ToNobody at clock) = tt
whole_host p (ToTalker at clock) = refl
whole_host p (Nothing at clock freed) = tt
whole_host p (Talk at f) = told_host f

-- the drives and their reactions stay
react_map : (f : Seat → Seat) (ss : List Seat) → KeepsDrives f → SeatsReact ss → SeatsReact (map f ss)
react_map f [] k h = tt
react_map f (x ∷ xs) k h = (
  subst (λ (b : Party). 1 ≤ b.reaction) (sym (k x)) h.0,
  subst (λ (b : Party). b.reaction ≤ 60) (sym (k x)) h.1,
  react_map f xs k h.2,
)

pub whole_react : (p : Point) (w : Whole) → SeatsReact p.seats → SeatsReact (whole_point p w).seats
whole_react p (PullPiece at) h = react_map (λ x. seat_with x.role (lines false true) x) p.seats (λ (x : Seat). refl) h
whole_react p (Command f) h = react_map (λ x. obeying (byte_in_cells f.cells) x) p.seats (λ (x : Seat). refl) h
whole_react p (Byte eoi f) h = react_map (λ x. standing (lines false false) x) p.seats (standing_drives (lines false false)) h
whole_react p (ToListener at) h = react_map (λ x. standing (lines false false) x) p.seats (standing_drives (lines false false)) h
whole_react p (ToNobody at clock) h = react_map (λ x. standing (lines false false) x) p.seats (standing_drives (lines false false)) h
whole_react p (ToTalker at clock) h = react_map (λ x. standing (lines true false) x) p.seats (standing_drives (lines true false)) h
whole_react p (Nothing at clock freed) h = react_map (λ x. standing (lines false false) x) p.seats (standing_drives (lines false false)) h
whole_react p (Talk at f) h = react_map (λ x. standing (lines (not (is_last f)) false) x) p.seats (standing_drives (lines (not (is_last f)) false)) h

pub next_party : (w : Whole) (s : Seat) → (next_seat w s).party ≡ s.party
next_party (PullPiece at) s = refl
next_party (Command f) s = refl
next_party (Byte eoi f) s = standing_drives (lines false false) s
next_party (ToListener at) s = standing_drives (lines false false) s
next_party (ToNobody at clock) s = standing_drives (lines false false) s
next_party (ToTalker at clock) s = standing_drives (lines true false) s
next_party (Nothing at clock freed) s = standing_drives (lines false false) s
next_party (Talk at f) s = standing_drives (lines (not (is_last f)) false) s

-- A point after a sound one is sound, and one after a cut.
pub whole_sound : (p : Point) (s : Seat) (w : Whole) → IsSound p s → Fits p w → IsSound (whole_point p w) (next_seat w s)
whole_sound p s w g h =
    let same : device s ≡ device (next_seat w s) = ap (λ (b : Party). b.device) (sym (next_party w s)) in
    record {
      seated = subst (λ (d : ℕ). IsSeated d (whole_point p w) (next_seat w s)) same (whole_seated (device s) p w s g.seated);
      some = subst (λ (d : ℕ). 1 ≤ d) same g.some;
      react = whole_react p w g.react;
      own = whole_own p w g.own h;
      host = whole_host p w;
    }

pub cut_sound : (p : Point) (s : Seat) (w : Whole) (c : ℕ) → IsSound p s → PieceFits p (Cut w c) → IsSound (point_after p (Cut w c)) (seat_with s.role (held_by s.own (before c (own_part p w s))) s)
cut_sound p s w c g h =
    let kept = λ (x : Seat). seat_with x.role (held_by x.own (before c (own_part p w x))) x in
    let k = seated (device s) kept p.seats s (λ (x : Seat). refl) (λ (x : Seat). refl) g.seated.sits g.seated.one g.seated.apart in
    record {
      seated = record { sits = k.0; one = k.1; apart = k.2 };
      some = g.some;
      react = react_map kept p.seats (λ (x : Seat). refl) g.react;
      own = each_map (StandsSo (Cutting c)) kept p.seats (each_seat (λ x. StandsSo (Cutting c) (kept x)) p.seats (λ (x : Seat). tt));
      host = tt;
    }

-- At rest each drive of a bus stands so.
abbrev pub AllSound : Point → List Party → Type 0
AllSound p [] = Unit {0}
AllSound p (c ∷ cs) = IsSound p (seat_of c) × AllSound p cs

rest_react : (bs : List Party) → AreDrives bs → SeatsReact (map (λ b. seat_of b) bs)
rest_react [] h = tt
rest_react (b ∷ bs) h = (h.0.some, h.0.prompt, rest_react bs h.1)

rest_own : (bs : List Party) → Each (StandsSo Open) (map (λ b. seat_of b) bs)
rest_own [] = tt
rest_own (b ∷ bs) = (refl, rest_own bs)

rest_each : (bs cs : List Party) → IsBus bs → AllSit (rest bs).seats cs → AreDrives cs → AllSound (rest bs) cs
rest_each bs [] h a g = tt
rest_each bs (c ∷ cs) h a g =
    let from = g.0.from in (
      record {
        seated = record { sits = a.0; one = none_talks bs; apart = are_seats bs h.drives h.unlike };
        some = omega (arith, from);
        react = rest_react bs h.drives;
        own = rest_own bs;
        host = tt;
      },
      rest_each bs cs h a.1 g.1,
    )

pub rest_sound : (bs : List Party) → IsBus bs → AllSound (rest bs) bs
rest_sound bs h = rest_each bs bs h (all_sit bs h.unlike) h.drives

-- How many others hold a line: none where none of them does, and in hold all of them.
none_hold : (line : Line) (d : ℕ) (seats : List Seat) → ForOthers d (λ x. is_held line x.own ≡ false) seats → holding line d seats ≡ zero
none_hold line d [] h = refl
none_hold line d (x ∷ xs) h = go (nat_eq d (device x)) refl (none_hold line d xs h.1)
  where
    go : (v : Bool) → nat_eq d (device x) ≡ v → holding line d xs ≡ zero → (if v then holding line d xs else one_where (is_held line x.own) + holding line d xs) ≡ zero
    go true e k = k
    go false e k = let a : one_where (is_held line x.own) ≡ zero = ap one_where (h.0 e) in omega (arith, a, k)

others_too : (P : Seat → Type 0) (d : ℕ) (seats : List Seat) → Each P seats → ForOthers d P seats
others_too P d seats h = each P (λ x. nat_eq d (device x) ≡ false → P x) seats (λ x g k. g) h

other_counts : (d : ℕ) (x : Seat) (xs : List Seat) → nat_eq d (device x) ≡ false → holding Data d (x ∷ xs) ≡ one_where x.own.data_low + holding Data d xs
other_counts d x xs e = ap (λ (v : Bool). if v then holding Data d xs else one_where x.own.data_low + holding Data d xs) e

own_skips : (d : ℕ) (x : Seat) (xs : List Seat) → nat_eq d (device x) ≡ true → holding Data d (x ∷ xs) ≡ holding Data d xs
own_skips d x xs e = ap (λ (v : Bool). if v then holding Data d xs else one_where x.own.data_low + holding Data d xs) e

-- those who hold DATA are these
abbrev IsHolding : (Seat → Bool) → Seat → Type 0
IsHolding here x = x.own.data_low ≡ here x

abbrev how_many : (Seat → Bool) → List Seat → ℕ
how_many here [] = zero
how_many here (x ∷ xs) = one_where (here x) + how_many here xs

apart_hold : (here : Seat → Bool) (d : ℕ) (xs : List Seat) → Each (IsHolding here) xs → Apart d xs → holding Data d xs ≡ how_many here xs
apart_hold here d [] e h = refl
apart_hold here d (x ∷ xs) e h = other_counts d x xs h.0 ∙ ap (λ (v : Bool). one_where v + holding Data d xs) e.0 ∙ ap (λ (n : ℕ). one_where (here x) + n) (apart_hold here d xs e.1 h.1)

sits_hold : (here : Seat → Bool) (d : ℕ) (seats : List Seat) (s : Seat) → Each (IsHolding here) seats → Sits d seats s → here s ≡ true → suc (holding Data d seats) ≡ how_many here seats
sits_hold here d [] s e h k = elim h [ ]
sits_hold here d (x ∷ xs) s e (inl h) k =
    let v : here x ≡ true = ap here h.0 ∙ k in
    let a : one_where (here x) ≡ 1 = ap one_where v in
    let b : holding Data d (x ∷ xs) ≡ how_many here xs = own_skips d x xs h.1 ∙ apart_hold here d xs e.1 h.2 in
    omega (arith, a, b)
sits_hold here d (x ∷ xs) s e (inr h) k =
    let a : holding Data d (x ∷ xs) ≡ one_where (here x) + holding Data d xs = other_counts d x xs h.0 ∙ ap (λ (u : Bool). one_where u + holding Data d xs) e.0 in
    let m = sits_hold here d xs s e.1 h.1 k in
    omega (arith, a, m)

all_here : (seats : List Seat) → how_many (λ x. true) seats ≡ length seats
all_here [] = refl
all_here (x ∷ xs) = let k = all_here xs in omega (arith, k)

listeners_here : (seats : List Seat) → how_many (λ x. is_listener x.role) seats ≡ length (listeners seats)
listeners_here [] = refl
listeners_here (x ∷ xs) =
    let k = listeners_here xs in
    elim (is_listener x.role) as (λ v. one_where v + how_many (λ y. is_listener y.role) xs ≡ length (if v then x ∷ listeners xs else listeners xs)) [ true ↦ omega (arith, k) | false ↦ omega (arith, k) ]

-- What a drive's others hold, from what each holds there.
the_rest : (d : ℕ) (p : Point) (place : BusPlace) (host : Held) (clocks datas : ℕ) → p.place ≡ place → p.host ≡ host → holding Clock d p.seats ≡ clocks → holding Data d p.seats ≡ datas
    → rest_at d p ≡ record { host = wires (in_attention place) host.clock_low host.data_low; clocks = clocks; datas = datas }
the_rest d p place host clocks datas a b c e =
    ap (λ (q : BusPlace). record { host = wires (in_attention q) p.host.clock_low p.host.data_low; clocks = holding Clock d p.seats; datas = holding Data d p.seats }) a
    ∙ ap (λ (h : Held). record { host = wires (in_attention place) h.clock_low h.data_low; clocks = holding Clock d p.seats; datas = holding Data d p.seats }) b
    ∙ ap (λ (n : ℕ). record { host = wires (in_attention place) host.clock_low host.data_low; clocks = n; datas = holding Data d p.seats }) c
    ∙ ap (λ (n : ℕ). record { host = wires (in_attention place) host.clock_low host.data_low; clocks = clocks; datas = n }) e

-- in attention all hold DATA
pub commanding_rest : (p : Point) (s : Seat) (some : Bool) → IsSound p s → p.place ≡ Commanding some → (n : ℕ) × (suc n ≡ length p.seats) × (rest_at (device s) p ≡ in_hold true n)
commanding_rest p s some g e =
    let own : Each (StandsSo (Commanding some)) p.seats = subst (λ (q : BusPlace). Each (StandsSo q) p.seats) e g.own in
    let host : p.host ≡ lines true false = subst (λ (q : BusPlace). HostAt q p.host) e g.host in
    let held : Each (IsHolding (λ x. true)) p.seats = each (StandsSo (Commanding some)) (IsHolding (λ x. true)) p.seats (λ (x : Seat) (k : x.own ≡ lines false true). ap (λ (o : Held). o.data_low) k) own in
    let clocks : Each (λ x. is_held Clock x.own ≡ false) p.seats = each (StandsSo (Commanding some)) (λ x. is_held Clock x.own ≡ false) p.seats (λ (x : Seat) (k : x.own ≡ lines false true). ap (λ (o : Held). o.clock_low) k) own in (
      holding Data (device s) p.seats,
      sits_hold (λ x. true) (device s) p.seats s held g.seated.sits refl ∙ all_here p.seats,
      the_rest (device s) p (Commanding some) (lines true false) zero (holding Data (device s) p.seats) e host (none_hold Clock (device s) p.seats (others_too (λ x. is_held Clock x.own ≡ false) (device s) p.seats clocks)) refl,
    )

-- to listeners only these do
listens_data : (r : Role) (own : Held) → OwnAt Listening r own → own.data_low ≡ is_listener r
listens_data Absent own h = ap (λ (o : Held). o.data_low) h
listens_data Listener own h = ap (λ (o : Held). o.data_low) h
listens_data Talker own h = elim h [ ]

listens_clock : (r : Role) (own : Held) → OwnAt Listening r own → own.clock_low ≡ false
listens_clock Absent own h = ap (λ (o : Held). o.clock_low) h
listens_clock Listener own h = ap (λ (o : Held). o.clock_low) h
listens_clock Talker own h = elim h [ ]

pub listening_rest : (p : Point) (s : Seat) → IsSound p s → p.place ≡ Listening → s.role ≡ Listener → (n : ℕ) × (suc n ≡ length (listeners p.seats)) × (rest_at (device s) p ≡ in_hold false n)
listening_rest p s g e l =
    let own : Each (StandsSo Listening) p.seats = subst (λ (q : BusPlace). Each (StandsSo q) p.seats) e g.own in
    let host : p.host ≡ lines true false = subst (λ (q : BusPlace). HostAt q p.host) e g.host in
    let held : Each (IsHolding (λ x. is_listener x.role)) p.seats = each (StandsSo Listening) (IsHolding (λ x. is_listener x.role)) p.seats (λ (x : Seat) (k : StandsSo Listening x). listens_data x.role x.own k) own in
    let clocks : Each (λ x. is_held Clock x.own ≡ false) p.seats = each (StandsSo Listening) (λ x. is_held Clock x.own ≡ false) p.seats (λ (x : Seat) (k : StandsSo Listening x). listens_clock x.role x.own k) own in (
      holding Data (device s) p.seats,
      sits_hold (λ x. is_listener x.role) (device s) p.seats s held g.seated.sits (ap is_listener l) ∙ listeners_here p.seats,
      the_rest (device s) p Listening (lines true false) zero (holding Data (device s) p.seats) e host (none_hold Clock (device s) p.seats (others_too (λ x. is_held Clock x.own ≡ false) (device s) p.seats clocks)) refl,
    )

-- where the drive leads no other holds a line
silent_own : (at : ℕ) (r : Role) (own : Held) → OwnAt (Leading at) r own → is_talker r ≡ false → own ≡ lines false false
silent_own at Absent own h e = h
silent_own at Listener own h e = elim h [ ]
silent_own at Talker own h e = cc

others_free : (at d : ℕ) (seats : List Seat) → Each (StandsSo (Leading at)) seats → ForOthers d (λ x. is_talker x.role ≡ false) seats → ForOthers d (λ x. x.own ≡ lines false false) seats
others_free at d [] a b = tt
others_free at d (x ∷ xs) a b = (λ (e : nat_eq d (device x) ≡ false). silent_own at x.role x.own a.0 (b.0 e), others_free at d xs a.1 b.1)

pub leading_rest : (p : Point) (s : Seat) (at : ℕ) → IsSound p s → p.place ≡ Leading at → s.role ≡ Talker → rest_at (device s) p ≡ record { host = wires false false true; clocks = zero; datas = zero }
leading_rest p s at g e l =
    let own : Each (StandsSo (Leading at)) p.seats = subst (λ (q : BusPlace). Each (StandsSo q) p.seats) e g.own in
    let host : p.host ≡ lines false true = subst (λ (q : BusPlace). HostAt q p.host) e g.host in
    let free = others_free at (device s) p.seats own (only_talker (device s) p.seats s g.seated.one g.seated.sits (ap is_talker l)) in
    the_rest (device s) p (Leading at) (lines false true) zero zero e host (none_hold Clock (device s) p.seats (frees Clock free)) (none_hold Data (device s) p.seats (frees Data free))
  where
    frees : (line : Line) → ForOthers (device s) (λ x. x.own ≡ lines false false) p.seats → ForOthers (device s) (λ x. is_held line x.own ≡ false) p.seats
    frees line h = each (λ x. nat_eq (device s) (device x) ≡ false → x.own ≡ lines false false) (λ x. nat_eq (device s) (device x) ≡ false → is_held line x.own ≡ false) p.seats (λ x k n. ap (λ (o : Held). is_held line o) (k n) ∙ free_line line) h
      where
        free_line : (line : Line) → is_held line (lines false false) ≡ false
        free_line Atn = refl
        free_line Clock = refl
        free_line Data = refl

-- and a frame of its own is the host's part with the drive's
own_only : (own : Seat → List Step) (d : ℕ) (l : List Step) (xs : List Seat) → ForOthers d (λ x. own x ≡ []) xs → Apart d xs → merge_all l (map own xs) ≡ l
own_only own d l [] e h = refl
own_only own d l (x ∷ xs) e h =
    ap (λ (zs : List Step). merge l zs) (ap (λ (zs : List Step). merge_all zs (map own xs)) (e.0 h.0) ∙ own_only own d [] xs e.1 h.1) ∙ merge_nil l

pub sits_only : (own : Seat → List Step) (d : ℕ) (l : List Step) (seats : List Seat) (s : Seat) → ForOthers d (λ x. own x ≡ []) seats → Sits d seats s → merge_all l (map own seats) ≡ merge l (own s)
sits_only own d l [] s e h = elim h [ ]
sits_only own d l (x ∷ xs) s e (inl h) = ap (λ (zs : List Step). merge l zs) (own_only own d (own x) xs e.1 h.2 ∙ ap own h.0)
sits_only own d l (x ∷ xs) s e (inr h) =
    ap (λ (zs : List Step). merge l zs) (ap (λ (zs : List Step). merge_all zs (map own xs)) (e.0 h.0) ∙ sits_only own d [] xs s e.1 h.1)

pub leading_alone : (p : Point) (s : Seat) (at : ℕ) (f : Told) → IsSound p s → s.role ≡ Talker → steps_of p (Talk at f) ≡ merge (taking s.party f) (telling s.party at f)
leading_alone p s at f g l =
    let t : is_talker s.role ≡ true = ap is_talker l in
    let silent = only_talker (device s) p.seats s g.seated.one g.seated.sits t in
    let own = λ (x : Seat). own_part p (Talk at f) x in
    let nothing : ForOthers (device s) (λ x. own_part p (Talk at f) x ≡ []) p.seats =
    each (λ x. nat_eq (device s) (device x) ≡ false → is_talker x.role ≡ false) (λ x. nat_eq (device s) (device x) ≡ false → own_part p (Talk at f) x ≡ []) p.seats
    (λ x k n. ap (λ (v : Bool). if v then telling (at_pace (talker_of p.seats).pace x.party) at f else []) (k n)) silent in
    sits_only own (device s) (taking (talker_of p.seats) f) p.seats s nothing g.seated.sits
    ∙ ap (λ (b : Party). merge (taking b f) (if is_talker s.role then telling (at_pace b.pace s.party) at f else [])) (talker_is (device s) p.seats s g.seated.one g.seated.sits t)
    ∙ ap (λ (v : Bool). merge (taking s.party f) (if v then telling s.party at f else [])) t
