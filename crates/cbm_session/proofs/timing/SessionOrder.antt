-- A session's moments never go back, and at one moment the host's changes come before the drives'.
use Rattle.cbm_session.proofs.joining.Showing.{order_all}
use Rattle.cbm_session.proofs.joining.Silents.{silent_from, silent_head, silent_before}
use Rattle.cbm_session.proofs.Paces.{pause_from, by_eight}
use Rattle.cbm_iec.specs.Profile.{bit_time, first_accept, pull_pause}
use Rattle.std.proofs.Common.{◌≡◌, ℕ, ◌+◌, ◌*◌, ◌≤◌, ◌<◌, max, suc, inl, inr, Bool, true, false, List, [], ◌∷◌, ◌++◌, length, map, Option, Some, None, ap, sym, subst, arith, refl}
use Rattle.std.proofs.Math.Nat.{le-max_left, le-max_right, max-le}
use Rattle.std.proofs.lemmas.Bool.Decides.{leb_tells}
use Rattle.std.specs.Prelude.{if◌then◌else◌}
use Rattle.cbm_iec.specs.declared.machine.Act.TheVariants.{Attention, Heard, Said}
use Rattle.cbm_iec.specs.declared.machine.Act.{Act}
use Rattle.cbm_iec.specs.declared.event.Who.TheVariants.{Host, Drive}
use Rattle.cbm_iec.specs.declared.event.Who.{Who}
use Rattle.cbm_iec.specs.declared.lines.Line.TheVariants.{Clock, Data}
use Rattle.cbm_iec.specs.declared.lines.Way.TheVariants.{Pull, Free}
use Rattle.cbm_iec.specs.declared.pace.Pace.TheVariants.{Profile, Kernal}
use Rattle.cbm_iec.specs.declared.pace.Pace.{Pace}
use Rattle.cbm_iec.specs.declared.party.Party.{Party}
use Rattle.cbm_iec.specs.declared.party.Role.TheVariants.{Absent, Listener, Talker}
use Rattle.cbm_iec.specs.declared.party.Role.{Role}
use Rattle.cbm_session.proofs.alone.Sessions.{AllHost}
use Rattle.cbm_session.proofs.among.Around.{NotHost, merge_drives, every_each, every_drives}
use Rattle.cbm_session.proofs.among.Calm.{Every}
use Rattle.cbm_session.proofs.among.Counted.{all_host}
use Rattle.cbm_session.proofs.among.Points.{none_talk, each_seat, whole_sound, cut_sound, AllSound, rest_sound}
use Rattle.cbm_session.proofs.among.Standing.{IsSound}
use Rattle.cbm_session.proofs.frames.Accepted.{accepted, listen_react, listen_few, gap_same, heard_same}
use Rattle.cbm_session.proofs.frames.OnePulse.{bounds}
use Rattle.cbm_session.proofs.frames.Phases.{none_all, Each, each, ReactsBy, react_by}
use Rattle.cbm_session.proofs.joining.Merging.{merge_nil, NoneBefore, InOrder, none_sooner, by_head, none_merge, before_yes, before_no, AllBefore, front_before}
use Rattle.cbm_session.proofs.joining.OneDrive.{AllUpTo, upto_append, last_after, pulse_within, cells_upto, upto_free, upto_held}
use Rattle.cbm_session.proofs.joining.Orders.{starts_late, host_order}
use Rattle.cbm_session.proofs.joining.Owning.{AllOwned, part_owned, part_order, host_mine, none_append, signal_from}
use Rattle.cbm_session.proofs.joining.Talkers.{true_false, OneTalker}
use Rattle.cbm_session.proofs.reading.OneReading.{late_by_role, seat_of}
use Rattle.cbm_session.proofs.reading.PieceReadings.{next_seat}
use Rattle.cbm_session.specs.Bits.{where_held, where_free, cells_steps, held_after, CellsFit, byte_in_cells, number_of}
use Rattle.cbm_session.specs.Frames.{Sent, Told, wire, end_of, accept_of, hearing, sending, SentFits, is_last, signal_steps, first_bit, bit_steps, telling, taking, SignalFits, ToldFits}
use Rattle.cbm_session.specs.Joins.{NotBefore}
use Rattle.cbm_session.specs.Laws.{SeatsReact, AllAccepted, NotSooner, AllAfter, GoesOn, SessionsGoOn}
use Rattle.cbm_session.specs.Pieces.{silent_part, silent_end, Whole, Piece, BusPlace, Point, freed_steps, host_part, let_go, own_part, steps_of, before, AtLeast, gap_at, gap, MayRelease, PullFits, FreedFits, IsCommanding, Fits, CutFits, held_by, told_place, told_since, afterwards, after_all_of, seat_with, obeying, standing, whole_point, point_after, PullPiece, Command, Byte, ToListener, ToNobody, ToTalker, Nothing, Talk, Full, Cut, Open, Commanding, Listening, Leading, Cutting}
use Rattle.cbm_session.specs.Seats.{at_pace, lines, Seat, device, reaction, slowest, is_listener, is_talker, talker_of, listeners, spread, bus_pace}
use Rattle.cbm_session.specs.Sessions.{rest, Linked, session_steps}
use Rattle.cbm_session.specs.Steps.{Step, host, drive, for_one, moment_of, merge, merge_all}

-- A later step comes after any other, and at the same moment a drive's step does.
later : (w : Who) (m : ℕ) (v : Who) (n : ℕ) → m < n → NotSooner w m v n
later Host m v n h = omega (arith, h)
later (Drive o) m Host n h = h
later (Drive o) m (Drive u) n h = omega (arith, h)

drive_later : (w : Who) (m : ℕ) (v : Who) (n : ℕ) → NotHost v → m ≤ n → NotSooner w m v n
drive_later w m Host n d h = elim d [ ]
drive_later Host m (Drive u) n d h = h
drive_later (Drive o) m (Drive u) n d h = h

host_after : (m : ℕ) (ss : List Step) → NoneBefore m ss → AllAfter Host m ss
host_after m [] n = tt
host_after m (s ∷ ss) n = (n.0, host_after m ss n.1)

later_after : (w : Who) (m n : ℕ) (ss : List Step) → m < n → NoneBefore n ss → AllAfter w m ss
later_after w m n [] h k = tt
later_after w m n (s ∷ ss) h k = let a = k.0 in (later w m s.event.who (moment_of s) (omega (arith, h, a)), later_after w m n ss h k.1)

drives_after : (w : Who) (m : ℕ) (ss : List Step) → Every (λ s. NotHost s.event.who) ss → NoneBefore m ss → AllAfter w m ss
drives_after w m [] d n = tt
drives_after w m (s ∷ ss) d n = (drive_later w m s.event.who (moment_of s) d.0 n.0, drives_after w m ss d.1 n.1)

after_append : (w : Who) (m : ℕ) (xs ys : List Step) → AllAfter w m xs → AllAfter w m ys → AllAfter w m (xs ++ ys)
after_append w m [] ys a b = b
after_append w m (x ∷ xs) ys a b = (a.0, after_append w m xs ys a.1 b)

after_merge : (w : Who) (m : ℕ) (xs ys : List Step) → AllAfter w m xs → AllAfter w m ys → AllAfter w m (merge xs ys)
after_merge w m [] ys a b = b
after_merge w m (x ∷ xs) [] a b = subst (AllAfter w m) (sym (merge_nil (x ∷ xs))) a
after_merge w m (x ∷ xs) (y ∷ ys) a b = by_head (AllAfter w m) x xs y ys (λ h. (a.0, after_merge w m xs (y ∷ ys) a.1 b)) (λ h. (b.0, after_merge w m (x ∷ xs) ys a b.1))

-- Drives' steps in order go on, the host's too, and their join with drives' steps.
goes_drives : (ss : List Step) → Every (λ s. NotHost s.event.who) ss → InOrder ss → GoesOn ss
goes_drives [] d o = tt
goes_drives (s ∷ ss) d o = (drives_after s.event.who (moment_of s) ss d.1 o.0, goes_drives ss d.1 o.1)

goes_host : (ss : List Step) → AllHost ss → InOrder ss → GoesOn ss
goes_host [] a o = tt
goes_host (s ∷ ss) a o = (subst (λ (w : Who). AllAfter w (moment_of s) ss) (sym a.0) (host_after (moment_of s) ss o.0), goes_host ss a.1 o.1)

goes_merge : (xs ys : List Step) → AllHost xs → InOrder xs → InOrder ys → GoesOn ys → GoesOn (merge xs ys)
goes_merge [] ys a o q g = g
goes_merge (x ∷ xs) [] a o q g = subst GoesOn (sym (merge_nil (x ∷ xs))) (goes_host (x ∷ xs) a o)
goes_merge (x ∷ xs) (y ∷ ys) a o q g =
    by_head GoesOn x xs y ys
    (λ h. (
      subst (λ (w : Who). AllAfter w (moment_of x) (merge xs (y ∷ ys))) (sym a.0) (host_after (moment_of x) (merge xs (y ∷ ys)) (none_merge (moment_of x) xs (y ∷ ys) o.0 (h, none_sooner (moment_of x) (moment_of y) ys h q.0))),
      goes_merge xs (y ∷ ys) a.1 o.1 q g,
    ))
    (λ h. (
      after_merge y.event.who (moment_of y) (x ∷ xs) ys (later_after y.event.who (moment_of y) (moment_of x) (x ∷ xs) h (omega arith, o.0)) g.0,
      goes_merge (x ∷ xs) ys a o q.1 g.1,
    ))

-- a cut of what goes on
after_before : (w : Who) (m c : ℕ) (ss : List Step) → AllAfter w m ss → AllAfter w m (before c ss)
after_before w m c [] a = tt
after_before w m c (s ∷ ss) a = elim (leb_tells (suc (moment_of s)) c) [
  | inl x ↦ subst (AllAfter w m) (sym (before_yes c s ss (omega (arith, x.1)))) (a.0, after_before w m c ss a.1)
  | inr x ↦ subst (AllAfter w m) (sym (before_no c s ss (omega (arith, x.1)))) (after_before w m c ss a.1)
]

goes_before : (c : ℕ) (ss : List Step) → GoesOn ss → GoesOn (before c ss)
goes_before c [] g = tt
goes_before c (s ∷ ss) g = elim (leb_tells (suc (moment_of s)) c) [
  | inl x ↦ subst GoesOn (sym (before_yes c s ss (omega (arith, x.1)))) (after_before s.event.who (moment_of s) c ss g.0, goes_before c ss g.1)
  | inr x ↦ subst GoesOn (sym (before_no c s ss (omega (arith, x.1)))) (goes_before c ss g.1)
]

none_before : (m c : ℕ) (ss : List Step) → NoneBefore m ss → NoneBefore m (before c ss)
none_before m c [] n = tt
none_before m c (s ∷ ss) n = elim (leb_tells (suc (moment_of s)) c) [
  | inl x ↦ subst (NoneBefore m) (sym (before_yes c s ss (omega (arith, x.1)))) (n.0, none_before m c ss n.1)
  | inr x ↦ subst (NoneBefore m) (sym (before_no c s ss (omega (arith, x.1)))) (none_before m c ss n.1)
]

-- done by a moment: at that moment the host's step may stand, a drive's is sooner
abbrev pub Done : ℕ → Who → ℕ → Type 0
Done m Host n = n ≤ m
Done m (Drive o) n = n < m

abbrev pub DoneBy : ℕ → Step → Type 0
DoneBy m s = Done m s.event.who (moment_of s)

sooner_done : (m : ℕ) (w : Who) (n : ℕ) → n < m → Done m w n
sooner_done m Host n h = omega (arith, h)
sooner_done m (Drive o) n h = h

before_done : (m : ℕ) (ss : List Step) → AllBefore m ss → Every (DoneBy m) ss
before_done m [] a = tt
before_done m (s ∷ ss) a = (sooner_done m s.event.who (moment_of s) a.0, before_done m ss a.1)

host_done : (m : ℕ) (ss : List Step) → AllHost ss → AllUpTo m ss → Every (DoneBy m) ss
host_done m [] a u = tt
host_done m (s ∷ ss) a u = (subst (λ (w : Who). Done m w (moment_of s)) (sym a.0) u.0, host_done m ss a.1 u.1)

-- what is done by a moment goes on with what is not before it
done_after : (m : ℕ) (w : Who) (n : ℕ) (ys : List Step) → Done m w n → NoneBefore m ys → AllAfter w n ys
done_after m Host n ys d k = host_after n ys (none_sooner n m ys d k)
done_after m (Drive o) n ys d k = later_after (Drive o) n m ys d k

goes_append : (m : ℕ) (xs ys : List Step) → GoesOn xs → Every (DoneBy m) xs → NoneBefore m ys → GoesOn ys → GoesOn (xs ++ ys)
goes_append m [] ys a d n b = b
goes_append m (x ∷ xs) ys a d n b = (after_append x.event.who (moment_of x) xs ys a.0 (done_after m x.event.who (moment_of x) ys d.0 n), goes_append m xs ys a.1 d.1 n b)

-- The steps of a piece that fits go on.
owned_drives : (o : ℕ) (ss : List Step) → AllOwned o ss → Every (λ s. NotHost s.event.who) ss
owned_drives o [] a = tt
owned_drives o (s ∷ ss) a = (subst NotHost (sym a.0) tt, owned_drives o ss a.2)

pub part_host : (p : Point) (w : Whole) → AllHost (host_part p w)
part_host p w = all_host (host_part p w) (host_mine 0 p w) (host_mine 1 p w)

pub piece_goes : (p : Point) (w : Whole) → Fits p w → GoesOn (steps_of p w)
piece_goes p w f =
    let own = λ (x : Seat). own_part p w x in
    let drives = merge_all [] (map own p.seats) in
    let order : InOrder drives = order_all own (part_order p w f) [] p.seats tt in
    let all : Every (λ s. NotHost s.event.who) drives =
    every_drives (λ s. NotHost s.event.who) own p.seats (each_seat (λ x. Every (λ s. NotHost s.event.who) (own x)) p.seats (λ (x : Seat). owned_drives (device x) (own x) (part_owned p w x))) in
    subst GoesOn (sym (merge_drives own (host_part p w) p.seats)) (goes_merge (host_part p w) drives (part_host p w) (host_order p w f) order (goes_drives drives all order))

-- the moment of a piece's first step
abbrev first_of : Whole → ℕ
first_of (PullPiece at) = at
first_of (Command f) = f.ready
first_of (Byte eoi f) = f.ready
first_of (ToListener at) = at
first_of (ToNobody at clock) = at
first_of (ToTalker at clock) = at
first_of (Nothing at clock freed) = at
first_of (Talk at f) = at

-- None of a piece's steps is before it: each part is in order, and none begins before.
none_first : (m : ℕ) (ss : List Step) → InOrder ss → NotBefore m ss → NoneBefore m ss
none_first m [] o h = tt
none_first m (s ∷ ss) o h = (h, none_sooner m (moment_of s) ss h o.0)

host_head : (p : Point) (w : Whole) → Fits p w → NotBefore (first_of w) (host_part p w)
host_head p (PullPiece at) h = omega arith
host_head p (Command f) h = omega arith
host_head p (Byte eoi f) h = omega arith
host_head p (ToListener at) h = omega arith
host_head p (ToNobody at clock) h = omega arith
host_head p (ToTalker at clock) h = omega arith
host_head p (Nothing at clock freed) h = omega arith
host_head p (Talk at f) h = let k = h.1.free in omega (arith, k)

head_if : (m : ℕ) (v : Bool) (ss : List Step) → NotBefore m ss → NotBefore m (if v then ss else [])
head_if m true ss h = h
head_if m false ss h = tt

pull_head : (m t o : ℕ) (c d : Bool) → m ≤ t → NotBefore m (where_held c (drive o t Clock Free) ++ where_free d (drive o t Data Pull))
pull_head m t o true d h = h
pull_head m t o false true h = tt
pull_head m t o false false h = h

own_head : (p : Point) (w : Whole) → Fits p w → (x : Seat) → NotBefore (first_of w) (own_part p w x)
own_head p (PullPiece at) h x = pull_head at (at + reaction x) (device x) x.own.clock_low x.own.data_low (omega arith)
own_head p (Command f) h x = omega arith
own_head p (Byte eoi f) h x = head_if f.ready (is_listener x.role) (hearing (wire (listeners p.seats) f) eoi (Heard (byte_in_cells f.cells) eoi) f x) (omega arith)
own_head p (ToListener at) h x = late_by_role at x.role (let_go at x) [] (omega arith) tt
own_head p (ToNobody at clock) h x = omega arith
own_head p (ToTalker at clock) h x =
    let k = h.1 in
    late_by_role at x.role (let_go at x) (drive (device x) (clock + reaction x) Clock Pull ∷ drive (device x) (clock + reaction x) Data Free ∷ []) (omega arith) (omega (arith, k))
own_head p (Nothing at clock freed) h x =
    let k = h.1 in
    late_by_role at x.role (let_go at x) (silent_part x.party.pace (device x) (clock + reaction x)) (omega arith) (silent_head x.party.pace (device x) at (clock + reaction x) (omega (arith, k)))
own_head p (Talk at f) h x = head_if at (is_talker x.role) (telling (at_pace (talker_of p.seats).pace x.party) at f) (omega arith)

steps_from : (p : Point) (w : Whole) → Fits p w → NoneBefore (first_of w) (steps_of p w)
steps_from p w f =
    none_all (first_of w) (host_part p w) (λ x. own_part p w x) p.seats (none_first (first_of w) (host_part p w) (host_order p w f) (host_head p w f))
    (each_seat (λ x. NoneBefore (first_of w) (own_part p w x)) p.seats (λ (x : Seat). none_first (first_of w) (own_part p w x) (part_order p w f x) (own_head p w f x)))

-- The moment by which all steps of a piece are done.
abbrev pub end_by : Point → Whole → ℕ
end_by p (PullPiece at) = at + 61
end_by p (Command f) = accept_of p.seats f + gap p.seats p.seats
end_by p (Byte eoi f) = accept_of (listeners p.seats) f + gap (listeners p.seats) p.seats
end_by p (ToListener at) = at + 61
end_by p (ToNobody at clock) = max (at + 61) clock
end_by p (ToTalker at clock) = after_all_of at (clock + (talker_of p.seats).reaction + 1) p.seats
end_by p (Nothing at clock freed) = after_all_of at (afterwards (silent_end (talker_of p.seats) clock) freed) p.seats
end_by p (Talk at f) = told_since (talker_of p.seats) f

-- it isn't before the last moment that is given, and is after each release of DATA by a drive without a role
after_base : (at m : ℕ) (ss : List Seat) → m ≤ after_all_of at m ss
after_base at m [] = omega arith
after_base at m (x ∷ xs) = go x.role (after_base at m xs)
  where
    go : (r : Role) → m ≤ after_all_of at m xs → m ≤ (elim r as (λ q. ℕ) [ Absent ↦ max (at + reaction x + 1) (after_all_of at m xs) | Listener ↦ after_all_of at m xs | Talker ↦ after_all_of at m xs ])
    go Absent k = let l = le-max_right (at + reaction x + 1) (after_all_of at m xs) in omega (arith, k, l)
    go Listener k = k
    go Talker k = k

after_some_more : (at m : ℕ) (x : Seat) (xs : List Seat) → after_all_of at m xs ≤ after_all_of at m (x ∷ xs)
after_some_more at m x xs = go x.role
  where
    go : (r : Role) → after_all_of at m xs ≤ (elim r as (λ q. ℕ) [ Absent ↦ max (at + reaction x + 1) (after_all_of at m xs) | Listener ↦ after_all_of at m xs | Talker ↦ after_all_of at m xs ])
    go Absent = le-max_right (at + reaction x + 1) (after_all_of at m xs)
    go Listener = omega arith
    go Talker = omega arith

abbrev GoneBy : ℕ → ℕ → Seat → Type 0
GoneBy at n x = x.role ≡ Absent → at + reaction x < n

gone_later : (at m n : ℕ) (ss : List Seat) → m ≤ n → Each (GoneBy at m) ss → Each (GoneBy at n) ss
gone_later at m n ss h g = each (GoneBy at m) (GoneBy at n) ss (λ (x : Seat) (k : GoneBy at m x) (e : x.role ≡ Absent). let a = k e in omega (arith, h, a)) g

after_each : (at m : ℕ) (ss : List Seat) → Each (GoneBy at (after_all_of at m ss)) ss
after_each at m [] = tt
after_each at m (x ∷ xs) = (λ (e : x.role ≡ Absent). go x.role e, gone_later at (after_all_of at m xs) (after_all_of at m (x ∷ xs)) xs (after_some_more at m x xs) (after_each at m xs))
  where
    go : (r : Role) → r ≡ Absent → at + reaction x < (elim r as (λ q. ℕ) [ Absent ↦ max (at + reaction x + 1) (after_all_of at m xs) | Listener ↦ after_all_of at m xs | Talker ↦ after_all_of at m xs ])
    go Absent e = let l = le-max_left (at + reaction x + 1) (after_all_of at m xs) in omega (arith, l)
    go Listener e = cc
    go Talker e = cc

after_upto : (at m n : ℕ) (ss : List Seat) → SeatsReact ss → at + 61 ≤ n → m ≤ n → after_all_of at m ss ≤ n
after_upto at m n [] r a b = b
after_upto at m n (x ∷ xs) r a b = go x.role (after_upto at m n xs r.2 a b)
  where
    go : (q : Role) → after_all_of at m xs ≤ n → (elim q as (λ u. ℕ) [ Absent ↦ max (at + reaction x + 1) (after_all_of at m xs) | Listener ↦ after_all_of at m xs | Talker ↦ after_all_of at m xs ]) ≤ n
    go Absent k = let l = r.1 in max-le (omega (arith, a, l)) k
    go Listener k = k
    go Talker k = k

after_an_answer : (n : ℕ) (freed : Option ℕ) → FreedFits n freed → n < afterwards n freed
after_an_answer n None h = omega arith
after_an_answer n (Some g) h = omega (arith, h)

-- the host's part
sending_upto : (m : ℕ) (f : Sent) → f.ready ≤ f.start → CellsFit false f.start f.cells → end_of f ≤ m → AllUpTo m (sending f)
sending_upto m f a c l =
    let k = last_after false f.start f.cells c in
    (omega (arith, a, k, l), (omega (arith, k, l), upto_append m (cells_steps false f.cells) (where_held (held_after false f.cells) (host (end_of f) Data Free)) (cells_upto m false f.start f.cells c l) (upto_held m (held_after false f.cells) (host (end_of f) Data Free) l)))

taking_upto : (m : ℕ) (b : Party) (at : ℕ) (f : Told) → ToldFits b at f → f.accept ≤ m → AllUpTo m (taking b f)
taking_upto m b at f h l = go f.signal h.signal h.accept
  where
    go : (x : Option (ℕ × ℕ)) → SignalFits f.free x → (elim x as (λ y. ℕ) [ None ↦ f.free | Some y ↦ y.1 ]) + b.reaction + first_accept b.pace ≤ f.accept
        → AllUpTo m (host f.free Data Free ∷ (signal_steps x ++ for_one b.device (Said (number_of f.bits) (is_last f)) (host f.accept Data Pull) ∷ []))
    go None g a = (omega (arith, a, l), (l, tt))
    go (Some (pull, again)) g a = let x = g.0 in let y = g.1 in (omega (arith, a, l, x, y), (omega (arith, a, l, y), (omega (arith, a, l), (l, tt))))

freed_by : (m n : ℕ) (freed : Option ℕ) → afterwards n freed ≤ m → AllUpTo m (freed_steps freed)
freed_by m n None h = tt
freed_by m n (Some g) h = (h, tt)

told_late : (b : Party) (f : Told) → f.accept ≤ told_since b f
told_late b f = go (is_last f)
  where
    go : (v : Bool) → f.accept ≤ (if v then f.accept + b.reaction + 1 else f.accept)
    go true = omega arith
    go false = omega arith

part_upto : (p : Point) (w : Whole) → Fits p w → AllUpTo (end_by p w) (host_part p w)
part_upto p (PullPiece at) h = (
  omega arith,
  upto_append (at + 61) (where_free p.host.clock_low (host at Clock Pull)) (where_held p.host.data_low (host at Data Free)) (upto_free (at + 61) p.host.clock_low (host at Clock Pull) (omega arith)) (upto_held (at + 61) p.host.data_low (host at Data Free) (omega arith)),
)
part_upto p (Command f) h = sending_upto (accept_of p.seats f + gap p.seats p.seats) f (starts_late p.seats false f h.3.start) h.3.cells (omega arith)
part_upto p (Byte eoi f) h = sending_upto (accept_of (listeners p.seats) f + gap (listeners p.seats) p.seats) f (starts_late (listeners p.seats) eoi f h.3.start) h.3.cells (omega arith)
part_upto p (ToListener at) h = (omega arith, tt)
part_upto p (ToNobody at clock) h = let k = h.1 in let l = le-max_right (at + 61) clock in (omega (arith, k, l), (l, tt))
part_upto p (ToTalker at clock) h =
    let k = h.1 in
    let l = after_base at (clock + (talker_of p.seats).reaction + 1) p.seats in
    (omega (arith, k, l), (omega (arith, k, l), (omega (arith, l), tt)))
part_upto p (Nothing at clock freed) h =
    let k = h.1 in
    let n = silent_end (talker_of p.seats) clock in
    let a = after_an_answer n freed h.2 in
    let l = after_base at (afterwards n freed) p.seats in
    let e = silent_from (talker_of p.seats) clock in
    (omega (arith, k, a, l, e), (omega (arith, k, a, l, e), (omega (arith, a, l, e), freed_by (after_all_of at (afterwards n freed) p.seats) n freed l)))
part_upto p (Talk at f) h = taking_upto (told_since (talker_of p.seats) f) (talker_of p.seats) at f h.1 (told_late (talker_of p.seats) f)

-- so a piece begins before it
first_done : (p : Point) (w : Whole) → Fits p w → AllUpTo (end_by p w) (host_part p w) → first_of w ≤ end_by p w
first_done p (PullPiece at) h u = u.0
first_done p (Command f) h u = u.0
first_done p (Byte eoi f) h u = u.0
first_done p (ToListener at) h u = u.0
first_done p (ToNobody at clock) h u = u.0
first_done p (ToTalker at clock) h u = u.0
first_done p (Nothing at clock freed) h u = u.0
first_done p (Talk at f) h u = let k = h.1.free in let l = u.0 in omega (arith, k, l)

-- What is known of each drive: the bounds of its reaction, and the one that talks is the talker.
record Known (b : Party) (x : Seat) : Type 0 where
  some : 1 ≤ reaction x
  prompt : reaction x ≤ 60
  talks : is_talker x.role ≡ true → b ≡ x.party

both : (P Q R : Seat → Type 0) (ss : List Seat) → ((x : Seat) → P x → Q x → R x) → Each P ss → Each Q ss → Each R ss
both P Q R [] f a b = tt
both P Q R (x ∷ xs) f a b = (f x a.0 b.0, both P Q R xs f a.1 b.1)

talkers_are : (ss : List Seat) → OneTalker ss → Each (λ x. is_talker x.role ≡ true → talker_of ss ≡ x.party) ss
talkers_are [] o = tt
talkers_are (x ∷ xs) o = go (is_talker x.role) refl (talkers_are xs o.1)
  where
    go : (v : Bool) → is_talker x.role ≡ v → Each (λ y. is_talker y.role ≡ true → talker_of xs ≡ y.party) xs → Each (λ y. is_talker y.role ≡ true → (if v then x.party else talker_of xs) ≡ y.party) (x ∷ xs)
    go true e k = (
      λ (h : is_talker x.role ≡ true). refl,
      each (λ y. is_talker y.role ≡ false) (λ y. is_talker y.role ≡ true → x.party ≡ y.party) xs (λ (y : Seat) (n : is_talker y.role ≡ false) (h : is_talker y.role ≡ true). absurd (true_false (is_talker y.role) h n)) (none_talk xs (o.0 e)),
    )
    go false e k = (λ (h : is_talker x.role ≡ true). absurd (true_false (is_talker x.role) h e), k)

all_known : (b : Party) (ss : List Seat) → SeatsReact ss → Each (λ x. is_talker x.role ≡ true → b ≡ x.party) ss → Each (Known b) ss
all_known b [] r t = tt
all_known b (x ∷ xs) r t = (record { some = r.0; prompt = r.1; talks = t.0 }, all_known b xs r.2 t.1)

-- the drives' parts
before_if : (m : ℕ) (v : Bool) (ss : List Step) → (v ≡ true → AllBefore m ss) → AllBefore m (if v then ss else [])
before_if m true ss h = h refl
before_if m false ss h = tt

before_role : (m : ℕ) (r : Role) (a b : List Step) → (r ≡ Absent → AllBefore m a) → (r ≡ Talker → AllBefore m b) → AllBefore m (elim r as (λ q. List Step) [ Absent ↦ a | Listener ↦ [] | Talker ↦ b ])
before_role m Absent a b x y = x refl
before_role m Listener a b x y = tt
before_role m Talker a b x y = y refl

pull_before : (m t o : ℕ) (c d : Bool) → t < m → AllBefore m (where_held c (drive o t Clock Free) ++ where_free d (drive o t Data Pull))
pull_before m t o true true h = (h, tt)
pull_before m t o true false h = (h, (h, tt))
pull_before m t o false true h = tt
pull_before m t o false false h = (h, tt)

-- of a frame of the host
hearing_before : (hs : List Seat) (eoi : Bool) (act : Act) (f : Sent) (m : ℕ) (x : Seat) → SentFits hs eoi f → f.start ≤ end_of f → reaction x ≤ slowest hs → end_of f + reaction x < m → AllBefore m (hearing (wire hs f) eoi act f x)
hearing_before hs true act f m x h k l n =
    let g = h.start in
    let e = pulse_within hs f h x.party.pace in
    (omega (arith, g, k, l, n), (omega (arith, e, n), (omega (arith, e, n), (n, tt))))
hearing_before hs false act f m x h k l n = let g = h.start.0 in (omega (arith, g, k, l, n), (n, tt))

accepted_each : (hs : List Seat) (f : Sent) (m : ℕ) → AllAccepted hs f m → Each (λ x. end_of f + reaction x < m) hs
accepted_each [] f m a = tt
accepted_each (x ∷ xs) f m a = (a.0, accepted_each xs f m a.1)

frame_before : (hs seats : List Seat) (eoi : Bool) (act : Act) (f : Sent) → SeatsReact hs → length hs ≤ length seats → SentFits hs eoi f → Each (λ x. AllBefore (accept_of hs f + gap hs seats) (hearing (wire hs f) eoi act f x)) hs
frame_before hs seats eoi act f r c h =
    let m = accept_of hs f + gap hs seats in
    both (ReactsBy (slowest hs)) (λ x. end_of f + reaction x < m) (λ x. AllBefore m (hearing (wire hs f) eoi act f x)) hs
    (λ x a b. hearing_before hs eoi act f m x h (last_after false f.start f.cells h.cells) a.2 b)
    (react_by (slowest hs) hs r (omega arith)) (accepted_each hs f m (accepted hs seats f m r c (omega arith)))

listen_each : (P : Seat → Type 0) (ss : List Seat) → Each P (listeners ss) → Each (λ x. is_listener x.role ≡ true → P x) ss
listen_each P [] h = tt
listen_each P (x ∷ xs) h = go (is_listener x.role) refl h (listen_each P xs)
  where
    go : (v : Bool) → is_listener x.role ≡ v → Each P (if v then x ∷ listeners xs else listeners xs) → (Each P (listeners xs) → Each (λ y. is_listener y.role ≡ true → P y) xs) → Each (λ y. is_listener y.role ≡ true → P y) (x ∷ xs)
    go true e k f = (λ (g : is_listener x.role ≡ true). k.0, f k.1)
    go false e k f = (λ (g : is_listener x.role ≡ true). absurd (true_false (is_listener x.role) g e), f k)

-- of a frame of the drive
bits_before : (m : ℕ) (b : Party) (at : ℕ) (held : Bool) (bits : List Bool) → at + bit_time b.pace * length bits < m → AllBefore m (bit_steps b at held bits)
bits_before m b at true [] h = (omega (arith, h), (omega (arith, h), tt))
bits_before m b at false [] h = (omega (arith, h), tt)
bits_before m b at true (true ∷ bits) h = (omega (arith, h), (omega (arith, h), (omega (arith, h), bits_before m b (at + bit_time b.pace) false bits (omega (arith, h)))))
bits_before m b at false (true ∷ bits) h = (omega (arith, h), (omega (arith, h), bits_before m b (at + bit_time b.pace) false bits (omega (arith, h))))
bits_before m b at true (false ∷ bits) h = (omega (arith, h), (omega (arith, h), bits_before m b (at + bit_time b.pace) true bits (omega (arith, h))))
bits_before m b at false (false ∷ bits) h = (omega (arith, h), (omega (arith, h), (omega (arith, h), bits_before m b (at + bit_time b.pace) true bits (omega (arith, h)))))

pub both_before : (m : ℕ) (xs ys : List Step) → AllBefore m xs → AllBefore m ys → AllBefore m (xs ++ ys)
both_before m [] ys a b = b
both_before m (x ∷ xs) ys a b = (a.0, both_before m xs ys a.1 b)

telling_before : (b : Party) (at : ℕ) (f : Told) → ToldFits b at f → AllBefore (told_since b f) (telling b at f)
telling_before b at f h =
    let l = told_late b f in
    let e = h.eight in
    let a = h.accept in
    let k = signal_from f.free f.signal h.signal in
    let g = h.free in
    let m = told_since b f in (
      omega (arith, l, a, k, g),
      both_before m (bit_steps b (first_bit b f) false f.bits) (if is_last f then drive b.device (f.accept + b.reaction) Clock Free ∷ [] else []) (bits_before m b (first_bit b f) false f.bits (omega (arith, l, e, a, by_eight b.pace e))) (last (is_last f)),
    )
  where
    last : (v : Bool) → AllBefore (if v then f.accept + b.reaction + 1 else f.accept) (if v then drive b.device (f.accept + b.reaction) Clock Free ∷ [] else [])
    last true = (omega arith, tt)
    last false = tt

parts_before : (p : Point) (w : Whole) → SeatsReact p.seats → OneTalker p.seats → Fits p w → Each (λ x. AllBefore (end_by p w) (own_part p w x)) p.seats
parts_before p w r o = go w
  where
    b : Party
    b = talker_of p.seats

    known : Each (Known b) p.seats
    known = all_known b p.seats r (talkers_are p.seats o)

    -- with a drive that answers after CLOCK's release
    answering : (at m n : ℕ) (x : Seat) → Known b x → x.role ≡ Talker → n + b.reaction < m → n + reaction x < m
    answering at m n x k e h = subst (λ (c : Party). n + c.reaction < m) (k.talks (ap is_talker e)) h

    go : (w : Whole) → Fits p w → Each (λ x. AllBefore (end_by p w) (own_part p w x)) p.seats
    go (PullPiece at) h = each (Known b) (λ x. AllBefore (at + 61) (own_part p (PullPiece at) x)) p.seats (λ x k. let l = k.prompt in pull_before (at + 61) (at + reaction x) (device x) x.own.clock_low x.own.data_low (omega (arith, l))) known
    go (Command f) h = frame_before p.seats p.seats false (Attention (byte_in_cells f.cells)) f r (omega arith) h.3
    go (Byte eoi f) h =
        let hs = listeners p.seats in
        let m = accept_of hs f + gap hs p.seats in
        let heard = λ (x : Seat). hearing (wire hs f) eoi (Heard (byte_in_cells f.cells) eoi) f x in
        each (λ x. is_listener x.role ≡ true → AllBefore m (heard x)) (λ x. AllBefore m (own_part p (Byte eoi f) x)) p.seats (λ x k. before_if m (is_listener x.role) (heard x) k)
        (listen_each (λ x. AllBefore m (heard x)) p.seats (frame_before hs p.seats eoi (Heard (byte_in_cells f.cells) eoi) f (listen_react p.seats r) (listen_few p.seats) h.3))
    go (ToListener at) h = each (Known b) (λ x. AllBefore (at + 61) (own_part p (ToListener at) x)) p.seats (λ x k. let l = k.prompt in before_role (at + 61) x.role (let_go at x) [] (λ (e : x.role ≡ Absent). (omega (arith, l), tt)) (λ (e : x.role ≡ Talker). tt)) known
    go (ToNobody at clock) h =
        let m = max (at + 61) clock in
        let n = le-max_left (at + 61) clock in
        each (Known b) (λ x. AllBefore m (own_part p (ToNobody at clock) x)) p.seats (λ x k. let l = k.prompt in (omega (arith, l, n), tt)) known
    go (ToTalker at clock) h =
        let last = clock + b.reaction + 1 in
        let m = after_all_of at last p.seats in
        let n : clock + b.reaction < m = let l = after_base at last p.seats in omega (arith, l) in
        both (Known b) (GoneBy at m) (λ x. AllBefore m (own_part p (ToTalker at clock) x)) p.seats
        (λ x k g. before_role m x.role (let_go at x) (drive (device x) (clock + reaction x) Clock Pull ∷ drive (device x) (clock + reaction x) Data Free ∷ []) (λ (e : x.role ≡ Absent). (g e, tt))
        (λ (e : x.role ≡ Talker). (answering at m clock x k e n, (answering at m clock x k e n, tt))))
        known (after_each at last p.seats)
    go (Nothing at clock freed) h =
        let last = afterwards (silent_end b clock) freed in
        let m = after_all_of at last p.seats in
        let a = after_an_answer (silent_end b clock) freed h.2 in
        let n : silent_end b clock < m = let l = after_base at last p.seats in omega (arith, l, a) in
        both (Known b) (GoneBy at m) (λ x. AllBefore m (own_part p (Nothing at clock freed) x)) p.seats
        (λ x k g. before_role m x.role (let_go at x) (silent_part x.party.pace (device x) (clock + reaction x)) (λ (e : x.role ≡ Absent). (g e, tt)) (λ (e : x.role ≡ Talker). silent_before x.party.pace (device x) m (clock + reaction x) (subst (λ (c : Party). silent_end c clock < m) (k.talks (ap is_talker e)) n)))
        known (after_each at last p.seats)
    go (Talk at f) h =
        let m = told_since b f in
        each (Known b) (λ x. AllBefore m (own_part p (Talk at f) x)) p.seats
        (λ x k. before_if m (is_talker x.role) (telling (at_pace (talker_of p.seats).pace x.party) at f) (λ (e : is_talker x.role ≡ true). subst (λ (c : Party). AllBefore m (telling (at_pace (talker_of p.seats).pace c) at f)) (k.talks e) (telling_before b at f h.1))) known

-- all steps of a piece are done by then
pub steps_done : (p : Point) (s : Seat) (w : Whole) → IsSound p s → Fits p w → Every (DoneBy (end_by p w)) (steps_of p w)
steps_done p s w g f =
    every_each (DoneBy (end_by p w)) (λ x. own_part p w x) (host_part p w) p.seats (host_done (end_by p w) (host_part p w) (part_host p w) (part_upto p w f))
    (each (λ x. AllBefore (end_by p w) (own_part p w x)) (λ x. Every (DoneBy (end_by p w)) (own_part p w x)) p.seats (λ x k. before_done (end_by p w) (own_part p w x) k) (parts_before p w g.react g.seated.one f))

-- No piece that may follow at a place begins before m, and no cut there is before m.
abbrev Waits : BusPlace → Point → ℕ → Type 0
Waits Open q m = (n : ℕ) → AtLeast (pull_pause (bus_pace q.seats)) q.released n → q.since ≤ n → m ≤ n
Waits (Commanding some) q m = ((n : ℕ) → q.pulled + 100 ≤ n → q.accepted + 100 ≤ n → m ≤ n) × (some ≡ true → (n : ℕ) → q.accepted + gap q.seats q.seats ≤ n → m ≤ n)
Waits Listening q m = ((n : ℕ) → AtLeast 100 q.released n → q.accepted + 100 ≤ n → m ≤ n) × ((n : ℕ) → AtLeast (pull_pause (bus_pace q.seats)) q.released n → q.accepted + gap (listeners q.seats) q.seats ≤ n → m ≤ n)
Waits (Leading at) q m = (m ≤ at) × (m ≤ q.since)
Waits (Cutting c) q m = m ≤ c

waits_release : (q : Point) (m : ℕ) (l t : Bool) (at : ℕ) → Waits q.place q m → MayRelease q l t at → m ≤ at
waits_release q m l t at w f = let k : Waits (Commanding true) q m = subst (λ (x : BusPlace). Waits x q m) f.commanding w in k.1 refl at f.gap

waits_first : (q : Point) (m : ℕ) (w : Whole) → Waits q.place q m → Fits q w → m ≤ first_of w
waits_first q m (PullPiece at) h f = go q.place h f
  where
    go : (x : BusPlace) → Waits x q m → PullFits q at x → m ≤ at
    go Open k g = k at g.0 g.1
    go (Commanding some) k g = elim g [ ]
    go Listening k g = k.1 at g.0 g.1
    go (Leading t) k g = elim g [ ]
    go (Cutting c) k g = omega (arith, k, g)
waits_first q m (Command f) h k = go q.place h k.0
  where
    go : (x : BusPlace) → Waits x q m → IsCommanding x → m ≤ f.ready
    go (Commanding some) a c = a.0 f.ready k.1 k.2
    go Open a c = elim c [ ]
    go Listening a c = elim c [ ]
    go (Leading t) a c = elim c [ ]
    go (Cutting t) a c = elim c [ ]
waits_first q m (Byte eoi f) h k = let a : Waits Listening q m = subst (λ (x : BusPlace). Waits x q m) k.0 h in a.0 f.ready k.1 k.2
waits_first q m (ToListener at) h f = waits_release q m true false at h f
waits_first q m (ToNobody at clock) h f = waits_release q m false false at h f.0
waits_first q m (ToTalker at clock) h f = waits_release q m false true at h f.0
waits_first q m (Nothing at clock freed) h f = waits_release q m false true at h f.0
waits_first q m (Talk at f) h k = let a : Waits (Leading at) q m = subst (λ (x : BusPlace). Waits x q m) k.0 h in a.0

waits_cut : (q : Point) (m : ℕ) (w : Whole) (c : ℕ) → Waits q.place q m → Fits q w → CutFits q w c → m ≤ c
waits_cut q m (ToTalker at clock) c h f k = let a = waits_first q m (ToTalker at clock) h f in omega (arith, a, k)
waits_cut q m (Nothing at clock freed) c h f k = let a = waits_first q m (Nothing at clock freed) h f in omega (arith, a, k)
waits_cut q m (Talk at f) c h g k = let a : Waits (Leading at) q m = subst (λ (x : BusPlace). Waits x q m) g.0 h in let b = a.1 in omega (arith, b, k)
waits_cut q m (PullPiece at) c h f k = elim k [ ]
waits_cut q m (Command g) c h f k = elim k [ ]
waits_cut q m (Byte eoi g) c h f k = elim k [ ]
waits_cut q m (ToListener at) c h f k = elim k [ ]
waits_cut q m (ToNobody at clock) c h f k = elim k [ ]

-- after a piece all waits for the end of its steps
spread_60 : (hs : List Seat) → SeatsReact hs → spread hs ≤ 60
spread_60 [] r = omega arith
spread_60 (x ∷ xs) r = let k = bounds x xs r in let l = k.3 in omega (arith, l)

gap_100 : (e : Pace) (hs seats : List Seat) → SeatsReact hs → gap_at e hs seats ≤ 100
gap_100 Profile hs [] r = omega arith
gap_100 Profile hs (x ∷ []) r = omega arith
gap_100 Profile hs (x ∷ y ∷ seats) r = omega arith
gap_100 Kernal hs seats r = let k = spread_60 hs r in max-le (omega arith) (omega (arith, k))

told_waits : (f : Told) (n : ℕ) (q : Point) → q.since ≡ (if is_last f then f.accept + n + 1 else f.accept) → Waits (told_place f) q q.since
told_waits f n q = go (is_last f)
  where
    go : (v : Bool) → q.since ≡ (if v then f.accept + n + 1 else f.accept) → Waits (if v then Open else Leading (f.accept + 100)) q q.since
    go true e = λ (n : ℕ) (a : AtLeast (pull_pause (bus_pace q.seats)) q.released n) (b : q.since ≤ n). b
    go false e = (omega (arith, e), omega arith)

whole_waits : (p : Point) (w : Whole) → SeatsReact p.seats → Fits p w → Waits (whole_point p w).place (whole_point p w) (end_by p w)
whole_waits p (PullPiece at) r f = (λ (n : ℕ) (a : at + 100 ≤ n) (b : p.accepted + 100 ≤ n). omega (arith, a), λ (e : false ≡ true). cc)
whole_waits p (Command f) r h =
    let obeys = λ (x : Seat). obeying (byte_in_cells f.cells) x in
    let k = gap_100 (bus_pace p.seats) p.seats p.seats r in
    let same = gap_same obeys p.seats p.seats (λ (x : Seat). refl) in (
      λ (n : ℕ) (a : p.pulled + 100 ≤ n) (b : accept_of p.seats f + 100 ≤ n). omega (arith, b, k),
      λ (e : true ≡ true) (n : ℕ) (a : accept_of p.seats f + gap (map obeys p.seats) (map obeys p.seats) ≤ n). omega (arith, a, same),
    )
whole_waits p (Byte eoi f) r h =
    let stands = λ (x : Seat). standing (lines false false) x in
    let hs = listeners p.seats in
    let k = gap_100 (bus_pace p.seats) hs p.seats (listen_react p.seats r) in
    let same = heard_same (lines false false) p.seats in (
      λ (n : ℕ) (a : AtLeast 100 p.released n) (b : accept_of hs f + 100 ≤ n). omega (arith, b, k),
      λ (n : ℕ) (a : AtLeast (pull_pause (bus_pace (map stands p.seats))) p.released n) (b : accept_of hs f + gap (listeners (map stands p.seats)) (map stands p.seats) ≤ n). omega (arith, b, same),
    )
whole_waits p (ToListener at) r h =
    let stood = map (λ x. standing (lines false false) x) p.seats in
    let k = pause_from (bus_pace stood) in (
      λ (n : ℕ) (a : at + 100 ≤ n) (b : p.accepted + 100 ≤ n). omega (arith, a),
      λ (n : ℕ) (a : at + pull_pause (bus_pace stood) ≤ n) (b : p.accepted + gap (listeners stood) stood ≤ n). omega (arith, a, k),
    )
whole_waits p (ToNobody at clock) r h =
    let stood = map (λ x. standing (lines false false) x) p.seats in
    let k = pause_from (bus_pace stood) in
    λ (n : ℕ) (a : at + pull_pause (bus_pace stood) ≤ n) (b : clock ≤ n). max-le (omega (arith, a, k)) b
whole_waits p (ToTalker at clock) r h = let k = h.1 in (after_upto at (clock + (talker_of p.seats).reaction + 1) (clock + (talker_of p.seats).reaction + 80) p.seats r (omega (arith, k)) (omega arith), omega arith)
whole_waits p (Nothing at clock freed) r h = λ (n : ℕ) (a : Unit {0}) (b : after_all_of at (afterwards (silent_end (talker_of p.seats) clock) freed) p.seats ≤ n). b
whole_waits p (Talk at f) r h = told_waits f (talker_of p.seats).reaction (whole_point p (Talk at f)) refl

-- A session goes on, and nothing of it comes before what it waits for.
goes_from : (ks : List Piece) (p : Point) (s : Seat) → IsSound p s → Linked p ks → GoesOn (session_steps p ks) × ((m : ℕ) → Waits p.place p m → NoneBefore m (session_steps p ks))
goes_from [] p s g l = (tt, λ m h. tt)
goes_from (Full w ∷ ks) p s g l =
    let f = l.0 in
    let more = goes_from ks (whole_point p w) (next_seat w s) (whole_sound p s w g f) l.1 in
    let steps = steps_of p w in
    let others = session_steps (whole_point p w) ks in
    let e = end_by p w in
    let late : NoneBefore e others = more.1 e (whole_waits p w g.react f) in
    let from = first_done p w f (part_upto p w f) in (
      goes_append e steps others (piece_goes p w f) (steps_done p s w g f) late more.0,
      λ m h. (
          let a = waits_first p m w h f in
          none_append m steps others (none_sooner m (first_of w) steps a (steps_from p w f)) (none_sooner m e others (omega (arith, a, from)) late)
          ),
    )
goes_from (Cut w c ∷ ks) p s g l =
    let f = l.0.0 in
    let p2 = point_after p (Cut w c) in
    let more = goes_from ks p2 (seat_with s.role (held_by s.own (before c (own_part p w s))) s) (cut_sound p s w c g l.0) l.1 in
    let steps = before c (steps_of p w) in
    let others = session_steps p2 ks in
    let late : NoneBefore c others = more.1 c (omega arith) in (
      goes_append c steps others (goes_before c (steps_of p w) (piece_goes p w f)) (before_done c steps (front_before c (steps_of p w))) late more.0,
      λ m h. none_append m steps others (none_before m c (steps_of p w) (none_sooner m (first_of w) (steps_of p w) (waits_first p m w h f) (steps_from p w f))) (none_sooner m c others (waits_cut p m w c h f l.0.1) late),
    )

-- a bus has a drive
from_rest : (bs cs : List Party) (ks : List Piece) → 1 ≤ length cs → AllSound (rest bs) cs → Linked (rest bs) ks → GoesOn (session_steps (rest bs) ks)
from_rest bs [] ks n a l = absurd (omega (arith, n))
from_rest bs (c ∷ cs) ks n a l = (goes_from ks (rest bs) (seat_of c) a.0 l).0

pub goes_on : SessionsGoOn
goes_on bs ks h l = from_rest bs bs ks h.some (rest_sound bs h) l
