-- Each that hears a frame has accepted before the host may go on.
use Rattle.std.proofs.Common.{◌≡◌, ℕ, ◌+◌, ◌≤◌, ◌<◌, max, min, Bool, true, false, List, [], ◌∷◌, length, if◌then◌else◌, map, ap, ◌∙◌, arith, refl, subst}
use Rattle.std.proofs.Math.Nat.{le-max_left, le-max_right}
use Rattle.std.specs.Prelude.{◌-◌}
use Rattle.cbm_iec.specs.declared.lines.Held.{Held}
use Rattle.cbm_iec.specs.declared.pace.Pace.TheVariants.{Profile, Kernal}
use Rattle.cbm_iec.specs.declared.pace.Pace.{Pace}
use Rattle.cbm_iec.specs.declared.party.Party.{Party}
use Rattle.cbm_iec.specs.declared.party.Role.{Role}
use Rattle.cbm_session.proofs.frames.OnePulse.{bounds}
use Rattle.cbm_session.proofs.joining.Talkers.{KeepsDrives, KeepsRoles, standing_drives, standing_roles}
use Rattle.cbm_session.specs.Bits.{byte_in_cells}
use Rattle.cbm_session.specs.Frames.{Sent, end_of, accept_of}
use Rattle.cbm_session.specs.Laws.{SeatsReact, begin_of, AllAccepted, ListenersAccepted, DrivesAccepted}
use Rattle.cbm_session.specs.Pieces.{Whole, Point, gap_at, gap, Fits, obeying, standing, whole_point, PullPiece, Command, Byte, ToListener, ToNobody, ToTalker, Nothing, Talk}
use Rattle.cbm_session.specs.Seats.{lines, Seat, reaction, is_listener, listeners, slowest, fastest, spread, bus_pace}

-- all have accepted 61 after the end, as no reaction is longer than 60
all_accepted : (hs : List Seat) (f : Sent) (m : ℕ) → SeatsReact hs → end_of f + 61 ≤ m → AllAccepted hs f m
all_accepted [] f m h l = tt
all_accepted (s ∷ ss) f m h l = (omega (arith, h.1, l), all_accepted ss f m h.2 l)

-- after the first accept and the gap of the bus, at the pace Profile
gap_20 : (hs seats : List Seat) → 20 ≤ gap_at Profile hs seats
gap_20 hs [] = omega arith
gap_20 hs (x ∷ []) = omega arith
gap_20 hs (x ∷ y ∷ seats) = omega arith

by_count : (hs seats : List Seat) (f : Sent) (m : ℕ) → SeatsReact hs → length hs ≤ length seats → accept_of hs f + gap_at Profile hs seats ≤ m → AllAccepted hs f m
by_count [] seats f m h c l = tt
by_count (s ∷ []) seats f m h c l = let k = gap_20 (s ∷ []) seats in (omega (arith, k, l), tt)
by_count (s ∷ u ∷ us) [] f m h c l = absurd (omega (arith, c))
by_count (s ∷ u ∷ us) (x ∷ []) f m h c l = absurd (omega (arith, c))
by_count (s ∷ u ∷ us) (x ∷ y ∷ seats) f m h c l = let k = bounds s (u ∷ us) h in all_accepted (s ∷ u ∷ us) f m h (omega (arith, k.0, l))

-- and at a KERNAL's, where the slowest has accepted, as all have
by_slowest : (n : ℕ) (hs : List Seat) (f : Sent) (m : ℕ) → slowest hs ≤ n → end_of f + n < m → AllAccepted hs f m
by_slowest n [] f m h l = tt
by_slowest n (s ∷ []) f m h l = (omega (arith, h, l), tt)
by_slowest n (s ∷ u ∷ us) f m h l =
    let a = le-max_left (reaction s) (slowest (u ∷ us)) in
    let b = le-max_right (reaction s) (slowest (u ∷ us)) in
    (omega (arith, a, h, l), by_slowest n (u ∷ us) f m (omega (arith, b, h)) l)

accepted_at : (e : Pace) (hs seats : List Seat) (f : Sent) (m : ℕ) → SeatsReact hs → length hs ≤ length seats → accept_of hs f + gap_at e hs seats ≤ m → AllAccepted hs f m
accepted_at Profile hs seats f m h c l = by_count hs seats f m h c l
accepted_at Kernal hs seats f m h c l =
    let k = le-max_right 20 (spread hs + 1) in
    by_slowest (slowest hs) hs f m (omega arith) (omega (arith, k, l))

pub accepted : (hs seats : List Seat) (f : Sent) (m : ℕ) → SeatsReact hs → length hs ≤ length seats → accept_of hs f + gap hs seats ≤ m → AllAccepted hs f m
accepted hs seats f m h c l = accepted_at (bus_pace seats) hs seats f m h c l

at_100 : (hs : List Seat) (f : Sent) (m : ℕ) → SeatsReact hs → accept_of hs f + 100 ≤ m → AllAccepted hs f m
at_100 [] f m h l = tt
at_100 (s ∷ ss) f m h l = let k = bounds s ss h in all_accepted (s ∷ ss) f m h (omega (arith, k.0, l))

-- the listeners among the drives
pub listen_react : (seats : List Seat) → SeatsReact seats → SeatsReact (listeners seats)
listen_react [] h = tt
listen_react (s ∷ ss) h = elim (is_listener s.role) as (λ v. SeatsReact (if v then s ∷ listeners ss else listeners ss)) [ true ↦ (h.0, h.1, listen_react ss h.2) | false ↦ listen_react ss h.2 ]

pub listen_few : (seats : List Seat) → length (listeners seats) ≤ length seats
listen_few [] = omega arith
listen_few (s ∷ ss) =
    let k = listen_few ss in
    elim (is_listener s.role) as (λ v. length (if v then s ∷ listeners ss else listeners ss) ≤ length (s ∷ ss)) [ true ↦ omega (arith, k) | false ↦ omega (arith, k) ]

-- what is after a piece has the same drives
slowest_same : (f : Seat → Seat) (ss : List Seat) → KeepsDrives f → slowest (map f ss) ≡ slowest ss
slowest_same f [] k = refl
slowest_same f (s ∷ []) k = ap (λ (b : Party). b.reaction) (k s)
slowest_same f (s ∷ u ∷ us) k = let a = ap (λ (b : Party). b.reaction) (k s) in let b = slowest_same f (u ∷ us) k in ap (λ (n : ℕ). max n (slowest (map f (u ∷ us)))) a ∙ ap (λ (n : ℕ). max (reaction s) n) b

fastest_same : (f : Seat → Seat) (ss : List Seat) → KeepsDrives f → fastest (map f ss) ≡ fastest ss
fastest_same f [] k = refl
fastest_same f (s ∷ []) k = ap (λ (b : Party). b.reaction) (k s)
fastest_same f (s ∷ u ∷ us) k = let a = ap (λ (b : Party). b.reaction) (k s) in let b = fastest_same f (u ∷ us) k in ap (λ (n : ℕ). min n (fastest (map f (u ∷ us)))) a ∙ ap (λ (n : ℕ). min (reaction s) n) b

pub pace_same : (f : Seat → Seat) (ss : List Seat) → KeepsDrives f → bus_pace (map f ss) ≡ bus_pace ss
pace_same f [] k = refl
pace_same f (s ∷ ss) k =
    ap (λ (b : Party). elim b.pace as (λ e. Pace) [ Profile ↦ Profile | Kernal ↦ bus_pace (map f ss) ]) (k s)
    ∙ ap (λ (x : Pace). elim s.party.pace as (λ e. Pace) [ Profile ↦ Profile | Kernal ↦ x ]) (pace_same f ss k)

gap_at_same : (e : Pace) (f : Seat → Seat) (hs seats : List Seat) → KeepsDrives f → gap_at e (map f hs) (map f seats) ≡ gap_at e hs seats
gap_at_same Profile f hs [] k = refl
gap_at_same Profile f hs (s ∷ []) k = refl
gap_at_same Profile f hs (s ∷ u ∷ us) k = refl
gap_at_same Kernal f hs seats k = ap (λ (n : ℕ). max 20 (n - fastest (map f hs) + 1)) (slowest_same f hs k) ∙ ap (λ (n : ℕ). max 20 (slowest hs - n + 1)) (fastest_same f hs k)

pub gap_same : (f : Seat → Seat) (hs seats : List Seat) → KeepsDrives f → gap (map f hs) (map f seats) ≡ gap hs seats
gap_same f hs seats k = ap (λ (e : Pace). gap_at e (map f hs) (map f seats)) (pace_same f seats k) ∙ gap_at_same (bus_pace seats) f hs seats k

-- and the same listeners
listeners_same : (f : Seat → Seat) (ss : List Seat) → KeepsRoles f → listeners (map f ss) ≡ map f (listeners ss)
listeners_same f [] k = refl
listeners_same f (s ∷ ss) k =
    ap (λ (r : Role). if is_listener r then f s ∷ listeners (map f ss) else listeners (map f ss)) (k s)
    ∙ (elim (is_listener s.role) as (λ v. (if v then f s ∷ listeners (map f ss) else listeners (map f ss)) ≡ map f (if v then s ∷ listeners ss else listeners ss)) [
      | true ↦ ap (λ (xs : List Seat). f s ∷ xs) (listeners_same f ss k)
      | false ↦ listeners_same f ss k
    ])

pub heard_same : (talking : Held) (seats : List Seat) → gap (listeners (map (λ s. standing talking s) seats)) (map (λ s. standing talking s) seats) ≡ gap (listeners seats) seats
heard_same talking seats =
    let stands = λ (s : Seat). standing talking s in
    ap (λ (hs : List Seat). gap hs (map stands seats)) (listeners_same stands seats (standing_roles talking)) ∙ gap_same stands (listeners seats) seats (standing_drives talking)

after_a_byte : (p : Point) (eoi : Bool) (f : Sent) (next : Whole) → SeatsReact p.seats → Fits (whole_point p (Byte eoi f)) next
    → AllAccepted (listeners p.seats) f (begin_of next)
after_a_byte p eoi f (PullPiece at) r h =
    accepted (listeners p.seats) p.seats f at (listen_react p.seats r) (listen_few p.seats)
    (subst (λ (n : ℕ). accept_of (listeners p.seats) f + n ≤ at) (heard_same (lines false false) p.seats) h.1)
after_a_byte p eoi f (Command g) r h = elim h.0 [ ]
after_a_byte p eoi f (Byte e g) r h = at_100 (listeners p.seats) f g.ready (listen_react p.seats r) h.2
after_a_byte p eoi f (ToListener at) r h = absurd cc
after_a_byte p eoi f (ToNobody at clock) r h = absurd cc
after_a_byte p eoi f (ToTalker at clock) r h = absurd cc
after_a_byte p eoi f (Nothing at clock freed) r h = absurd cc
after_a_byte p eoi f (Talk at g) r h = absurd cc

pub listeners_accepted : ListenersAccepted
listeners_accepted p eoi f next r h k = after_a_byte p eoi f next r k

-- a change of ATN after a byte of attention
release_waits : (f : Sent) (at : ℕ) (seats : List Seat) (g : Seat → Seat) → SeatsReact seats → KeepsDrives g → accept_of seats f + gap (map g seats) (map g seats) ≤ at → AllAccepted seats f at
release_waits f at seats g r k h = accepted seats seats f at r (omega arith) (subst (λ (n : ℕ). accept_of seats f + n ≤ at) (gap_same g seats seats k) h)

pub drives_accepted : DrivesAccepted
drives_accepted p f (PullPiece at) r h k = elim k [ ]
drives_accepted p f (Command g) r h k = at_100 p.seats f g.ready r k.2
drives_accepted p f (Byte e g) r h k = absurd cc
drives_accepted p f (ToListener at) r h k = release_waits f at p.seats (λ s. obeying (byte_in_cells f.cells) s) r (λ (s : Seat). refl) k.gap
drives_accepted p f (ToNobody at clock) r h k = release_waits f at p.seats (λ s. obeying (byte_in_cells f.cells) s) r (λ (s : Seat). refl) k.0.gap
drives_accepted p f (ToTalker at clock) r h k = release_waits f at p.seats (λ s. obeying (byte_in_cells f.cells) s) r (λ (s : Seat). refl) k.0.gap
drives_accepted p f (Nothing at clock freed) r h k = release_waits f at p.seats (λ s. obeying (byte_in_cells f.cells) s) r (λ (s : Seat). refl) k.0.gap
drives_accepted p f (Talk at g) r h k = absurd cc
