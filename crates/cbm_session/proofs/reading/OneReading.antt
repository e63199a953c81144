-- The decoder reads every session, cut pieces too; so a trace has one reading.
use Rattle.cbm_iec.specs.declared.pace.Pace.TheVariants.{Profile, Kernal}
use Rattle.cbm_iec.specs.declared.pace.Pace.{Pace}
use Rattle.cbm_session.proofs.joining.Silents.{silent_from, silent_head}
use Rattle.cbm_iec.specs.Profile.{bit_time, first_accept}
use Rattle.std.proofs.Common.{◌≡◌, ℕ, ◌+◌, ◌≤◌, inl, inr, Bool, true, false, List, [], ◌∷◌, ◌++◌, map, Option, Some, None, ap, sym, ◌∙◌, subst, arith, refl, zero, suc, not, eq-eqb}
use Rattle.std.proofs.lemmas.Bool.Decides.{leb_tells}
use Rattle.std.proofs.lemmas.Bool.{ne_eqb}
use Rattle.std.specs.Prelude.{if◌then◌else◌, nat_eq}
use Rattle.cbm_iec.specs.declared.machine.Act.TheVariants.{Released, Said}
use Rattle.cbm_iec.specs.declared.machine.Act.{Act}
use Rattle.cbm_iec.specs.declared.event.Event.{Event}
use Rattle.cbm_iec.specs.declared.event.Who.TheVariants.{Host, Drive}
use Rattle.cbm_iec.specs.declared.event.Who.{Who}
use Rattle.cbm_iec.specs.declared.lines.Line.TheVariants.{Atn, Clock, Data}
use Rattle.cbm_iec.specs.declared.lines.Line.{Line}
use Rattle.cbm_iec.specs.declared.lines.Way.TheVariants.{Pull, Free}
use Rattle.cbm_iec.specs.declared.lines.Way.{Way}
use Rattle.cbm_iec.specs.declared.party.Party.{Party}
use Rattle.cbm_iec.specs.declared.party.Role.TheVariants.{Absent, Listener, Talker}
use Rattle.cbm_iec.specs.declared.party.Role.{Role}
use Rattle.cbm_session.proofs.joining.Merging.{merge_here, merge_there, merge_nil, InOrder, order_merge, before_yes, cut_front}
use Rattle.cbm_session.proofs.joining.Owning.{part_owned, owned_foreign, owned_mine, host_mine, part_order}
use Rattle.cbm_session.proofs.joining.Seating.{Apart, Sits}
use Rattle.cbm_session.proofs.joining.Showing.{shows_before, shows_all}
use Rattle.cbm_session.proofs.joining.Talkers.{OneTalker, KeepsDrives, KeepsRoles, sits_map, one_map, standing_drives, standing_roles, AreSeats, seats_map, one_obeys}
use Rattle.cbm_session.proofs.reading.Decoding.{Under, Known, known, freed_under, own_pulled, step_by, step_next, acts_in, Reads, reads_acts, reads_append, reads_split, ReadsOwn, Shows, shown_reads, Off, Readied, Counting, Turning, Asking, Answered, Muted, Leads, Saying}
use Rattle.cbm_session.proofs.reading.PieceReadings.{AtPlace, turn_first, calm_said, next_seat, piece_goes}
use Rattle.cbm_session.proofs.reading.Readings.{Calm}
use Rattle.cbm_session.specs.Bits.{number_of, byte_in_cells}
use Rattle.cbm_session.specs.Frames.{Told, is_last, signal_steps, first_bit, bit_steps, telling, taking, SignalFits, ToldFits}
use Rattle.cbm_session.specs.Joins.{NotBefore}
use Rattle.cbm_session.specs.Laws.{OneReading}
use Rattle.cbm_session.specs.Pieces.{silent_part, silent_end, Whole, Piece, BusPlace, Point, freed_steps, host_part, let_go, own_part, steps_of, before, FreedFits, Fits, CutFits, held_by, seat_with, obeying, standing, whole_point, point_after, PullPiece, Command, Byte, ToListener, ToNobody, ToTalker, Nothing, Talk, Full, Cut, Leading}
use Rattle.cbm_session.specs.Seats.{at_pace, lines, Seat, device, reaction, is_talker, talker_of}
use Rattle.cbm_session.specs.Sessions.{rest, Linked, session_steps, Splits, AreDrives, Unlike, AllUnlike, IsBus}
use Rattle.cbm_session.specs.Steps.{Step, host, drive, for_each, for_one, moment_of, events_of, acts_for, merge}

-- Without a change of ATN, and out of attention, the role stays.
abbrev pub is_atn : Line → Bool
is_atn Atn = true
is_atn Clock = false
is_atn Data = false

abbrev pub NoAtn : List Step → Type 0
NoAtn [] = Unit {0}
NoAtn (s ∷ ss) = (is_atn s.event.change.line ≡ false) × NoAtn ss

own_pulled_role : (d : ℕ) (r : Role) (u : Under) → ((own_pulled d r false u).role ≡ r) × ((own_pulled d r false u).atn ≡ false)
own_pulled_role d r Off = (refl, refl)
own_pulled_role d r (Readied eoi) = (refl, refl)
own_pulled_role d r (Counting eoi held zero bits) = (refl, refl)
own_pulled_role d r (Counting eoi held (suc left) bits) = (refl, refl)
own_pulled_role d r Turning = (refl, refl)
own_pulled_role d r Asking = (refl, refl)
own_pulled_role d r Answered = (refl, refl)
own_pulled_role d r Muted = (refl, refl)
own_pulled_role d r Leads = (refl, refl)
own_pulled_role d r (Saying held signal left bits) = (refl, refl)

step_role : (d : ℕ) (r : Role) (u : Under) (line : Line) (way : Way) (w : Who) → is_atn line ≡ false → ((step_by d (known r false u) line way w).role ≡ r) × ((step_by d (known r false u) line way w).atn ≡ false)
step_role d r u Atn way w h = cc
step_role d r u Clock Pull Host h = (refl, refl)
step_role d r u Clock Free Host h = (refl, refl)
step_role d r u Data Pull Host h = (refl, refl)
step_role d r u Data Free Host h = (refl, refl)
step_role d r u Clock Pull (Drive o) h = (refl, refl)
step_role d r u Clock Free (Drive o) h = (refl, refl)
step_role d r u Data Pull (Drive o) h = own_pulled_role d r u
step_role d r u Data Free (Drive o) h = (refl, refl)

keeps_role : (d : ℕ) (k : Known) (ss : List Step) (k2 : Known) → k.atn ≡ false → NoAtn ss → ReadsOwn d k ss k2 → k2.role ≡ k.role
keeps_role d k [] k2 a n r = ap (λ (x : Known). x.role) r
keeps_role d k (s ∷ ss) k2 a n r =
    let e : k ≡ known k.role false k.under = ap (λ (v : Bool). known k.role v k.under) a in
    let g = step_role d k.role k.under s.event.change.line s.event.change.way s.event.who n.0 in
    let role : (step_next d k s.event).role ≡ k.role = ap (λ (x : Known). (step_next d x s.event).role) e ∙ g.0 in
    let atn : (step_next d k s.event).atn ≡ false = ap (λ (x : Known). (step_next d x s.event).atn) e ∙ g.1 in
    keeps_role d (step_next d k s.event) ss k2 atn n.1 r.1 ∙ role

pub noatn_append : (xs ys : List Step) → NoAtn xs → NoAtn ys → NoAtn (xs ++ ys)
noatn_append [] ys a b = b
noatn_append (x ∷ xs) ys a b = (a.0, noatn_append xs ys a.1 b)

pub noatn_front : (xs ys : List Step) → NoAtn (xs ++ ys) → NoAtn xs
noatn_front [] ys a = tt
noatn_front (x ∷ xs) ys a = (a.0, noatn_front xs ys a.1)

pub noatn_merge : (xs ys : List Step) → NoAtn xs → NoAtn ys → NoAtn (merge xs ys)
noatn_merge [] ys a b = b
noatn_merge (x ∷ xs) [] a b = subst NoAtn (sym (merge_nil (x ∷ xs))) a
noatn_merge (x ∷ xs) (y ∷ ys) a b = elim (leb_tells (moment_of x) (moment_of y)) [
  | inl e ↦ subst NoAtn (sym (merge_here x xs y ys e.1)) (a.0, noatn_merge xs (y ∷ ys) a.1 b)
  | inr e ↦ subst NoAtn (sym (merge_there x xs y ys e.1)) (b.0, noatn_merge (x ∷ xs) ys a b.1)
]

noatn_bits : (b : Party) (at : ℕ) (held : Bool) (bits : List Bool) → NoAtn (bit_steps b at held bits)
noatn_bits b at true [] = (refl, (refl, tt))
noatn_bits b at false [] = (refl, tt)
noatn_bits b at true (true ∷ bits) = (refl, (refl, (refl, noatn_bits b (at + bit_time b.pace) false bits)))
noatn_bits b at false (true ∷ bits) = (refl, (refl, noatn_bits b (at + bit_time b.pace) false bits))
noatn_bits b at true (false ∷ bits) = (refl, (refl, noatn_bits b (at + bit_time b.pace) true bits))
noatn_bits b at false (false ∷ bits) = (refl, (refl, (refl, noatn_bits b (at + bit_time b.pace) true bits)))

pub noatn_if : (v : Bool) (ss : List Step) → NoAtn ss → NoAtn (if v then ss else [])
noatn_if true ss a = a
noatn_if false ss a = tt

noatn_role : (r : Role) (a b : List Step) → NoAtn a → NoAtn b → NoAtn (elim r as (λ q. List Step) [ Absent ↦ a | Listener ↦ [] | Talker ↦ b ])
noatn_role Absent a b x y = x
noatn_role Listener a b x y = tt
noatn_role Talker a b x y = y

pub noatn_telling : (b : Party) (at : ℕ) (f : Told) → NoAtn (telling b at f)
noatn_telling b at f = (refl, noatn_append (bit_steps b (first_bit b f) false f.bits) (if is_last f then drive b.device (f.accept + b.reaction) Clock Free ∷ [] else []) (noatn_bits b (first_bit b f) false f.bits) (noatn_if (is_last f) (drive b.device (f.accept + b.reaction) Clock Free ∷ []) (refl, tt)))

noatn_signal : (x : Option (ℕ × ℕ)) → NoAtn (signal_steps x)
noatn_signal None = tt
noatn_signal (Some (pull, free)) = (refl, (refl, tt))

pub noatn_taking : (b : Party) (f : Told) → NoAtn (taking b f)
noatn_taking b f = (refl, noatn_append (signal_steps f.signal) (for_one b.device (Said (number_of f.bits) (is_last f)) (host f.accept Data Pull) ∷ []) (noatn_signal f.signal) (refl, tt))

pub noatn_freed : (x : Option ℕ) → NoAtn (freed_steps x)
noatn_freed None = tt
noatn_freed (Some g) = (refl, tt)

-- what was read of a front
own_split : (d : ℕ) (k : Known) (xs ys : List Step) (k3 : Known) → ReadsOwn d k (xs ++ ys) k3 → (k2 : Known) × ReadsOwn d k xs k2
own_split d k [] ys k3 r = (k, refl)
own_split d k (s ∷ xs) ys k3 r = let q = own_split d (step_next d k s.event) xs ys k3 r.1 in (q.0, (r.0, q.1))

-- a cut of steps in order, without a change of ATN, keeps the role
cut_reads : (d c : ℕ) (k : Known) (ss : List Step) (k3 : Known) → k.atn ≡ false → InOrder ss → NoAtn ss → ReadsOwn d k ss k3 → (u : Under) × ((atn : Bool) × ReadsOwn d k (before c ss) (known k.role atn u))
cut_reads d c k ss k3 a o n r =
    let f = cut_front c ss o in
    let q = own_split d k (before c ss) f.0 k3 (subst (λ (zs : List Step). ReadsOwn d k zs k3) f.1 r) in
    let e : q.0.role ≡ k.role = keeps_role d k (before c ss) q.0 a (noatn_front (before c ss) f.0 (subst NoAtn f.1 n)) q.1 in
    (q.0.under, (q.0.atn, subst (λ (x : Role). ReadsOwn d k (before c ss) (known x q.0.atn q.0.under)) e q.1))

abbrev pub Cuts : ℕ → Known → List Step → Role → Type 0
Cuts d k ss r = (u : Under) × ((atn : Bool) × ReadsOwn d k ss (known r atn u))

-- the cut of a turnaround: its first two changes stand
turn_cut : (d c at : ℕ) (r : Role) (atn : Bool) (u : Under) (more own : List Step) (k3 : Known) → at + 1 ≤ c → Calm u → NotBefore at own → InOrder more → InOrder own → NoAtn more → NoAtn own
    → ReadsOwn d (known r false (freed_under r)) (merge more own) k3
    → Cuts d (known r atn u) (before c (merge (host at Data Pull ∷ for_each Released (host at Atn Free) ∷ more) own)) r
turn_cut d c at r atn u more own k3 l h n o p a b q =
    let first = host at Data Pull in
    let second = for_each Released (host at Atn Free) in
    let same : before c (merge (first ∷ second ∷ more) own) ≡ first ∷ second ∷ before c (merge more own) =
    ap (λ (zs : List Step). before c zs) (turn_first at more own n)
    ∙ before_yes c first (second ∷ merge more own) (omega (arith, l))
    ∙ ap (λ (zs : List Step). first ∷ zs) (before_yes c second (merge more own) (omega (arith, l))) in
    let x = cut_reads d c (known r false (freed_under r)) (merge more own) k3 refl (order_merge more own o p) (noatn_merge more own a b) q in
    (x.0, (x.1.0, subst (λ (zs : List Step). ReadsOwn d (known r atn u) zs (known r x.1.0 x.0)) (sym same) (calm_said u h, (refl, x.1.1))))

-- what a reading of the whole turnaround says of its steps after the first two
turn_rest : (d at : ℕ) (r : Role) (atn : Bool) (u : Under) (more own : List Step) (k3 : Known) → NotBefore at own → ReadsOwn d (known r atn u) (merge (host at Data Pull ∷ for_each Released (host at Atn Free) ∷ more) own) k3
    → ReadsOwn d (known r false (freed_under r)) (merge more own) k3
turn_rest d at r atn u more own k3 n q = (subst (λ (zs : List Step). ReadsOwn d (known r atn u) zs k3) (turn_first at more own n) q).1.1

pub late_by_role : (m : ℕ) (r : Role) (a b : List Step) → NotBefore m a → NotBefore m b → NotBefore m (elim r as (λ q. List Step) [ Absent ↦ a | Listener ↦ [] | Talker ↦ b ])
late_by_role m Absent a b x y = x
late_by_role m Listener a b x y = tt
late_by_role m Talker a b x y = y

pub freed_order : (clock : ℕ) (b : Party) (x : Option ℕ) → FreedFits (silent_end b clock) x → InOrder (host clock Clock Free ∷ freed_steps x)
freed_order clock b None h = (tt, tt)
freed_order clock b (Some g) h = ((omega (arith, h, silent_from b clock), tt), (tt, tt))

pub taking_order : (b : Party) (f : Told) (at : ℕ) → ToldFits b at f → InOrder (taking b f)
taking_order b f at h = go f.signal h.signal h.accept
  where
    go : (x : Option (ℕ × ℕ)) → SignalFits f.free x → (elim x as (λ y. ℕ) [ None ↦ f.free | Some y ↦ y.1 ]) + b.reaction + first_accept b.pace ≤ f.accept
        → InOrder (host f.free Data Free ∷ (signal_steps x ++ for_one b.device (Said (number_of f.bits) (is_last f)) (host f.accept Data Pull) ∷ []))
    go None g a = ((omega (arith, a), tt), (tt, tt))
    go (Some (pull, again)) g a =
        let x = g.0 in
        let y = g.1 in
        ((omega (arith, x), (omega (arith, x, y), (omega (arith, x, y, a), tt))), ((omega (arith, y), (omega (arith, y, a), tt)), ((omega (arith, a), tt), (tt, tt))))

noatn_silent : (e : Pace) (d t : ℕ) → NoAtn (silent_part e d t)
noatn_silent Profile d t = (refl, tt)
noatn_silent Kernal d t = (refl, (refl, (refl, tt)))

-- the cut of a piece: whatever stands of it, the role stays
pub cut_goes : (d c : ℕ) (p : Point) (w : Whole) (s : Seat) (atn : Bool) (u : Under) → 1 ≤ d → Sits d p.seats s → OneTalker p.seats → AtPlace p.place s.role atn u → Fits p w → CutFits p w c
    → Cuts d (known s.role atn u) (before c (merge (host_part p w) (own_part p w s))) s.role
cut_goes d c p (PullPiece at) s atn u l t o q h k = elim k [ ]
cut_goes d c p (Command f) s atn u l t o q h k = elim k [ ]
cut_goes d c p (Byte eoi f) s atn u l t o q h k = elim k [ ]
cut_goes d c p (ToListener at) s atn u l t o q h k = elim k [ ]
cut_goes d c p (ToNobody at clock) s atn u l t o q h k = elim k [ ]
cut_goes d c p (ToTalker at clock) s atn u l t o q h k =
    let b = h.1 in
    let calm : (atn ≡ true) × Calm u = subst (λ (x : BusPlace). AtPlace x s.role atn u) h.0.commanding q in
    let all = piece_goes d p (ToTalker at clock) s atn u l t o q h in
    let own = own_part p (ToTalker at clock) s in
    let late : NotBefore at own = late_by_role at s.role (let_go at s) (drive (device s) (clock + reaction s) Clock Pull ∷ drive (device s) (clock + reaction s) Data Free ∷ []) (omega arith) (omega (arith, b)) in
    turn_cut d c at s.role atn u (host clock Clock Free ∷ []) own (known (next_seat (ToTalker at clock) s).role all.0 all.1.0) k calm.1 late (tt, tt) (part_order p (ToTalker at clock) h s) (refl, tt)
    (noatn_role s.role (let_go at s) (drive (device s) (clock + reaction s) Clock Pull ∷ drive (device s) (clock + reaction s) Data Free ∷ []) (refl, tt) (refl, (refl, tt)))
    (turn_rest d at s.role atn u (host clock Clock Free ∷ []) own (known (next_seat (ToTalker at clock) s).role all.0 all.1.0) late all.1.1.0)
cut_goes d c p (Nothing at clock freed) s atn u l t o q h k =
    let b = h.1 in
    let calm : (atn ≡ true) × Calm u = subst (λ (x : BusPlace). AtPlace x s.role atn u) h.0.commanding q in
    let all = piece_goes d p (Nothing at clock freed) s atn u l t o q h in
    let own = own_part p (Nothing at clock freed) s in
    let late : NotBefore at own = late_by_role at s.role (let_go at s) (silent_part s.party.pace (device s) (clock + reaction s)) (omega arith) (silent_head s.party.pace (device s) at (clock + reaction s) (omega (arith, b))) in
    turn_cut d c at s.role atn u (host clock Clock Free ∷ freed_steps freed) own (known (next_seat (Nothing at clock freed) s).role all.0 all.1.0) k calm.1 late (freed_order clock (talker_of p.seats) freed h.2) (part_order p (Nothing at clock freed) h s) (refl, noatn_freed freed)
    (noatn_role s.role (let_go at s) (silent_part s.party.pace (device s) (clock + reaction s)) (refl, tt) (noatn_silent s.party.pace (device s) (clock + reaction s)))
    (turn_rest d at s.role atn u (host clock Clock Free ∷ freed_steps freed) own (known (next_seat (Nothing at clock freed) s).role all.0 all.1.0) late all.1.1.0)
cut_goes d c p (Talk at f) s atn u l t o q h k =
    let lead : AtPlace (Leading at) s.role atn u = subst (λ (x : BusPlace). AtPlace x s.role atn u) h.0 q in
    let all = piece_goes d p (Talk at f) s atn u l t o q h in
    let own = own_part p (Talk at f) s in
    cut_reads d c (known s.role atn u) (merge (taking (talker_of p.seats) f) own) (known (next_seat (Talk at f) s).role all.0 all.1.0) (out_of_attention s.role lead)
    (order_merge (taking (talker_of p.seats) f) own (taking_order (talker_of p.seats) f at h.1) (part_order p (Talk at f) h s))
    (noatn_merge (taking (talker_of p.seats) f) own (noatn_taking (talker_of p.seats) f) (noatn_if (is_talker s.role) (telling (at_pace (talker_of p.seats).pace s.party) at f) (noatn_telling (at_pace (talker_of p.seats).pace s.party) at f))) all.1.1.0
  where
    out_of_attention : (r : Role) → AtPlace (Leading at) r atn u → atn ≡ false
    out_of_attention Absent h = h.0
    out_of_attention Listener h = h.0
    out_of_attention Talker h = h.0

-- a drive sees the host's part of a piece joined with its own
pub piece_shows : (d : ℕ) (p : Point) (w : Whole) (s : Seat) → Fits p w → Sits d p.seats s → Shows d (steps_of p w) (merge (host_part p w) (own_part p w s))
piece_shows d p w s h t =
    shows_all d (λ x. own_part p w x) (λ (x : Seat) (e : nat_eq d (device x) ≡ true). owned_mine d (device x) (own_part p w x) e (part_owned p w x))
    (λ (x : Seat) (e : nat_eq d (device x) ≡ false). owned_foreign d (device x) (own_part p w x) e (part_owned p w x))
    (part_order p w h) (host_part p w) p.seats s (host_mine d p w) t

-- what holds of the seats at a point
pub record IsSeated (d : ℕ) (p : Point) (s : Seat) : Type 0 where
  pub sits : Sits d p.seats s
  pub one : OneTalker p.seats
  pub apart : AreSeats p.seats

pulled_map : KeepsDrives (λ s. seat_with s.role (lines false true) s)
pulled_map x = refl

pub seated : (d : ℕ) (f : Seat → Seat) (ss : List Seat) (s : Seat) → KeepsDrives f → KeepsRoles f → Sits d ss s → OneTalker ss → AreSeats ss → Sits d (map f ss) (f s) × OneTalker (map f ss) × AreSeats (map f ss)
seated d f ss s k r t o a = (sits_map d f ss s k t, one_map f ss r o, seats_map f ss k a)

pub whole_seated : (d : ℕ) (p : Point) (w : Whole) (s : Seat) → IsSeated d p s → IsSeated d (whole_point p w) (next_seat w s)
whole_seated d p (PullPiece at) s h = let k = seated d (λ x. seat_with x.role (lines false true) x) p.seats s (λ (x : Seat). refl) (λ (x : Seat). refl) h.sits h.one h.apart in record { sits = k.0; one = k.1; apart = k.2 }
whole_seated d p (Command f) s h = record {
  sits = sits_map d (λ x. obeying (byte_in_cells f.cells) x) p.seats s (λ (x : Seat). refl) h.sits;
  one = one_obeys (byte_in_cells f.cells) p.seats h.apart h.one;
  apart = seats_map (λ x. obeying (byte_in_cells f.cells) x) p.seats (λ (x : Seat). refl) h.apart;
}
whole_seated d p (Byte eoi f) s h = let k = seated d (λ x. standing (lines false false) x) p.seats s (standing_drives (lines false false)) (standing_roles (lines false false)) h.sits h.one h.apart in record { sits = k.0; one = k.1; apart = k.2 }
whole_seated d p (ToListener at) s h = let k = seated d (λ x. standing (lines false false) x) p.seats s (standing_drives (lines false false)) (standing_roles (lines false false)) h.sits h.one h.apart in record { sits = k.0; one = k.1; apart = k.2 }
whole_seated d p (ToNobody at clock) s h = let k = seated d (λ x. standing (lines false false) x) p.seats s (standing_drives (lines false false)) (standing_roles (lines false false)) h.sits h.one h.apart in record { sits = k.0; one = k.1; apart = k.2 }
whole_seated d p (ToTalker at clock) s h = let k = seated d (λ x. standing (lines true false) x) p.seats s (standing_drives (lines true false)) (standing_roles (lines true false)) h.sits h.one h.apart in record { sits = k.0; one = k.1; apart = k.2 }
whole_seated d p (Nothing at clock freed) s h = let k = seated d (λ x. standing (lines false false) x) p.seats s (standing_drives (lines false false)) (standing_roles (lines false false)) h.sits h.one h.apart in record { sits = k.0; one = k.1; apart = k.2 }
whole_seated d p (Talk at f) s h = let k = seated d (λ x. standing (lines (not (is_last f)) false) x) p.seats s (standing_drives (lines (not (is_last f)) false)) (standing_roles (lines (not (is_last f)) false)) h.sits h.one h.apart in record { sits = k.0; one = k.1; apart = k.2 }

-- The decoder reads every session.
pub session_reads : (d : ℕ) (p : Point) (ks : List Piece) (s : Seat) (atn : Bool) (u : Under) → 1 ≤ d → IsSeated d p s → AtPlace p.place s.role atn u → Linked p ks
    → (k : Known) × Reads d (known s.role atn u) (session_steps p ks) k
session_reads d p [] s atn u l t q h = (known s.role atn u, refl)
session_reads d p (Full w ∷ ks) s atn u l t q h =
    let g = piece_goes d p w s atn u l t.sits t.one q h.0 in
    let r = shown_reads d (steps_of p w) (merge (host_part p w) (own_part p w s)) (known s.role atn u) (known (next_seat w s).role g.0 g.1.0) (piece_shows d p w s h.0 t.sits) g.1.1.0 in
    let m = session_reads d (whole_point p w) ks (next_seat w s) g.0 g.1.0 l (whole_seated d p w s t) g.1.1.1 h.1 in
    (m.0, reads_append d (known s.role atn u) (steps_of p w) (session_steps (whole_point p w) ks) (known (next_seat w s).role g.0 g.1.0) m.0 r m.1)
session_reads d p (Cut w c ∷ ks) s atn u l t q h =
    let g = cut_goes d c p w s atn u l t.sits t.one q h.0.0 h.0.1 in
    let kept = λ (x : Seat). seat_with x.role (held_by x.own (before c (own_part p w x))) x in
    let r = shown_reads d (before c (steps_of p w)) (before c (merge (host_part p w) (own_part p w s))) (known s.role atn u) (known s.role g.1.0 g.0)
    (shows_before d c (steps_of p w) (merge (host_part p w) (own_part p w s)) (piece_shows d p w s h.0.0 t.sits)) g.1.1 in
    let z = seated d kept p.seats s (λ (x : Seat). refl) (λ (x : Seat). refl) t.sits t.one t.apart in
    let m = session_reads d (point_after p (Cut w c)) ks (kept s) g.1.0 g.0 l (record { sits = z.0; one = z.1; apart = z.2 }) tt h.1 in
    (m.0, reads_append d (known s.role atn u) (before c (steps_of p w)) (session_steps (point_after p (Cut w c)) ks) (known s.role g.1.0 g.0) m.0 r m.1)

-- from rest
abbrev pub seat_of : Party → Seat
seat_of b = record { party = b; role = Absent; own = lines false false }

abbrev pub AllSit : List Seat → List Party → Type 0
AllSit seats [] = Unit {0}
AllSit seats (c ∷ cs) = Sits c.device seats (seat_of c) × AllSit seats cs

further : (x : Seat) (seats : List Seat) (cs : List Party) → Unlike (device x) cs → AllSit seats cs → AllSit (x ∷ seats) cs
further x seats [] u a = tt
further x seats (c ∷ cs) u a = (inr (ne_eqb c.device (device x) (λ (e : c.device ≡ device x). u.0 (sym e)), a.0), further x seats cs u.1 a.1)

apart_of : (d : ℕ) (bs : List Party) → Unlike d bs → Apart d (map (λ b. seat_of b) bs)
apart_of d [] u = tt
apart_of d (b ∷ bs) u = (ne_eqb d b.device u.0, apart_of d bs u.1)

pub all_sit : (bs : List Party) → AllUnlike bs → AllSit (map (λ b. seat_of b) bs) bs
all_sit [] u = tt
all_sit (b ∷ bs) u = (inl (refl, eq-eqb b.device b.device refl, apart_of b.device bs u.0), further (seat_of b) (map (λ b. seat_of b) bs) bs u.0 (all_sit bs u.1))

pub are_seats : (bs : List Party) → AreDrives bs → AllUnlike bs → AreSeats (map (λ b. seat_of b) bs)
are_seats [] h u = tt
are_seats (b ∷ bs) h u = let k = h.0.upto in (omega (arith, k), apart_of b.device bs u.0, are_seats bs h.1 u.1)

pub none_talks : (bs : List Party) → OneTalker (map (λ b. seat_of b) bs)
none_talks [] = tt
none_talks (b ∷ bs) = (λ (e : false ≡ true). cc, none_talks bs)

abbrev unknowing : Known
unknowing = known Absent false Off

-- what counts in the front of a session is what the decoder gives for its events
begins_acts : (bs : List Party) → IsBus bs → (ks : List Piece) (done more : List Step) → Splits bs ks done more → (cs : List Party) → AllSit (rest bs).seats cs → AreDrives cs
    → map (λ b. acts_for b.device done) cs ≡ map (λ b. acts_in b.device unknowing (events_of done)) cs
begins_acts bs h ks done more sp [] a g = refl
begins_acts bs h ks done more sp (c ∷ cs) a g =
    let from = g.0.from in
    let r = session_reads c.device (rest bs) ks (seat_of c) false Off (omega (arith, from)) (record { sits = a.0; one = none_talks bs; apart = are_seats bs h.drives h.unlike }) tt sp.linked in
    let q = reads_split c.device unknowing done more r.0 (subst (λ (ss : List Step). Reads c.device unknowing ss r.0) sp.steps r.1) in
    let mine = reads_acts c.device unknowing done q.0 q.1 in
    ap (λ (l : List Act). l ∷ map (λ b. acts_for b.device done) cs) mine
    ∙ ap (λ (ls : List (List Act)). acts_in c.device unknowing (events_of done) ∷ ls) (begins_acts bs h ks done more sp cs a.1 g.1)

pub one_reading_lem : OneReading
one_reading_lem bs trace x y h f g =
    let a = begins_acts bs h f.0 f.1.0 f.1.1.0 f.1.1.1.0 bs (all_sit bs h.unlike) h.drives in
    let b = begins_acts bs h g.0 g.1.0 g.1.1.0 g.1.1.1.0 bs (all_sit bs h.unlike) h.drives in
    let same : events_of f.1.0 ≡ events_of g.1.0 = f.1.1.1.1 ∙ sym g.1.1.1.1 in
    sym f.1.1.1.2 ∙ a ∙ ap (λ (es : List Event). map (λ b. acts_in b.device unknowing es) bs) same ∙ sym b ∙ g.1.1.1.2
