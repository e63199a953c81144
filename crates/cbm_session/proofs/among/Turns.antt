-- A drive among others follows ATN's release: who listens goes on holding DATA, who has no role lets go of it, and who talks answers.
use Rattle.cbm_session.proofs.joining.Silents.{silent_order}
use Rattle.cbm_iec.specs.declared.pace.Pace.TheVariants.{Profile, Kernal}
use Rattle.cbm_iec.specs.declared.pace.Pace.{Pace}
use Rattle.std.proofs.Common.{◌≡◌, ℕ, zero, suc, ◌+◌, ◌≤◌, Bool, true, false, List, [], ◌∷◌, map, Option, Some, None, ap, sym, ◌∙◌, subst, arith, refl, inl}
use Rattle.std.specs.Prelude.{nat_eq}
use Rattle.cbm_iec.specs.declared.machine.Act.TheVariants.{Released, Silent}
use Rattle.cbm_iec.specs.declared.ear.Ear.TheVariants.{Idle, Leaving, Holding}
use Rattle.cbm_iec.specs.declared.lines.Line.TheVariants.{Atn, Clock, Data}
use Rattle.cbm_iec.specs.declared.lines.Way.TheVariants.{Pull, Free}
use Rattle.cbm_iec.specs.declared.lines.Held.{Held}
use Rattle.cbm_iec.specs.declared.mouth.Mouth.TheVariants.{Turned, Answering}
use Rattle.cbm_iec.specs.declared.party.Party.{Party}
use Rattle.cbm_iec.specs.declared.party.Role.TheVariants.{Absent, Listener, Talker}
use Rattle.cbm_iec.specs.declared.party.Role.{Role}
use Rattle.cbm_iec.specs.declared.port.Port.{Port}
use Rattle.cbm_iec.specs.declared.port.Side.TheVariants.{Hearing, Speaking}
use Rattle.cbm_session.proofs.alone.Frames.{wires, stands}
use Rattle.cbm_session.proofs.alone.Fronts.{AllAt}
use Rattle.cbm_session.proofs.alone.Pieces.{port_is}
use Rattle.cbm_session.proofs.among.Accepts.{unmarked}
use Rattle.cbm_session.proofs.among.Around.{IsPart, Around, around_drives, weave_left, merge_drives, every_drives, is_after, with_own}
use Rattle.cbm_session.proofs.among.Calm.{Every, IsOthers, IsAside, passes, passes_all, asides_all, calm_leaving, calm_idle, calm_holding}
use Rattle.cbm_session.proofs.among.Frames.{in_hold, each_sits}
use Rattle.cbm_session.proofs.among.Points.{commanding_rest, each_seat}
use Rattle.cbm_session.proofs.among.Pulls.{in_time, never_due, not_before, for_others}
use Rattle.cbm_session.proofs.among.Standing.{IsSound, rest_afterwards, Result}
use Rattle.cbm_session.proofs.joining.Merging.{InOrder}
use Rattle.cbm_session.proofs.joining.Showing.{merge_first}
use Rattle.cbm_session.proofs.reading.OneReading.{freed_order}
use Rattle.cbm_session.proofs.reading.PieceReadings.{seat, turn_first}
use Rattle.cbm_session.specs.Among.{Rest, some, wires_of, FollowsAmong, tells, reacts}
use Rattle.cbm_session.specs.Buses.{rest_at, SaysAs, SideAmong, OwnAt, StandsAmong}
use Rattle.cbm_session.specs.Joins.{NotBefore}
use Rattle.cbm_session.specs.Pieces.{silent_part, Whole, BusPlace, Point, freed_steps, host_part, let_go, own_part, steps_of, Fits, ToListener, ToNobody, ToTalker, Nothing, Commanding, Full}
use Rattle.cbm_session.specs.Seats.{lines, Seat, device, reaction, is_talker, talker_of}
use Rattle.cbm_session.specs.Steps.{Step, host, drive, for_each, moment_of, merge, merge_all}

-- the law for one drive
abbrev pub SeatLaw : Whole → Seat → Type 0
SeatLaw w s = (p : Point) (q : Port) (peek : Option (ℕ × Bool)) → IsSound p s → StandsAmong p s q → Fits p w → SaysAs s.role (Full w) peek → Result p s w q peek

pub with_role : (w : Whole) (s : Seat) (r : Role) → s.role ≡ r → SeatLaw w (seat s.party r s.own) → SeatLaw w s
with_role w s r e f = subst (λ (x : Role). SeatLaw w (seat s.party x s.own)) (sym e) f

-- in attention each drive is in hold
pub commanding_port : (p : Point) (s : Seat) (q : Port) (some : Bool) (n : ℕ) → IsSound p s → StandsAmong p s q → p.place ≡ Commanding some → rest_at (device s) p ≡ in_hold true n
    → q ≡ stands s.party s.role (lines false true) (wires_of (in_hold true n)) (Hearing Holding)
commanding_port p s q some n h t e r =
    let own : OwnAt (Commanding some) s.role s.own = subst (λ (x : BusPlace). OwnAt x s.role s.own) e (each_sits (λ x. OwnAt p.place x.role x.own) (device s) p.seats s h.own h.seated.sits) in
    let side : SideAmong (Commanding some) s.role q.side = subst (λ (x : BusPlace). SideAmong x s.role q.side) e t.side in
    port_is q s.party s.role (lines false true) (wires_of (in_hold true n)) (Hearing Holding) t.party t.role (t.own ∙ own) (t.others ∙ ap (λ (x : Rest). wires_of x) r) side

-- a part by roles
by_role : (P : Step → Type 0) (r : Role) (a b : List Step) → Every P a → Every P b → Every P (elim r as (λ q. List Step) [ Absent ↦ a | Listener ↦ [] | Talker ↦ b ])
by_role P Absent a b x y = x
by_role P Listener a b x y = tt
by_role P Talker a b x y = y

part_by_role : (F B : Step → Type 0) (r : Role) (a b : List Step) → IsPart F B a → IsPart F B b → IsPart F B (elim r as (λ q. List Step) [ Absent ↦ a | Listener ↦ [] | Talker ↦ b ])
part_by_role F B Absent a b x y = x
part_by_role F B Listener a b x y = record { order = tt; first = tt; afterwards = tt; drives = tt }
part_by_role F B Talker a b x y = y

-- where nobody else talks
pub part_untalked : (F B : Step → Type 0) (r : Role) (a b : List Step) → is_talker r ≡ false → IsPart F B a → IsPart F B (elim r as (λ q. List Step) [ Absent ↦ a | Listener ↦ [] | Talker ↦ b ])
part_untalked F B Absent a b e x = x
part_untalked F B Listener a b e x = record { order = tt; first = tt; afterwards = tt; drives = tt }
part_untalked F B Talker a b e x = absurd cc

-- what a drive without a role does
let_go_part : (d at : ℕ) (x : Seat) → nat_eq d (device x) ≡ false → IsPart (IsOthers d) (IsOthers d) (let_go at x)
let_go_part d at x h = record { order = (tt, tt); first = (record { who = h; counts = refl; line = refl }, tt); afterwards = (record { who = h; counts = refl; line = refl }, tt); drives = (tt, tt) }

pub from_role : (m : ℕ) (r : Role) (a b : List Step) → Every (λ s. m ≤ moment_of s) a → Every (λ s. m ≤ moment_of s) b → Every (λ s. m ≤ moment_of s) (elim r as (λ q. List Step) [ Absent ↦ a | Listener ↦ [] | Talker ↦ b ])
from_role m r a b x y = by_role (λ s. m ≤ moment_of s) r a b x y

pub late_drives : (m : ℕ) (own : Seat → List Step) (seats : List Seat) → ((x : Seat) → Every (λ s. m ≤ moment_of s) (own x)) → NotBefore m (merge_all [] (map own seats))
late_drives m own seats f = not_before m (merge_all [] (map own seats)) (every_drives (λ s. m ≤ moment_of s) own seats (each_seat (λ x. Every (λ s. m ≤ moment_of s) (own x)) seats f))

-- A drive without a role lets go of DATA, whatever the others do.
leaves : (peek : Option (ℕ × Bool)) (b : Party) (t : ℕ) (r : Rest) (ss : List Step) → Around t (IsOthers b.device) (IsOthers b.device) (drive b.device t Data Free ∷ []) ss
    → (r2 : Rest) × FollowsAmong peek r (stands b Absent (lines false true) (wires_of r) (Hearing (Leaving t))) ss r2 (stands b Absent (lines false false) (wires_of r2) (Hearing Idle))
leaves peek b t r ss a =
    let d = b.device in
    let r1 = rest_afterwards d r a.front in
    let r2 = rest_afterwards d r1 a.back in
    let q2 = stands b Absent (lines false false) (wires_of r2) (Hearing Idle) in
    let afterwards = passes_all peek b Absent (lines false false) (Hearing Idle) calm_idle r1 a.back a.afterwards (never_due (Hearing Idle) a.back refl) in
    let own : FollowsAmong peek r1 (stands b Absent (lines false true) (wires_of r1) (Hearing (Leaving t))) (drive d t Data Free ∷ a.back) r2 q2 = reacts t a.back refl refl tt (is_after t a.back a.late) afterwards in
    let all = passes peek b Absent (lines false true) (Hearing (Leaving t)) (calm_leaving t) r r2 q2 a.front (drive d t Data Free ∷ a.back) a.first (in_time (Hearing (Leaving t)) t a.front refl a.upto) own in
    (r2, subst (λ (zs : List Step). FollowsAmong peek r (stands b Absent (lines false true) (wires_of r) (Hearing (Leaving t))) zs r2 q2) (sym a.is) all)

-- the drives' parts of a piece together
abbrev pub drives_of : Point → Whole → List Step
drives_of p w = merge_all [] (map (λ x. own_part p w x) p.seats)

-- a release found in hold
pub released : (peek : Option (ℕ × Bool)) (p : Point) (s : Seat) (w : Whole) (q q2 : Port) (n : ℕ) (r2 : Rest) (ss : List Step) → IsSound p s → StandsAmong p s q → p.place ≡ Commanding true → rest_at (device s) p ≡ in_hold true n → steps_of p w ≡ ss
    → FollowsAmong peek (in_hold true n) (stands s.party s.role (lines false true) (wires_of (in_hold true n)) (Hearing Holding)) ss r2 q2 → FollowsAmong peek (rest_at (device s) p) q (steps_of p w) r2 q2
released peek p s w q q2 n r2 ss h t e r k f =
    subst (λ (x : Rest). FollowsAmong peek x q (steps_of p w) r2 q2) (sym r)
    (subst (λ (x : Port). FollowsAmong peek (in_hold true n) x (steps_of p w) r2 q2) (sym (commanding_port p s q true n h t e r))
    (subst (λ (zs : List Step). FollowsAmong peek (in_hold true n) (stands s.party s.role (lines false true) (wires_of (in_hold true n)) (Hearing Holding)) zs r2 q2) (sym k) f))

-- to a listener
pub listener_steps : (p : Point) (at : ℕ) → steps_of p (ToListener at) ≡ for_each Released (host at Atn Free) ∷ drives_of p (ToListener at)
listener_steps p at =
    merge_drives (λ x. own_part p (ToListener at) x) (for_each Released (host at Atn Free) ∷ []) p.seats
    ∙ merge_first (for_each Released (host at Atn Free)) [] (drives_of p (ToListener at)) (late_drives at (λ x. own_part p (ToListener at) x) p.seats (λ (x : Seat). from_role at x.role (let_go at x) [] (omega arith, tt) tt))

pub no_part : (F B : Step → Type 0) → IsPart F B []
no_part F B = record { order = tt; first = tt; afterwards = tt; drives = tt }

pub listener_law : (b : Party) (o : Held) (at : ℕ) → SeatLaw (ToListener at) (seat b Listener o)
listener_law b o at p q peek sound st f y =
    let s = seat b Listener o in
    let d = b.device in
    let w = ToListener at in
    let k = commanding_rest p s true sound f.commanding in
    let r1 : Rest = record { host = wires false true false; clocks = zero; datas = k.0 } in
    let aside = every_drives (IsAside d true) (λ x. own_part p w x) p.seats (with_own (λ x. Every (IsAside d true) (own_part p w x)) d p.seats s sound.seated.sits
    (for_others d (λ x. Every (IsAside d true) (own_part p w x)) p.seats (λ (x : Seat) (h : nat_eq d (device x) ≡ false). by_role (IsAside d true) x.role (let_go at x) [] (record { who = h; counts = refl; line = tt }, tt) tt)) tt) in
    let r2 = rest_afterwards d r1 (drives_of p w) in
    let q2 = stands b Listener (lines false true) (wires_of r2) (Hearing Holding) in
    let more = asides_all peek b Listener (lines false true) (Hearing Holding) calm_holding true r1 (drives_of p w) refl aside (never_due (Hearing Holding) (drives_of p w) refl) in
    record {
      rest = r2;
      port = q2;
      follows = released peek p s w q q2 k.0 r2 (for_each Released (host at Atn Free) ∷ drives_of p w) sound st f.commanding k.2 (listener_steps p at) (tells tt refl more);
      role = refl;
      own = refl;
      side = refl;
    }

pub absent_law : (b : Party) (o : Held) (at : ℕ) → SeatLaw (ToListener at) (seat b Absent o)
absent_law b o at p q peek sound st f y =
    let s = seat b Absent o in
    let d = b.device in
    let w = ToListener at in
    let k = commanding_rest p s true sound f.commanding in
    let r1 : Rest = record { host = wires false true false; clocks = zero; datas = k.0 } in
    let parts = for_others d (λ x. IsPart (IsOthers d) (IsOthers d) (own_part p w x)) p.seats (λ (x : Seat) (h : nat_eq d (device x) ≡ false). part_by_role (IsOthers d) (IsOthers d) x.role (let_go at x) [] (let_go_part d at x h) (no_part (IsOthers d) (IsOthers d))) in
    let a = around_drives (at + b.reaction) (IsOthers d) (IsOthers d) d (λ x. own_part p w x) p.seats s parts sound.seated.sits (refl, tt) in
    let all = leaves peek b (at + b.reaction) r1 (drives_of p w) a in
    let q2 = stands b Absent (lines false false) (wires_of all.0) (Hearing Idle) in
    record {
      rest = all.0;
      port = q2;
      follows = released peek p s w q q2 k.0 all.0 (for_each Released (host at Atn Free) ∷ drives_of p w) sound st f.commanding k.2 (listener_steps p at) (tells tt refl all.1);
      role = refl;
      own = refl;
      side = refl;
    }

-- to nobody
pub nobody_law : (b : Party) (o : Held) (at clock : ℕ) → SeatLaw (ToNobody at clock) (seat b Absent o)
nobody_law b o at clock p q peek sound st f y =
    let s = seat b Absent o in
    let d = b.device in
    let w = ToNobody at clock in
    let k = commanding_rest p s true sound f.0.commanding in
    let r1 : Rest = record { host = wires false true false; clocks = zero; datas = k.0 } in
    let free : Step = host clock Clock Free in
    let free_other : IsOthers d free = record { who = tt; counts = refl; line = refl } in
    let parts = for_others d (λ x. IsPart (IsOthers d) (IsOthers d) (own_part p w x)) p.seats (λ (x : Seat) (h : nat_eq d (device x) ≡ false). let_go_part d at x h) in
    let a = around_drives (at + b.reaction) (IsOthers d) (IsOthers d) d (λ x. own_part p w x) p.seats s parts sound.seated.sits (refl, tt) in
    let a2 = weave_left (at + b.reaction) (IsOthers d) (IsOthers d) (let_go at s) (refl, tt) (free ∷ []) (drives_of p w) (tt, tt) (free_other, tt) (free_other, tt) a in
    let late = late_drives at (λ x. own_part p w x) p.seats (λ (x : Seat). (omega arith, tt)) in
    let steps : steps_of p w ≡ for_each Released (host at Atn Free) ∷ merge (free ∷ []) (drives_of p w) =
    merge_drives (λ x. own_part p w x) (for_each Released (host at Atn Free) ∷ free ∷ []) p.seats ∙ merge_first (for_each Released (host at Atn Free)) (free ∷ []) (drives_of p w) late in
    let all = leaves peek b (at + b.reaction) r1 (merge (free ∷ []) (drives_of p w)) a2 in
    let q2 = stands b Absent (lines false false) (wires_of all.0) (Hearing Idle) in
    record {
      rest = all.0;
      port = q2;
      follows = released peek p s w q q2 k.0 all.0 (for_each Released (host at Atn Free) ∷ merge (free ∷ []) (drives_of p w)) sound st f.0.commanding k.2 steps (tells tt refl all.1);
      role = refl;
      own = refl;
      side = inl refl;
    }

-- the turnaround: the host pulls DATA and frees ATN
abbrev pub turned_rest : ℕ → Rest
turned_rest n = record { host = wires false true true; clocks = zero; datas = n }

leaving_turn : (peek : Option (ℕ × Bool)) (b : Party) (at n : ℕ) (ss : List Step) (r2 : Rest) (q2 : Port) → FollowsAmong peek (turned_rest n) (stands b Absent (lines false true) (wires_of (turned_rest n)) (Hearing (Leaving (at + b.reaction)))) ss r2 q2
    → FollowsAmong peek (in_hold true n) (stands b Absent (lines false true) (wires_of (in_hold true n)) (Hearing Holding)) (host at Data Pull ∷ for_each Released (host at Atn Free) ∷ ss) r2 q2
leaving_turn peek b at zero ss r2 q2 f = tells tt refl (tells tt refl f)
leaving_turn peek b at (suc n) ss r2 q2 f = tells tt refl (tells tt refl f)

pub talking_turn : (peek : Option (ℕ × Bool)) (b : Party) (at n : ℕ) (ss : List Step) (r2 : Rest) (q2 : Port) → FollowsAmong peek (turned_rest n) (stands b Talker (lines false true) (wires_of (turned_rest n)) (Speaking Turned)) ss r2 q2
    → FollowsAmong peek (in_hold true n) (stands b Talker (lines false true) (wires_of (in_hold true n)) (Hearing Holding)) (host at Data Pull ∷ for_each Released (host at Atn Free) ∷ ss) r2 q2
talking_turn peek b at zero ss r2 q2 f = tells tt refl (tells tt refl f)
talking_turn peek b at (suc n) ss r2 q2 f = tells tt refl (tells tt refl f)

-- CLOCK is freed then
abbrev pub answering_rest : ℕ → Rest
answering_rest n = record { host = wires false false true; clocks = zero; datas = n }

pub answering_turn : (peek : Option (ℕ × Bool)) (b : Party) (clock n : ℕ) (ss : List Step) (r2 : Rest) (q2 : Port) → FollowsAmong peek (answering_rest n) (stands b Talker (lines false true) (wires_of (answering_rest n)) (Speaking (Answering (clock + b.reaction)))) ss r2 q2
    → FollowsAmong peek (turned_rest n) (stands b Talker (lines false true) (wires_of (turned_rest n)) (Speaking Turned)) (host clock Clock Free ∷ ss) r2 q2
answering_turn peek b clock zero ss r2 q2 f = tells tt refl f
answering_turn peek b clock (suc n) ss r2 q2 f = tells tt refl f

-- a drive without a role, whose part is the same in both
module _ (p : Point) (b : Party) (o : Held) (w : Whole) (at : ℕ) (xs : List Step) where
  turn_absent : (answer : Seat → List Step) → ((d : ℕ) (x : Seat) → nat_eq d (device x) ≡ false → IsPart (IsOthers d) (IsOthers d) (answer x)) → ((x : Seat) → Every (λ s. at ≤ moment_of s) (answer x))
      → ((x : Seat) → own_part p w x ≡ (elim x.role as (λ r. List Step) [ Absent ↦ let_go at x | Listener ↦ [] | Talker ↦ answer x ])) → host_part p w ≡ host at Data Pull ∷ for_each Released (host at Atn Free) ∷ xs
      → InOrder xs → Every (IsOthers b.device) xs → (q : Port) (peek : Option (ℕ × Bool)) → IsSound p (seat b Absent o) → StandsAmong p (seat b Absent o) q → p.place ≡ Commanding true
      → (r2 : Rest) × FollowsAmong peek (rest_at b.device p) q (steps_of p w) r2 (stands b Absent (lines false false) (wires_of r2) (Hearing Idle))
  turn_absent answer part late same hosts order others q peek sound st c =
      let s = seat b Absent o in
      let d = b.device in
      let t = at + b.reaction in
      let k = commanding_rest p s true sound c in
      let parts = for_others d (λ x. IsPart (IsOthers d) (IsOthers d) (own_part p w x)) p.seats (λ (x : Seat) (h : nat_eq d (device x) ≡ false).
      subst (IsPart (IsOthers d) (IsOthers d)) (sym (same x)) (part_by_role (IsOthers d) (IsOthers d) x.role (let_go at x) (answer x) (let_go_part d at x h) (part d x h))) in
      let mine : AllAt t (own_part p w s) = subst (AllAt t) (sym (same s)) (refl, tt) in
      let a = around_drives t (IsOthers d) (IsOthers d) d (λ x. own_part p w x) p.seats s parts sound.seated.sits mine in
      let a2 = weave_left t (IsOthers d) (IsOthers d) (own_part p w s) mine xs (drives_of p w) order others others a in
      let a3 : Around t (IsOthers d) (IsOthers d) (drive d t Data Free ∷ []) (merge xs (drives_of p w)) = subst (λ (zs : List Step). Around t (IsOthers d) (IsOthers d) zs (merge xs (drives_of p w))) (same s) a2 in
      let after = late_drives at (λ x. own_part p w x) p.seats (λ (x : Seat). subst (Every (λ s. at ≤ moment_of s)) (sym (same x)) (from_role at x.role (let_go at x) (answer x) (omega arith, tt) (late x))) in
      let steps : steps_of p w ≡ host at Data Pull ∷ for_each Released (host at Atn Free) ∷ merge xs (drives_of p w) =
      merge_drives (λ x. own_part p w x) (host_part p w) p.seats ∙ ap (λ (zs : List Step). merge zs (drives_of p w)) hosts ∙ turn_first at xs (drives_of p w) after in
      let all = leaves peek b t (turned_rest k.0) (merge xs (drives_of p w)) a3 in
      let q2 = stands b Absent (lines false false) (wires_of all.0) (Hearing Idle) in (
        all.0,
        released peek p s w q q2 k.0 all.0 (host at Data Pull ∷ for_each Released (host at Atn Free) ∷ merge xs (drives_of p w)) sound st c k.2 steps
            (leaving_turn peek b at k.0 (merge xs (drives_of p w)) all.0 q2 all.1),
      )

answer_part : (d t : ℕ) (x : Seat) → nat_eq d (device x) ≡ false → IsPart (IsOthers d) (IsOthers d) (drive (device x) t Clock Pull ∷ drive (device x) t Data Free ∷ [])
answer_part d t x h = record {
  order = ((omega arith, tt), (tt, tt));
  first = (record { who = h; counts = refl; line = refl }, (record { who = h; counts = refl; line = refl }, tt));
  afterwards = (record { who = h; counts = refl; line = refl }, (record { who = h; counts = refl; line = refl }, tt));
  drives = (tt, (tt, tt));
}

silence_part : (d t : ℕ) (x : Seat) → nat_eq d (device x) ≡ false → IsPart (IsOthers d) (IsOthers d) (silent_part x.party.pace (device x) t)
silence_part d t x h = go x.party.pace
  where
    go : (e : Pace) → IsPart (IsOthers d) (IsOthers d) (silent_part e (device x) t)
    go Profile = record { order = (tt, tt); first = (record { who = h; counts = unmarked d (device x) Silent h; line = refl }, tt); afterwards = (record { who = h; counts = unmarked d (device x) Silent h; line = refl }, tt); drives = (tt, tt) }
    go Kernal = record {
      order = silent_order Kernal (device x) t;
      first = (record { who = h; counts = refl; line = refl }, (record { who = h; counts = refl; line = refl }, (record { who = h; counts = unmarked d (device x) Silent h; line = refl }, tt)));
      afterwards = (record { who = h; counts = refl; line = refl }, (record { who = h; counts = refl; line = refl }, (record { who = h; counts = unmarked d (device x) Silent h; line = refl }, tt)));
      drives = (tt, (tt, (tt, tt)));
    }

pub silent_sooner : (e : Pace) (d m t : ℕ) → m ≤ t → Every (λ s. m ≤ moment_of s) (silent_part e d t)
silent_sooner Profile d m t h = (h, tt)
silent_sooner Kernal d m t h = (h, (omega (arith, h), (omega (arith, h), tt)))

pub absent_turn_law : (b : Party) (o : Held) (at clock : ℕ) → SeatLaw (ToTalker at clock) (seat b Absent o)
absent_turn_law b o at clock p q peek sound st f y =
    let late = f.1 in
    let all = turn_absent p b o (ToTalker at clock) at (host clock Clock Free ∷ []) (λ x. drive (device x) (clock + reaction x) Clock Pull ∷ drive (device x) (clock + reaction x) Data Free ∷ [])
    (λ (d : ℕ) (x : Seat) (h : nat_eq d (device x) ≡ false). answer_part d (clock + reaction x) x h) (λ (x : Seat). (omega (arith, late), (omega (arith, late), tt))) (λ (x : Seat). refl) refl (tt, tt) (record { who = tt; counts = refl; line = refl }, tt) q peek sound st f.0.commanding in
    record { rest = all.0; port = stands b Absent (lines false false) (wires_of all.0) (Hearing Idle); follows = all.1; role = refl; own = refl; side = refl }

pub freed_others : (d : ℕ) (freed : Option ℕ) → Every (IsOthers d) (freed_steps freed)
freed_others d None = tt
freed_others d (Some g) = (record { who = tt; counts = refl; line = refl }, tt)

pub absent_nothing_law : (b : Party) (o : Held) (at clock : ℕ) (freed : Option ℕ) → SeatLaw (Nothing at clock freed) (seat b Absent o)
absent_nothing_law b o at clock freed p q peek sound st f y =
    let late = f.1 in
    let all = turn_absent p b o (Nothing at clock freed) at (host clock Clock Free ∷ freed_steps freed) (λ x. silent_part x.party.pace (device x) (clock + reaction x))
    (λ (d : ℕ) (x : Seat) (h : nat_eq d (device x) ≡ false). silence_part d (clock + reaction x) x h) (λ (x : Seat). silent_sooner x.party.pace (device x) at (clock + reaction x) (omega (arith, late))) (λ (x : Seat). refl) refl
    (freed_order clock (talker_of p.seats) freed f.2) (record { who = tt; counts = refl; line = refl }, freed_others b.device freed) q peek sound st f.0.commanding in
    record { rest = all.0; port = stands b Absent (lines false false) (wires_of all.0) (Hearing Idle); follows = all.1; role = refl; own = refl; side = inl refl }
