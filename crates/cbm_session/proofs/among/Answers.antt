-- A drive among others that is to talk: it answers ATN's release, with a byte to say.
use Rattle.cbm_iec.specs.declared.pace.Pace.TheVariants.{Profile, Kernal}
use Rattle.cbm_iec.specs.declared.pace.Pace.{Pace}
use Rattle.std.proofs.Common.{◌≡◌, ℕ, zero, ◌+◌, ◌≤◌, inl, inr, Bool, true, false, List, [], ◌∷◌, ◌++◌, Option, Some, ap, sym, ◌∙◌, subst, arith, refl, append_assoc, append-nil}
use Rattle.std.proofs.lemmas.Bool.Decides.{leb_tells}
use Rattle.std.specs.Prelude.{if◌then◌else◌, nat_eq}
use Rattle.cbm_iec.specs.declared.machine.Act.TheVariants.{Released}
use Rattle.cbm_iec.specs.declared.event.Who.TheVariants.{Host, Drive}
use Rattle.cbm_iec.specs.declared.event.Who.{Who}
use Rattle.cbm_iec.specs.declared.lines.Line.TheVariants.{Atn, Clock, Data}
use Rattle.cbm_iec.specs.declared.lines.Line.{Line}
use Rattle.cbm_iec.specs.declared.lines.Way.TheVariants.{Pull, Free}
use Rattle.cbm_iec.specs.declared.lines.Way.{Way}
use Rattle.cbm_iec.specs.declared.lines.Held.{Held}
use Rattle.cbm_iec.specs.declared.lines.Lines.{Lines}
use Rattle.cbm_iec.specs.declared.mouth.Mouth.TheVariants.{Turned, Answering, Led}
use Rattle.cbm_iec.specs.declared.party.Party.{Party}
use Rattle.cbm_iec.specs.declared.party.Role.TheVariants.{Absent, Listener, Talker}
use Rattle.cbm_iec.specs.declared.port.Port.{Port}
use Rattle.cbm_iec.specs.declared.port.Side.TheVariants.{Speaking}
use Rattle.cbm_session.proofs.alone.Frames.{wires, stands}
use Rattle.cbm_session.proofs.alone.Fronts.{AllAt}
use Rattle.cbm_session.proofs.among.Around.{ForOthers, IsPart, IsLateBy, own_late, Around, around_drives, weave_late, merge_drives, every, is_after}
use Rattle.cbm_session.proofs.among.Calm.{Every, IsOthers, ByAnother, KeepsClock, IsAside, InTime, passes_all, asides, aside_host, calm_turned, calm_answering, calm_led}
use Rattle.cbm_session.proofs.among.Points.{commanding_rest, only_talker}
use Rattle.cbm_session.proofs.among.Pulls.{in_time, never_due}
use Rattle.cbm_session.proofs.among.Standing.{rest_next, rest_afterwards}
use Rattle.cbm_session.proofs.among.Turns.{SeatLaw, drives_of, turned_rest, answering_rest, released, talking_turn, answering_turn, late_drives, from_role, part_untalked}
use Rattle.cbm_session.proofs.joining.Merging.{merge_here, merge_there, NoneBefore}
use Rattle.cbm_session.proofs.joining.OneDrive.{AllUpTo}
use Rattle.cbm_session.proofs.joining.Showing.{merge_first}
use Rattle.cbm_session.proofs.joining.Talkers.{talker_is}
use Rattle.cbm_session.proofs.reading.PieceReadings.{seat, turn_first}
use Rattle.cbm_session.specs.Among.{Rest, wires_of, after_another, FollowsAmong, reacts}
use Rattle.cbm_session.specs.Buses.{rest_at}
use Rattle.cbm_session.specs.Joins.{NotBefore}
use Rattle.cbm_session.specs.Laws.{SeatsReact}
use Rattle.cbm_session.specs.Pieces.{host_part, let_go, own_part, steps_of, ToTalker}
use Rattle.cbm_session.specs.Seats.{at_pace, lines, Seat, device, reaction, is_talker, talker_of}
use Rattle.cbm_session.specs.Steps.{Step, host, drive, for_each, moment_of, merge}

-- a host's step that comes into a front: what of the front is before it, and what after it
insert_host : (x : Step) (xs front rest : List Step) → NotBefore (moment_of x) rest → (a : List Step) × ((c : List Step) × ((front ≡ a ++ c) × (merge (x ∷ xs) (front ++ rest) ≡ a ++ x ∷ merge xs (c ++ rest))))
insert_host x xs [] rest n = ([], ([], (refl, merge_first x xs rest n)))
insert_host x xs (y ∷ front) rest n = elim (leb_tells (moment_of x) (moment_of y)) [
  | inl h ↦ ([], (y ∷ front, (refl, merge_here x xs y (front ++ rest) h.1)))
  | inr h ↦ (
      let k = insert_host x xs front rest n in
      (y ∷ k.0, (k.1.0, (ap (λ (zs : List Step). y ∷ zs) k.1.1.0, merge_there x xs y (front ++ rest) h.1 ∙ ap (λ (zs : List Step). y ∷ zs) k.1.1.1)))
      )
]

pub every_left : (P : Step → Type 0) (xs ys : List Step) → Every P (xs ++ ys) → Every P xs
every_left P [] ys a = tt
every_left P (x ∷ xs) ys a = (a.0, every_left P xs ys a.1)

pub every_right : (P : Step → Type 0) (xs ys : List Step) → Every P (xs ++ ys) → Every P ys
every_right P [] ys a = a
every_right P (x ∷ xs) ys a = every_right P xs ys a.1

upto_right : (t : ℕ) (xs ys : List Step) → AllUpTo t (xs ++ ys) → AllUpTo t ys
upto_right t [] ys a = a
upto_right t (x ∷ xs) ys a = upto_right t xs ys a.1

-- where only DATA changes, CLOCK's holders stay
data_keeps : (held : Bool) (line : Line) → KeepsClock false line → KeepsClock held line
data_keeps held Atn h = elim h [ ]
data_keeps held Clock h = elim h [ ]
data_keeps held Data h = tt

aside_keeps : (d : ℕ) (held : Bool) (s : Step) → IsAside d false s → IsAside d held s
aside_keeps d held s h = record { who = h.who; counts = h.counts; line = data_keeps held s.event.change.line h.line }

other_clocks : (line : Line) (way : Way) (r : Rest) → KeepsClock false line → (after_another line way r).clocks ≡ r.clocks
other_clocks Atn way r h = elim h [ ]
other_clocks Clock way r h = elim h [ ]
other_clocks Data way r h = refl

next_clocks : (d : ℕ) (who : Who) (line : Line) (way : Way) (r : Rest) → ByAnother d who → KeepsClock false line → (rest_next d who line way r).clocks ≡ r.clocks
next_clocks d Host line way r w h = elim w [ ]
next_clocks d (Drive o) line way r w h = ap (λ (v : Bool). (if v then r else after_another line way r).clocks) w ∙ other_clocks line way r h

aside_clocks : (d : ℕ) (r : Rest) (ss : List Step) → Every (IsAside d false) ss → (rest_afterwards d r ss).clocks ≡ r.clocks
aside_clocks d r [] a = refl
aside_clocks d r (s ∷ ss) a =
    aside_clocks d (rest_next d s.event.who s.event.change.line s.event.change.way r) ss a.1 ∙ next_clocks d s.event.who s.event.change.line s.event.change.way r a.0.who a.0.line

-- so after others' changes of DATA the rest is known but for how many hold DATA
rest_known : (d : ℕ) (l : Lines) (r : Rest) (ss : List Step) → r.host ≡ l → r.clocks ≡ zero → Every (IsAside d false) ss → rest_afterwards d r ss ≡ record { host = l; clocks = zero; datas = (rest_afterwards d r ss).datas }
rest_known d l r ss e c a =
    let r2 = rest_afterwards d r ss in
    ap (λ (x : Lines). (record { host = x; clocks = r2.clocks; datas = r2.datas })) (aside_host d false r ss a ∙ e) ∙ ap (λ (n : ℕ). (record { host = l; clocks = n; datas = r2.datas })) (aside_clocks d r ss a ∙ c)

-- the talker's way through a turnaround, up to its answer
module _ (peek : Option (ℕ × Bool)) (b : Party) (clock n : ℕ) (B : Step → Type 0) (mine freed ds : List Step) (End : Port → Rest → Type 0) where
  abbrev due : ℕ
  due = clock + b.reaction

  abbrev answers : Rest → Port
  answers r = stands b Talker (lines false true) (wires_of r) (Speaking (Answering due))

  -- from the answer on; tail comes after all of it
  pub answer_goes : (tail : List Step) → AllAt due mine → NoneBefore (due + 1) freed → Every B freed → Around due (IsAside b.device false) B mine ds
      → ((r : Rest) (back : List Step) → Every B back → Every (IsLateBy due) back → (r2 : Rest) × ((q2 : Port) × (FollowsAmong peek r (answers r) (mine ++ (back ++ tail)) r2 q2 × End q2 r2)))
      → (r2 : Rest) × ((q2 : Port) × (FollowsAmong peek (turned_rest n) (stands b Talker (lines false true) (wires_of (turned_rest n)) (Speaking Turned)) (merge (host clock Clock Free ∷ freed) ds ++ tail) r2 q2 × End q2 r2))
  answer_goes tail m l fb a more =
      let d = b.device in
      let free = host clock Clock Free in
      let rest = mine ++ a.back in
      let i = insert_host free freed a.front rest (own_late due mine a.back clock (omega arith) m a.late) in
      let first : Every (IsAside d false) (i.0 ++ i.1.0) = subst (Every (IsAside d false)) i.1.1.0 a.first in
      let upto : AllUpTo due (i.0 ++ i.1.0) = subst (AllUpTo due) i.1.1.0 a.upto in
      let there : Around due (IsAside d false) B mine (i.1.0 ++ rest) = record { front = i.1.0; back = a.back; is = refl; first = every_right (IsAside d false) i.0 i.1.0 first; upto = upto_right due i.0 i.1.0 upto; afterwards = a.afterwards; late = a.late } in
      let c = weave_late due (IsAside d false) B mine m freed (i.1.0 ++ rest) l fb there in
      let r1 = rest_afterwards d (turned_rest n) i.0 in
      let left = every_left (IsAside d false) i.0 i.1.0 first in
      let known = rest_known d (wires false true true) (turned_rest n) i.0 refl refl left in
      let r3 = answering_rest r1.datas in
      let r4 = rest_afterwards d r3 c.front in
      let all = more r4 c.back c.afterwards c.late in
      let later = merge freed (i.1.0 ++ rest) ++ tail in
      let answer = asides peek b Talker (lines false true) (Speaking (Answering due)) (calm_answering due) false r3 all.0 all.1.0 c.front (mine ++ (c.back ++ tail)) refl c.first (in_time (Speaking (Answering due)) due c.front refl c.upto) all.1.1.0 in
      let is : later ≡ c.front ++ (mine ++ (c.back ++ tail)) = ap (λ (zs : List Step). zs ++ tail) c.is ∙ append_assoc c.front (mine ++ c.back) tail ∙ ap (λ (zs : List Step). c.front ++ zs) (append_assoc mine c.back tail) in
      let here = subst (λ (zs : List Step). FollowsAmong peek r3 (answers r3) zs all.0 all.1.0) {x = c.front ++ (mine ++ (c.back ++ tail))} (sym {b = c.front ++ (mine ++ (c.back ++ tail))} is) answer in
      let turn = answering_turn peek b clock r1.datas later all.0 all.1.0 here in
      let from = subst (λ (r : Rest). FollowsAmong peek r (stands b Talker (lines false true) (wires_of r) (Speaking Turned)) (free ∷ later) all.0 all.1.0) (sym known) turn in
      let whole = asides peek b Talker (lines false true) (Speaking Turned) calm_turned true (turned_rest n) all.0 all.1.0 i.0 (free ∷ later) refl (every (IsAside d false) (IsAside d true) i.0 (aside_keeps d true) left) (never_due (Speaking Turned) i.0 refl) from in
      let steps : merge (free ∷ freed) ds ++ tail ≡ i.0 ++ free ∷ later =
      ap (λ (zs : List Step). zs ++ tail) (ap (λ (zs : List Step). merge (free ∷ freed) zs) a.is ∙ i.1.1.1) ∙ append_assoc i.0 (free ∷ merge freed (i.1.0 ++ rest)) tail in
      (all.0, (all.1.0, (subst (λ (zs : List Step). FollowsAmong peek (turned_rest n) (stands b Talker (lines false true) (wires_of (turned_rest n)) (Speaking Turned)) zs all.0 all.1.0) (sym steps) whole, all.1.1.1)))

  -- where nothing comes after
  pub answer_follows : AllAt due mine → NoneBefore (due + 1) freed → Every B freed → Around due (IsAside b.device false) B mine ds
      → ((r : Rest) (back : List Step) → Every B back → Every (IsLateBy due) back → (r2 : Rest) × ((q2 : Port) × (FollowsAmong peek r (answers r) (mine ++ back) r2 q2 × End q2 r2)))
      → (r2 : Rest) × ((q2 : Port) × (FollowsAmong peek (turned_rest n) (stands b Talker (lines false true) (wires_of (turned_rest n)) (Speaking Turned)) (merge (host clock Clock Free ∷ freed) ds) r2 q2 × End q2 r2))
  answer_follows m l fb a more =
      let all = answer_goes [] m l fb a (λ (r : Rest) (back : List Step) e late. subst (λ (zs : List Step). (r2 : Rest) × ((q2 : Port) × (FollowsAmong peek r (answers r) (mine ++ zs) r2 q2 × End q2 r2))) (sym (append-nil back)) (more r back e late)) in
      let steps = merge (host clock Clock Free ∷ freed) ds in
      (all.0, (all.1.0, (subst (λ (zs : List Step). FollowsAmong peek (turned_rest n) (stands b Talker (lines false true) (wires_of (turned_rest n)) (Speaking Turned)) zs all.0 all.1.0) (append-nil steps) all.1.1.0, all.1.1.1)))

-- not later than this moment, besides
abbrev pub Short : ℕ → ℕ → Step → Type 0
Short d at s = IsOthers d s × (moment_of s ≤ at + 60)

-- the other drives only let go of DATA, within 60
pub talk_parts : (d at : ℕ) (answer : Seat → List Step) (seats : List Seat) → ForOthers d (λ x. is_talker x.role ≡ false) seats → SeatsReact seats
    → ForOthers d (λ x. IsPart (IsAside d false) (Short d at) (elim x.role as (λ r. List Step) [ Absent ↦ let_go at x | Listener ↦ [] | Talker ↦ answer x ])) seats
talk_parts d at answer [] e r = tt
talk_parts d at answer (x ∷ xs) e r = (
  λ (h : nat_eq d (device x) ≡ false). part_untalked (IsAside d false) (Short d at) x.role (let_go at x) (answer x) (e.0 h) (one h),
  talk_parts d at answer xs e.1 r.2,
)
  where
    one : nat_eq d (device x) ≡ false → IsPart (IsAside d false) (Short d at) (let_go at x)
    one h = let k = r.1 in record { order = (tt, tt); first = (record { who = h; counts = refl; line = tt }, tt); afterwards = ((record { who = h; counts = refl; line = refl }, omega (arith, k)), tt); drives = (tt, tt) }

pub short_others : (d at : ℕ) (s : Step) → Short d at s → IsOthers d s
short_others d at s h = h.0

pub short_in_time : (d at t : ℕ) (ss : List Step) → at + 60 ≤ t → Every (Short d at) ss → Every (InTime (Speaking (Led t))) ss
short_in_time d at t [] l a = tt
short_in_time d at t (s ∷ ss) l a = let k = a.0.1 in (omega (arith, k, l), short_in_time d at t ss l a.1)

-- with a byte to say it pulls CLOCK and lets go of DATA, and leads 80 later
led_follows : (b : Party) (x : ℕ × Bool) (at clock : ℕ) → at ≤ clock → (r : Rest) (back : List Step) → Every (Short b.device at) back → Every (IsLateBy (clock + b.reaction)) back
    → (r2 : Rest) × ((q2 : Port) × (FollowsAmong (Some x) r (stands b Talker (lines false true) (wires_of r) (Speaking (Answering (clock + b.reaction)))) ((drive b.device (clock + b.reaction) Clock Pull ∷ drive b.device (clock + b.reaction) Data Free ∷ []) ++ back) r2 q2
    × (q2 ≡ stands b Talker (lines true false) (wires_of r2) (Speaking (Led (clock + b.reaction + 80))))))
led_follows b x at clock l r back a late =
    let t = clock + b.reaction in
    let r2 = rest_afterwards b.device r back in
    let q2 = stands b Talker (lines true false) (wires_of r2) (Speaking (Led (t + 80))) in
    let more = passes_all (Some x) b Talker (lines true false) (Speaking (Led (t + 80))) (calm_led (t + 80)) r back (every (Short b.device at) (IsOthers b.device) back (short_others b.device at) a) (short_in_time b.device at (t + 80) back (omega (arith, l)) a) in
    (r2, (q2, (go b.pace more, refl)))
  where
    go : (v : Pace) → FollowsAmong (Some x) r (stands (at_pace v b) Talker (lines true false) (wires_of r) (Speaking (Led (clock + b.reaction + 80)))) back (rest_afterwards b.device r back) (stands (at_pace v b) Talker (lines true false) (wires_of (rest_afterwards b.device r back)) (Speaking (Led (clock + b.reaction + 80))))
        → FollowsAmong (Some x) r (stands (at_pace v b) Talker (lines false true) (wires_of r) (Speaking (Answering (clock + b.reaction)))) ((drive b.device (clock + b.reaction) Clock Pull ∷ drive b.device (clock + b.reaction) Data Free ∷ []) ++ back) (rest_afterwards b.device r back) (stands (at_pace v b) Talker (lines true false) (wires_of (rest_afterwards b.device r back)) (Speaking (Led (clock + b.reaction + 80))))
    go Profile more = reacts (clock + b.reaction) back refl refl tt (is_after (clock + b.reaction) back late) more
    go Kernal more = reacts (clock + b.reaction) back refl refl tt (is_after (clock + b.reaction) back late) more

pub talker_law : (b : Party) (o : Held) (at clock : ℕ) → SeatLaw (ToTalker at clock) (seat b Talker o)
talker_law b o at clock p q peek sound st f y =
    let s = seat b Talker o in
    let d = b.device in
    let t = clock + b.reaction in
    let w = ToTalker at clock in
    let gap = f.1 in
    let k = commanding_rest p s true sound f.0.commanding in
    let answer : Seat → List Step = λ (x : Seat). drive (device x) (clock + reaction x) Clock Pull ∷ drive (device x) (clock + reaction x) Data Free ∷ [] in
    let only = only_talker d p.seats s sound.seated.one sound.seated.sits refl in
    let a = around_drives t (IsAside d false) (Short d at) d (λ x. own_part p w x) p.seats s (talk_parts d at answer p.seats only sound.react) sound.seated.sits (refl, (refl, tt)) in
    let after = late_drives at (λ x. own_part p w x) p.seats (λ (x : Seat). from_role at x.role (let_go at x) (answer x) (omega arith, tt) (omega (arith, gap), (omega (arith, gap), tt))) in
    let steps : steps_of p w ≡ host at Data Pull ∷ for_each Released (host at Atn Free) ∷ merge (host clock Clock Free ∷ []) (drives_of p w) =
    merge_drives (λ x. own_part p w x) (host_part p w) p.seats ∙ turn_first at (host clock Clock Free ∷ []) (drives_of p w) after in
    let tail = merge (host clock Clock Free ∷ []) (drives_of p w) in
    let x = y.0 in
    let all = answer_follows (Some x) b clock k.0 (Short d at) (answer s) [] (drives_of p w) (λ q2 r2. q2 ≡ stands b Talker (lines true false) (wires_of r2) (Speaking (Led (t + 80)))) (refl, (refl, tt)) tt tt a (led_follows b x at clock (omega (arith, gap))) in
    let whole = released (Some x) p s w q all.1.0 k.0 all.0 (host at Data Pull ∷ for_each Released (host at Atn Free) ∷ tail) sound st f.0.commanding k.2 steps (talking_turn (Some x) b at k.0 tail all.0 all.1.0 all.1.1.0) in
    let same : talker_of p.seats ≡ b = talker_is d p.seats s sound.seated.one sound.seated.sits refl in
    record {
      rest = all.0;
      port = all.1.0;
      follows = subst (λ (z : Option (ℕ × Bool)). FollowsAmong z (rest_at d p) q (steps_of p w) all.0 all.1.0) (sym y.1) whole;
      role = ap (λ (z : Port). z.role) all.1.1.1;
      own = ap (λ (z : Port). z.own) all.1.1.1;
      side = ap (λ (z : Port). z.side) all.1.1.1 ∙ ap (λ (z : Party). Speaking (Led (clock + z.reaction + 80))) (sym same);
    }
