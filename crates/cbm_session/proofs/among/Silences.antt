-- A drive among others that is to talk and has nothing to say: it lets go of DATA, at a KERNAL's pace after it has held both lines for a while.
use Rattle.cbm_iec.specs.declared.pace.Pace.TheVariants.{Profile, Kernal}
use Rattle.cbm_iec.specs.declared.pace.Pace.{Pace}
use Rattle.std.proofs.Common.{◌≡◌, ℕ, ◌+◌, ◌≤◌, Bool, true, false, List, [], ◌∷◌, ◌++◌, map, Option, Some, None, ap, sym, ◌∙◌, subst, arith, refl, append-nil, inr}
use Rattle.std.specs.Prelude.{nat_eq}
use Rattle.cbm_iec.specs.Profile.{mute}
use Rattle.cbm_iec.specs.declared.machine.Act.TheVariants.{Released, Silent}
use Rattle.cbm_iec.specs.declared.lines.Line.TheVariants.{Atn, Clock, Data}
use Rattle.cbm_iec.specs.declared.lines.Way.TheVariants.{Pull, Free}
use Rattle.cbm_iec.specs.declared.lines.Held.{Held}
use Rattle.cbm_iec.specs.declared.mouth.Mouth.TheVariants.{Answering, Mute, Over}
use Rattle.cbm_iec.specs.declared.party.Party.{Party}
use Rattle.cbm_iec.specs.declared.party.Role.TheVariants.{Absent, Listener, Talker}
use Rattle.cbm_iec.specs.declared.party.Role.{Role}
use Rattle.cbm_iec.specs.declared.port.Port.{Port}
use Rattle.cbm_iec.specs.declared.port.Side.TheVariants.{Speaking}
use Rattle.cbm_session.proofs.alone.Frames.{stands}
use Rattle.cbm_session.proofs.among.Answers.{Short, answer_follows, answer_goes, talk_parts, short_others, short_in_time}
use Rattle.cbm_session.proofs.among.Around.{ForOthers, IsPart, IsLateBy, around_drives, merge_drives, every, is_after, with_own}
use Rattle.cbm_session.proofs.among.Calm.{Every, IsOthers, IsAside, passes, passes_all, calm_mute, calm_over}
use Rattle.cbm_session.proofs.among.Points.{commanding_rest, only_talker, sits_only}
use Rattle.cbm_session.proofs.among.Pulls.{never_due}
use Rattle.cbm_session.proofs.among.Standing.{rest_afterwards}
use Rattle.cbm_session.proofs.among.Turns.{SeatLaw, drives_of, released, talking_turn, late_drives, from_role, freed_others, silent_sooner}
use Rattle.cbm_session.proofs.frames.Phases.{Each, merge_split, before_all, split_all}
use Rattle.cbm_session.proofs.joining.Merging.{merge_there, NoneBefore, AllBefore}
use Rattle.cbm_session.proofs.joining.Talkers.{talker_is}
use Rattle.cbm_session.proofs.reading.PieceReadings.{seat, turn_first}
use Rattle.cbm_session.specs.Among.{Rest, wires_of, FollowsAmong, FirstIsAfter, reacts}
use Rattle.cbm_session.specs.Buses.{rest_at}
use Rattle.cbm_session.specs.Laws.{SeatsReact}
use Rattle.cbm_session.specs.Pieces.{silent_end, silent_part, FreedFits, freed_steps, host_part, let_go, own_part, steps_of, Nothing}
use Rattle.cbm_session.specs.Seats.{at_pace, lines, Seat, device, reaction, is_talker, talker_of}
use Rattle.cbm_session.specs.Steps.{Step, host, drive, for_each, for_one, merge, merge_all}

freed_none : (t : ℕ) (freed : Option ℕ) → FreedFits t freed → NoneBefore (t + 1) (freed_steps freed)
freed_none t None h = tt
freed_none t (Some g) h = (h, tt)

-- At the profile's pace it lets go of DATA alone.
module _ (clock : ℕ) (b : Party) where
  abbrev at_once : Party
  at_once = at_pace Profile b

  abbrev answered : ℕ
  answered = clock + b.reaction

  lets_go : (r : Rest) (back : List Step) → Every (IsOthers b.device) back → Every (IsLateBy answered) back
      → (r2 : Rest) × ((q2 : Port) × (FollowsAmong None r (stands at_once Talker (lines false true) (wires_of r) (Speaking (Answering answered))) ((for_one b.device Silent (drive b.device answered Data Free) ∷ []) ++ back) r2 q2
      × (q2 ≡ stands at_once Talker (lines false false) (wires_of r2) (Speaking Over))))
  lets_go r back a late =
      let r2 = rest_afterwards b.device r back in
      let q2 = stands at_once Talker (lines false false) (wires_of r2) (Speaking Over) in
      let more = passes_all None at_once Talker (lines false false) (Speaking Over) calm_over r back a (never_due (Speaking Over) back refl) in
      (r2, (q2, (reacts answered back refl refl tt (is_after answered back late) more, refl)))

part_others : (d at : ℕ) (seats : List Seat) (own : Seat → List Step) → ForOthers d (λ x. IsPart (IsAside d false) (Short d at) (own x)) seats → ForOthers d (λ x. IsPart (IsAside d false) (IsOthers d) (own x)) seats
part_others d at [] own e = tt
part_others d at (x ∷ xs) own e = (
  λ (h : nat_eq d (device x) ≡ false). let k = e.0 h in record { order = k.order; first = k.first; afterwards = every (Short d at) (IsOthers d) (own x) (short_others d at) k.afterwards; drives = k.drives },
  part_others d at xs own e.1,
)

at_once_law : (v : Party) (o : Held) (at clock : ℕ) (freed : Option ℕ) → SeatLaw (Nothing at clock freed) (seat (at_pace Profile v) Talker o)
at_once_law v o at clock freed p q peek sound st f y =
    let b = at_pace Profile v in
    let s = seat b Talker o in
    let d = b.device in
    let t = clock + b.reaction in
    let w = Nothing at clock freed in
    let gap = f.1 in
    let k = commanding_rest p s true sound f.0.commanding in
    let answer : Seat → List Step = λ (x : Seat). silent_part x.party.pace (device x) (clock + reaction x) in
    let own : Seat → List Step = λ (x : Seat). own_part p w x in
    let only = only_talker d p.seats s sound.seated.one sound.seated.sits refl in
    let same : talker_of p.seats ≡ b = talker_is d p.seats s sound.seated.one sound.seated.sits refl in
    let fits : FreedFits t freed = subst (λ (z : Party). FreedFits (silent_end z clock) freed) same f.2 in
    let a = around_drives t (IsAside d false) (IsOthers d) d own p.seats s (part_others d at p.seats own (talk_parts d at answer p.seats only sound.react)) sound.seated.sits (refl, tt) in
    let after = late_drives at own p.seats (λ (x : Seat). from_role at x.role (let_go at x) (answer x) (omega arith, tt) (silent_sooner x.party.pace (device x) at (clock + reaction x) (omega (arith, gap)))) in
    let steps : steps_of p w ≡ host at Data Pull ∷ for_each Released (host at Atn Free) ∷ merge (host clock Clock Free ∷ freed_steps freed) (drives_of p w) =
    merge_drives own (host_part p w) p.seats ∙ turn_first at (host clock Clock Free ∷ freed_steps freed) (drives_of p w) after in
    let tail = merge (host clock Clock Free ∷ freed_steps freed) (drives_of p w) in
    let all = answer_follows None b clock k.0 (IsOthers d) (answer s) (freed_steps freed) (drives_of p w) (λ q2 r2. q2 ≡ stands b Talker (lines false false) (wires_of r2) (Speaking Over)) (refl, tt) (freed_none t freed fits) (freed_others d freed) a (lets_go clock v) in
    let whole = released None p s w q all.1.0 k.0 all.0 (host at Data Pull ∷ for_each Released (host at Atn Free) ∷ tail) sound st f.0.commanding k.2 steps (talking_turn None b at k.0 tail all.0 all.1.0 all.1.1.0) in
    record {
      rest = all.0;
      port = all.1.0;
      follows = subst (λ (z : Option (ℕ × Bool)). FollowsAmong z (rest_at d p) q (steps_of p w) all.0 all.1.0) (sym y) whole;
      role = ap (λ (z : Port). z.role) all.1.1.1;
      own = ap (λ (z : Port). z.own) all.1.1.1;
      side = inr (ap (λ (z : Port). z.side) all.1.1.1);
    }

-- At a KERNAL's pace it pulls CLOCK, and lets go of both lines later than all others have done their part.
abbrev held_back : ℕ → ℕ → List Step
held_back d t = drive d (t + mute) Clock Free ∷ for_one d Silent (drive d (t + mute) Data Free) ∷ []

after_a_drive : (t m d : ℕ) (back tail : List Step) → t ≤ m → Every (IsLateBy t) back → FirstIsAfter t (back ++ drive d m Clock Free ∷ tail)
after_a_drive t m d [] tail h l = h
after_a_drive t m d (x ∷ back) tail h l = l.0

after_freed : (t : ℕ) (freed : Option ℕ) → FreedFits t freed → FirstIsAfter t (freed_steps freed)
after_freed t None h = tt
after_freed t (Some g) h = omega (arith, h)

module _ (at clock : ℕ) (b : Party) (gap : at ≤ clock) (freed : Option ℕ) (fits : FreedFits (clock + b.reaction + mute) freed) where
  abbrev slow : Party
  slow = at_pace Kernal b

  abbrev turned : ℕ
  turned = clock + b.reaction

  abbrev tail : List Step
  tail = held_back b.device turned ++ freed_steps freed

  holds_back : (r : Rest) (back : List Step) → Every (Short b.device at) back → Every (IsLateBy turned) back
      → (r2 : Rest) × ((q2 : Port) × (FollowsAmong None r (stands slow Talker (lines false true) (wires_of r) (Speaking (Answering turned))) ((drive b.device turned Clock Pull ∷ []) ++ (back ++ tail)) r2 q2
      × (q2 ≡ stands slow Talker (lines false false) (wires_of r2) (Speaking Over))))
  holds_back r back a late =
      let d = b.device in
      let r1 = rest_afterwards d r back in
      let r2 = rest_afterwards d r1 (freed_steps freed) in
      let q2 = stands slow Talker (lines false false) (wires_of r2) (Speaking Over) in
      let over = passes_all None slow Talker (lines false false) (Speaking Over) calm_over r1 (freed_steps freed) (freed_others d freed) (never_due (Speaking Over) (freed_steps freed) refl) in
      let silent : FollowsAmong None r1 (stands slow Talker (lines true true) (wires_of r1) (Speaking (Mute (turned + mute)))) tail r2 q2 = reacts (turned + mute) (freed_steps freed) refl refl tt (after_freed (turned + mute) freed fits) over in
      let holding = passes None slow Talker (lines true true) (Speaking (Mute (turned + mute))) (calm_mute (turned + mute)) r r2 q2 back tail (every (Short d at) (IsOthers d) back (short_others d at) a) (short_in_time d at (turned + mute) back (omega (arith, gap)) a) silent in
      (r2, (q2, (reacts turned (back ++ tail) refl refl tt (after_a_drive turned (turned + mute) d back (for_one d Silent (drive d (turned + mute) Data Free) ∷ freed_steps freed) (omega arith) late) holding, refl)))

  -- CLOCK's pull with what the others do, then the rest of it
  abbrev pull : Seat → List Step
  pull x = drive (device x) (clock + reaction x) Clock Pull ∷ []

  abbrev sooner : Seat → List Step
  sooner x = elim x.role [ Absent ↦ let_go at x | Listener ↦ [] | Talker ↦ pull x ]

  abbrev later : Seat → List Step
  later x = elim x.role [ Absent ↦ [] | Listener ↦ [] | Talker ↦ held_back (device x) (clock + reaction x) ]

  -- what holds of each other drive, since none of them talks
  of_others : (Q : Seat → Type 0) (seats : List Seat) → ForOthers b.device (λ x. is_talker x.role ≡ false) seats → SeatsReact seats → ((x : Seat) → is_talker x.role ≡ false → reaction x ≤ 60 → Q x) → ForOthers b.device Q seats
  of_others Q [] e r f = tt
  of_others Q (x ∷ xs) e r f = (λ (h : nat_eq b.device (device x) ≡ false). f x (e.0 h) r.1, of_others Q xs e.1 r.2 f)

  split_role : (r : Role) (go answer first last : List Step) → is_talker r ≡ false
      → (elim r as (λ q. List Step) [ Absent ↦ go | Listener ↦ [] | Talker ↦ answer ])
      ≡ (elim r as (λ q. List Step) [ Absent ↦ go | Listener ↦ [] | Talker ↦ first ]) ++ (elim r as (λ q. List Step) [ Absent ↦ [] | Listener ↦ [] | Talker ↦ last ])
  split_role Absent go answer first last e = sym (append-nil go)
  split_role Listener go answer first last e = refl
  split_role Talker go answer first last e = absurd cc

  before_role : (m : ℕ) (r : Role) (go first : List Step) → is_talker r ≡ false → AllBefore m go → AllBefore m (elim r as (λ q. List Step) [ Absent ↦ go | Listener ↦ [] | Talker ↦ first ])
  before_role m Absent go first e h = h
  before_role m Listener go first e h = tt
  before_role m Talker go first e h = absurd cc

  none_role : (r : Role) (last : List Step) → is_talker r ≡ false → (elim r as (λ q. List Step) [ Absent ↦ [] | Listener ↦ [] | Talker ↦ last ]) ≡ []
  none_role Absent last e = refl
  none_role Listener last e = refl
  none_role Talker last e = absurd cc

  same_drives : (l : List Step) (f g : Seat → List Step) (ss : List Seat) → Each (λ x. f x ≡ g x) ss → merge_all l (map f ss) ≡ merge_all l (map g ss)
  same_drives l f g [] e = refl
  same_drives l f g (s ∷ ss) e = ap (λ (zs : List Step). merge l (merge_all zs (map f ss))) e.0 ∙ ap (λ (zs : List Step). merge l zs) (same_drives (g s) f g ss e.1)

  -- the host's release of DATA comes last
  freed_last : (freed : Option ℕ) → FreedFits (turned + mute) freed → merge (freed_steps freed) (held_back b.device turned) ≡ held_back b.device turned ++ freed_steps freed
  freed_last None h = refl
  freed_last (Some g) h =
      let free = drive b.device (turned + mute) Clock Free in
      let silent = for_one b.device Silent (drive b.device (turned + mute) Data Free) in
      merge_there (host g Data Free) [] free (silent ∷ []) (omega (arith, h)) ∙ ap (λ (zs : List Step). free ∷ zs) (merge_there (host g Data Free) [] silent [] (omega (arith, h)))

  none_freed : (freed : Option ℕ) → FreedFits (turned + mute) freed → NoneBefore (turned + mute) (freed_steps freed)
  none_freed None h = tt
  none_freed (Some g) h = (omega (arith, h), tt)

later_law : (v : Party) (o : Held) (at clock : ℕ) (freed : Option ℕ) → SeatLaw (Nothing at clock freed) (seat (at_pace Kernal v) Talker o)
later_law v o at clock freed p q peek sound st f y =
    let b = at_pace Kernal v in
    let s = seat b Talker o in
    let d = b.device in
    let t = clock + b.reaction in
    let m = t + mute in
    let w = Nothing at clock freed in
    let late = f.1 in
    let gap : at ≤ clock = omega (arith, late) in
    let k = commanding_rest p s true sound f.0.commanding in
    let own : Seat → List Step = λ (x : Seat). own_part p w x in
    let same : talker_of p.seats ≡ b = talker_is d p.seats s sound.seated.one sound.seated.sits refl in
    let fits : FreedFits m freed = subst (λ (z : Party). FreedFits (silent_end z clock) freed) same f.2 in
    let first : Seat → List Step = λ (x : Seat). sooner at clock v gap freed fits x in
    let last : Seat → List Step = λ (x : Seat). later at clock v gap freed fits x in
    let mine = held_back d t in
    let only = only_talker d p.seats s sound.seated.one sound.seated.sits refl in
    let others : (Q : Seat → Type 0) → ((x : Seat) → is_talker x.role ≡ false → reaction x ≤ 60 → Q x) → ForOthers d Q p.seats = λ (Q : Seat → Type 0) (g : (x : Seat) → is_talker x.role ≡ false → reaction x ≤ 60 → Q x). of_others at clock v gap freed fits Q p.seats only sound.react g in
    let parted : Each (λ x. own x ≡ first x ++ last x) p.seats = with_own (λ x. own x ≡ first x ++ last x) d p.seats s sound.seated.sits
    (others (λ x. own x ≡ first x ++ last x) (λ (x : Seat) e l. split_role at clock v gap freed fits x.role (let_go at x) (silent_part x.party.pace (device x) (clock + reaction x)) (pull at clock v gap freed fits x) (held_back (device x) (clock + reaction x)) e)) refl in
    let before : Each (λ x. AllBefore m (first x)) p.seats = with_own (λ x. AllBefore m (first x)) d p.seats s sound.seated.sits
    (others (λ x. AllBefore m (first x)) (λ (x : Seat) e l. before_role at clock v gap freed fits m x.role (let_go at x) (pull at clock v gap freed fits x) e (omega (arith, l, gap), tt))) (omega arith, tt) in
    let no : ForOthers d (λ x. last x ≡ []) p.seats = others (λ x. last x ≡ []) (λ (x : Seat) e l. none_role at clock v gap freed fits x.role (held_back (device x) (clock + reaction x)) e) in
    let none : Each (λ x. NoneBefore m (last x)) p.seats = with_own (λ x. NoneBefore m (last x)) d p.seats s sound.seated.sits
    (others (λ x. NoneBefore m (last x)) (λ (x : Seat) e l. subst (NoneBefore m) (sym (none_role at clock v gap freed fits x.role (held_back (device x) (clock + reaction x)) e)) tt)) (omega arith, (omega arith, tt)) in
    let front = merge_all [] (map first p.seats) in
    let drives : drives_of p w ≡ front ++ mine = same_drives at clock v gap freed fits [] own (λ (x : Seat). first x ++ last x) p.seats parted ∙ split_all m [] [] first last p.seats tt tt before none ∙ ap (λ (zs : List Step). front ++ zs) (sits_only last d [] p.seats s no sound.seated.sits) in
    let a = around_drives t (IsAside d false) (Short d at) d first p.seats s (talk_parts d at (pull at clock v gap freed fits) p.seats only sound.react) sound.seated.sits (refl, tt) in
    let free = host clock Clock Free in
    let ends = mine ++ freed_steps freed in
    let whole = merge (free ∷ []) front ++ ends in
    let cut : merge (free ∷ freed_steps freed) (drives_of p w) ≡ whole = ap (λ (zs : List Step). merge (free ∷ freed_steps freed) zs) drives
    ∙ merge_split m (free ∷ []) (freed_steps freed) front mine (omega arith, tt) (none_freed at clock v gap freed fits freed fits) (before_all m [] first p.seats tt before) (omega arith, (omega arith, tt))
    ∙ ap (λ (zs : List Step). merge (free ∷ []) front ++ zs) (freed_last at clock v gap freed fits freed fits) in
    let after = late_drives at own p.seats (λ (x : Seat). from_role at x.role (let_go at x) (silent_part x.party.pace (device x) (clock + reaction x)) (omega arith, tt) (silent_sooner x.party.pace (device x) at (clock + reaction x) (omega (arith, gap)))) in
    let steps : steps_of p w ≡ host at Data Pull ∷ for_each Released (host at Atn Free) ∷ whole =
    merge_drives own (host_part p w) p.seats ∙ turn_first at (free ∷ freed_steps freed) (drives_of p w) after ∙ ap (λ (zs : List Step). host at Data Pull ∷ for_each Released (host at Atn Free) ∷ zs) cut in
    let all = answer_goes None b clock k.0 (Short d at) (drive d t Clock Pull ∷ []) [] front (λ q2 r2. q2 ≡ stands b Talker (lines false false) (wires_of r2) (Speaking Over)) ends (refl, tt) tt tt a (holds_back at clock v gap freed fits) in
    let turn = released None p s w q all.1.0 k.0 all.0 (host at Data Pull ∷ for_each Released (host at Atn Free) ∷ whole) sound st f.0.commanding k.2 steps (talking_turn None b at k.0 whole all.0 all.1.0 all.1.1.0) in
    record {
      rest = all.0;
      port = all.1.0;
      follows = subst (λ (z : Option (ℕ × Bool)). FollowsAmong z (rest_at d p) q (steps_of p w) all.0 all.1.0) (sym y) turn;
      role = ap (λ (z : Port). z.role) all.1.1.1;
      own = ap (λ (z : Port). z.own) all.1.1.1;
      side = inr (ap (λ (z : Port). z.side) all.1.1.1);
    }

pub nothing_law : (b : Party) (o : Held) (at clock : ℕ) (freed : Option ℕ) → SeatLaw (Nothing at clock freed) (seat b Talker o)
nothing_law b o at clock freed = by b.pace
  where
    by : (v : Pace) → SeatLaw (Nothing at clock freed) (seat (at_pace v b) Talker o)
    by Profile = at_once_law b o at clock freed
    by Kernal = later_law b o at clock freed
