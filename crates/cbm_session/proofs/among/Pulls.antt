-- A drive among others follows ATN's pull: the host's changes, then each drive's reaction.
use Rattle.cbm_session.proofs.Paces.{started}
use Rattle.cbm_iec.specs.declared.ear.Ear.{Ear}
use Rattle.std.proofs.Common.{◌≡◌, ℕ, ◌+◌, ◌≤◌, Bool, true, false, List, [], ◌∷◌, ◌++◌, map, Option, Some, None, ap, sym, ◌∙◌, subst, arith, refl}
use Rattle.std.specs.Prelude.{nat_eq, ◌||◌}
use Rattle.cbm_iec.specs.Hearing.{after_start}
use Rattle.cbm_iec.specs.Ports.{side_due}
use Rattle.cbm_iec.specs.declared.machine.Act.TheVariants.{Pulled}
use Rattle.cbm_iec.specs.declared.ear.Ear.TheVariants.{Starting, Holding}
use Rattle.cbm_iec.specs.declared.event.Who.TheVariants.{Host, Drive}
use Rattle.cbm_iec.specs.declared.event.Who.{Who}
use Rattle.cbm_iec.specs.declared.lines.Line.TheVariants.{Atn, Clock, Data}
use Rattle.cbm_iec.specs.declared.lines.Line.{Line}
use Rattle.cbm_iec.specs.declared.lines.Way.TheVariants.{Pull, Free}
use Rattle.cbm_iec.specs.declared.lines.Lines.{Lines}
use Rattle.cbm_iec.specs.declared.party.Party.{Party}
use Rattle.cbm_iec.specs.declared.party.Role.TheVariants.{Absent, Listener, Talker}
use Rattle.cbm_iec.specs.declared.party.Role.{Role}
use Rattle.cbm_iec.specs.declared.port.Port.{Port}
use Rattle.cbm_iec.specs.declared.port.Side.TheVariants.{Hearing}
use Rattle.cbm_iec.specs.declared.port.Side.{Side}
use Rattle.cbm_session.proofs.alone.Frames.{done_due, wires, stands}
use Rattle.cbm_session.proofs.alone.Fronts.{AllAt}
use Rattle.cbm_session.proofs.alone.Pieces.{port_is, pull_out}
use Rattle.cbm_session.proofs.among.Around.{ForOthers, IsPart, IsLateBy, around_drives, merge_drives, every_drives, every, is_after, NotHost}
use Rattle.cbm_session.proofs.among.Calm.{or_true, Every, ByOthers, IsOthers, ByAnother, KeepsClock, IsAside, InTime, passes, asides_all, aside_host, calm_starting, calm_holding}
use Rattle.cbm_session.proofs.among.Standing.{rest_afterwards, AmongLaw}
use Rattle.cbm_session.proofs.frames.Phases.{Each}
use Rattle.cbm_session.proofs.joining.OneDrive.{AllUpTo, merge_front}
use Rattle.cbm_session.proofs.joining.Owning.{part_order}
use Rattle.cbm_session.proofs.reading.OneReading.{is_atn}
use Rattle.cbm_session.specs.Among.{Rest, some, wires_of, FirstIsAfter, FollowsAmong, tells, reacts}
use Rattle.cbm_session.specs.Bits.{where_held, where_free}
use Rattle.cbm_session.specs.Buses.{rest_at, holding, SideAmong}
use Rattle.cbm_session.specs.Following.{IsInTime}
use Rattle.cbm_session.specs.Joins.{NotBefore}
use Rattle.cbm_session.specs.Pieces.{BusPlace, Point, host_part, own_part, steps_of, PullFits, PullPiece, Open, Commanding, Listening, Leading, Cutting}
use Rattle.cbm_session.specs.Seats.{lines, Seat, device, reaction}
use Rattle.cbm_session.specs.Steps.{Step, host, drive, for_each, moment_of, merge_all}

-- ATN's pull finds nothing overdue
pub pull_in_time : (p : Point) (at : ℕ) (place : BusPlace) (r : Role) (x : Side) → SideAmong place r x → PullFits p at place → IsInTime at (side_due x)
pull_in_time p at Open r x h f = subst (λ (o : Option ℕ). IsInTime at o) (sym (done_due x h)) tt
pull_in_time p at (Commanding some) r x h f = elim f [ ]
pull_in_time p at Listening Absent x h f = subst (λ (y : Side). IsInTime at (side_due y)) (sym h) tt
pull_in_time p at Listening Listener x h f = subst (λ (y : Side). IsInTime at (side_due y)) (sym h) tt
pull_in_time p at Listening Talker x h f = elim h [ ]
pull_in_time p at (Leading t) r x h f = elim f [ ]
pull_in_time p at (Cutting cut) r x h f = subst (λ (n : ℕ). IsInTime n (side_due x)) (sym f) h

-- what isn't later than a reaction that is due is in time
pub in_time : (side : Side) (t : ℕ) (ss : List Step) → side_due side ≡ Some t → AllUpTo t ss → Every (InTime side) ss
in_time side t [] e u = tt
in_time side t (s ∷ ss) e u = (subst (λ (o : Option ℕ). IsInTime (moment_of s) o) (sym e) u.0, in_time side t ss e u.1)

pub never_due : (side : Side) (ss : List Step) → side_due side ≡ None → Every (InTime side) ss
never_due side [] e = tt
never_due side (s ∷ ss) e = (subst (λ (o : Option ℕ). IsInTime (moment_of s) o) (sym e) tt, never_due side ss e)

-- the parts of the pull
abbrev pub pull_host : Bool → Bool → ℕ → List Step
pull_host c d at = where_free c (host at Clock Pull) ++ where_held d (host at Data Free)

abbrev pull_own : Bool → Bool → ℕ → ℕ → List Step
pull_own c d o t = where_held c (drive o t Clock Free) ++ where_free d (drive o t Data Pull)

own_part_at : (c d : Bool) (o t : ℕ) → AllAt t (pull_own c d o t)
own_part_at true true o t = (refl, tt)
own_part_at true false o t = (refl, (refl, tt))
own_part_at false true o t = tt
own_part_at false false o t = (refl, tt)

by_others : (d : ℕ) (w : Who) → ByAnother d w → ByOthers d w
by_others d Host h = elim h [ ]
by_others d (Drive o) h = h

no_atn : (held : Bool) (line : Line) → KeepsClock held line → is_atn line ≡ false
no_atn held Atn h = elim h [ ]
no_atn true Clock h = refl
no_atn false Clock h = elim h [ ]
no_atn held Data h = refl

pub aside_others : (d : ℕ) (held : Bool) (s : Step) → IsAside d held s → IsOthers d s
aside_others d held s h = record { who = by_others d s.event.who h.who; counts = h.counts; line = no_atn held s.event.change.line h.line }

own_asides : (d o t : ℕ) (c e : Bool) → nat_eq d o ≡ false → Every (IsAside d true) (pull_own c e o t)
own_asides d o t true true h = (record { who = h; counts = refl; line = tt }, tt)
own_asides d o t true false h = (record { who = h; counts = refl; line = tt }, (record { who = h; counts = refl; line = tt }, tt))
own_asides d o t false true h = tt
own_asides d o t false false h = (record { who = h; counts = refl; line = tt }, tt)

own_drives : (o t : ℕ) (c e : Bool) → Every (λ s. NotHost s.event.who) (pull_own c e o t)
own_drives o t true true = (tt, tt)
own_drives o t true false = (tt, (tt, tt))
own_drives o t false true = tt
own_drives o t false false = (tt, tt)

own_from : (m o t : ℕ) (c e : Bool) → m ≤ t → Every (λ s. m ≤ moment_of s) (pull_own c e o t)
own_from m o t true true h = (h, tt)
own_from m o t true false h = (h, (h, tt))
own_from m o t false true h = tt
own_from m o t false false h = (h, tt)

host_others : (d at : ℕ) (c e : Bool) → Every (IsOthers d) (pull_host c e at)
host_others d at true true = (record { who = tt; counts = refl; line = refl }, tt)
host_others d at true false = tt
host_others d at false true = (record { who = tt; counts = refl; line = refl }, (record { who = tt; counts = refl; line = refl }, tt))
host_others d at false false = (record { who = tt; counts = refl; line = refl }, tt)

host_upto : (at t : ℕ) (c e : Bool) → at ≤ t → AllUpTo t (pull_host c e at)
host_upto at t true true h = (h, tt)
host_upto at t true false h = tt
host_upto at t false true h = (h, (h, tt))
host_upto at t false false h = (h, tt)

-- after the host's changes it holds CLOCK and not DATA
host_holds : (d at k n : ℕ) (c e : Bool) → rest_afterwards d (record { host = wires true c e; clocks = k; datas = n }) (pull_host c e at) ≡ record { host = wires true true false; clocks = k; datas = n }
host_holds d at k n true true = refl
host_holds d at k n true false = refl
host_holds d at k n false true = refl
host_holds d at k n false false = refl

pub clock_held : (r : Rest) → r.host.clock_low ≡ true → (wires_of r).clock_low ≡ true
clock_held r e = ap (λ (v : Bool). some r.clocks || v) e ∙ or_true r.clocks

pub not_before : (m : ℕ) (ss : List Step) → Every (λ s. m ≤ moment_of s) ss → NotBefore m ss
not_before m [] h = tt
not_before m (s ∷ ss) h = h.0

each_from : (m : ℕ) (own : Seat → List Step) (seats : List Seat) → ((x : Seat) → Every (λ s. m ≤ moment_of s) (own x)) → Each (λ x. Every (λ s. m ≤ moment_of s) (own x)) seats
each_from m own [] f = tt
each_from m own (x ∷ xs) f = (f x, each_from m own xs f)

pub for_others : (d : ℕ) (P : Seat → Type 0) (seats : List Seat) → ((x : Seat) → nat_eq d (device x) ≡ false → P x) → ForOthers d P seats
for_others d P [] f = tt
for_others d P (x ∷ xs) f = (f x, for_others d P xs f)

module _ (peek : Option (ℕ × Bool)) (b : Party) (role : Role) where
  -- the reaction, with CLOCK held on the wire
  starts : (oc od : Bool) (t : ℕ) (r r2 : Rest) (q2 : Port) (more : List Step) → (wires_of r).clock_low ≡ true → FirstIsAfter t more → FollowsAmong peek r (stands b role (lines false true) (wires_of r) (Hearing Holding)) more r2 q2
      → FollowsAmong peek r (stands b role (lines oc od) (wires_of r) (Hearing (Starting t))) (pull_own oc od b.device t ++ more) r2 q2
  starts oc od t r r2 q2 more e l f =
      go oc od (subst (λ (v : Bool). FollowsAmong peek r (stands b role (lines false true) (wires_of r) (Hearing (after_start b.pace b.reaction t v))) more r2 q2) (sym e) (subst (λ (v : Ear). FollowsAmong peek r (stands b role (lines false true) (wires_of r) (Hearing v)) more r2 q2) (sym (started b.pace b.reaction t)) f))
    where
      go : (c d : Bool) → FollowsAmong peek r (stands b role (lines false true) (wires_of r) (Hearing (after_start b.pace b.reaction t (wires_of r).clock_low))) more r2 q2
          → FollowsAmong peek r (stands b role (lines c d) (wires_of r) (Hearing (Starting t))) (pull_own c d b.device t ++ more) r2 q2
      go true true g = reacts t more refl refl tt l g
      go true false g = reacts t more refl refl tt l g
      go false true g = reacts t more refl refl tt l g
      go false false g = reacts t more refl refl tt l g

  -- the whole pull, from when all others hold r
  pulled_follows : (c e oc od : Bool) (k n at : ℕ) (side : Side) (front back : List Step) → IsInTime at (side_due side) → Every (IsAside b.device true) front → AllUpTo (at + b.reaction) front → Every (IsAside b.device true) back → Every (IsLateBy (at + b.reaction)) back
      → (r2 : Rest) × FollowsAmong peek (record { host = wires false c e; clocks = k; datas = n }) (stands b role (lines oc od) (wires_of (record { host = wires false c e; clocks = k; datas = n })) side)
      (for_each Pulled (host at Atn Pull) ∷ (pull_host c e at ++ (front ++ (pull_own oc od b.device (at + b.reaction) ++ back)))) r2 (stands b role (lines false true) (wires_of r2) (Hearing Holding))
  pulled_follows c e oc od k n at side front back i f u a l =
      let t = at + b.reaction in
      let d = b.device in
      let r1 : Rest = record { host = wires true c e; clocks = k; datas = n } in
      let held : Rest = record { host = wires true true false; clocks = k; datas = n } in
      let low : (rest_afterwards d held front).host.clock_low ≡ true = ap (λ (l : Lines). l.clock_low) (aside_host d true held front f) in
      let r2 = rest_afterwards d (rest_afterwards d held front) back in
      let q2 = stands b role (lines false true) (wires_of r2) (Hearing Holding) in
      let afterwards = asides_all peek b role (lines false true) (Hearing Holding) calm_holding true (rest_afterwards d held front) back low a (never_due (Hearing Holding) back refl) in
      let own = starts oc od t (rest_afterwards d held front) r2 q2 back (clock_held (rest_afterwards d held front) low) (is_after t back l) afterwards in
      let first = passes peek b role (lines oc od) (Hearing (Starting t)) (calm_starting t) held r2 q2 front (pull_own oc od d t ++ back) (every (IsAside d true) (IsOthers d) front (aside_others d true) f) (in_time (Hearing (Starting t)) t front refl u) own in
      let all = passes peek b role (lines oc od) (Hearing (Starting t)) (calm_starting t) r1 r2 q2 (pull_host c e at) (front ++ (pull_own oc od d t ++ back)) (host_others d at c e) (in_time (Hearing (Starting t)) t (pull_host c e at) refl (host_upto at t c e (omega arith)))
      (subst (λ (r : Rest). FollowsAmong peek r (stands b role (lines oc od) (wires_of r) (Hearing (Starting t))) (front ++ (pull_own oc od d t ++ back)) r2 q2) (sym (host_holds d at k n c e)) first) in
      (r2, tells i refl all)

-- the pull is the host's changes, then the drives'
pub pull_steps : (p : Point) (at : ℕ) → steps_of p (PullPiece at) ≡ for_each Pulled (host at Atn Pull) ∷ (pull_host p.host.clock_low p.host.data_low at ++ merge_all [] (map (λ (x : Seat). own_part p (PullPiece at) x) p.seats))
pull_steps p at =
    let own : Seat → List Step = λ (x : Seat). own_part p (PullPiece at) x in
    let drives = merge_all [] (map own p.seats) in
    let host_own = host_part p (PullPiece at) in
    let late : NotBefore at drives = not_before at drives (every_drives (λ s. at ≤ moment_of s) own p.seats (each_from at own p.seats (λ (x : Seat). own_from at (device x) (at + reaction x) x.own.clock_low x.own.data_low (omega arith)))) in
    merge_drives own host_own p.seats ∙ merge_front at host_own drives (omega arith, host_upto at at p.host.clock_low p.host.data_low (omega arith)) late

pub pull_drives : (p : Point) (at : ℕ) → Every (λ s. NotHost s.event.who) (merge_all [] (map (λ (x : Seat). own_part p (PullPiece at) x) p.seats))
pull_drives p at = every_drives (λ s. NotHost s.event.who) (λ (x : Seat). own_part p (PullPiece at) x) p.seats (each p.seats)
  where
    each : (xs : List Seat) → Each (λ x. Every (λ s. NotHost s.event.who) (own_part p (PullPiece at) x)) xs
    each [] = tt
    each (x ∷ xs) = (own_drives (device x) (at + reaction x) x.own.clock_low x.own.data_low, each xs)

pub pull_among : (at : ℕ) → AmongLaw (PullPiece at)
pull_among at p s q peek sound st f y =
    let b = s.party in
    let d = device s in
    let t = at + reaction s in
    let c = p.host.clock_low in
    let e = p.host.data_low in
    let own : Seat → List Step = λ (x : Seat). own_part p (PullPiece at) x in
    let k = holding Clock d p.seats in
    let n = holding Data d p.seats in
    let r : Rest = record { host = wires false c e; clocks = k; datas = n } in
    let host_own = host_part p (PullPiece at) in
    let parts : ForOthers d (λ x. IsPart (IsAside d true) (IsAside d true) (own x)) p.seats = for_others d (λ x. IsPart (IsAside d true) (IsAside d true) (own x)) p.seats (λ (x : Seat) (h : nat_eq d (device x) ≡ false). record {
      order = part_order p (PullPiece at) f x;
      first = own_asides d (device x) (at + reaction x) x.own.clock_low x.own.data_low h;
      afterwards = own_asides d (device x) (at + reaction x) x.own.clock_low x.own.data_low h;
      drives = own_drives (device x) (at + reaction x) x.own.clock_low x.own.data_low;
    }) in
    let a = around_drives t (IsAside d true) (IsAside d true) d own p.seats s parts sound.seated.sits (own_part_at s.own.clock_low s.own.data_low d t) in
    let steps : steps_of p (PullPiece at) ≡ host_own ++ (a.front ++ (own s ++ a.back)) = pull_steps p at ∙ ap (λ (zs : List Step). host_own ++ zs) a.is in
    let out : rest_at d p ≡ r = ap (λ (v : Bool). record { host = wires v c e; clocks = k; datas = n }) (pull_out p at p.place f) in
    let all = pulled_follows peek b s.role c e s.own.clock_low s.own.data_low k n at q.side a.front a.back (pull_in_time p at p.place s.role q.side st.side f) a.first a.upto a.afterwards a.late in
    let same : q ≡ stands b s.role s.own (wires_of r) q.side = port_is q b s.role s.own (wires_of r) q.side st.party st.role st.own (st.others ∙ ap (λ (x : Rest). wires_of x) out) refl in
    let q2 = stands b s.role (lines false true) (wires_of all.0) (Hearing Holding) in
    record {
      rest = all.0;
      port = q2;
      follows =
          subst (λ (x : Rest). FollowsAmong peek x q (steps_of p (PullPiece at)) all.0 q2) (sym out)
          (subst (λ (x : Port). FollowsAmong peek r x (steps_of p (PullPiece at)) all.0 q2) (sym same) (subst (λ (zs : List Step). FollowsAmong peek r (stands b s.role s.own (wires_of r) q.side) zs all.0 q2) (sym steps) all.1));
      role = refl;
      own = refl;
      side = refl;
    }
