-- The reaction that is due first happens, and all others are told.
use Rattle.std.proofs.Common.{◌≡◌, ℕ, zero, suc, length, ◌+◌, Bool, true, false, List, [], ◌∷◌, ◌++◌, map, Option, Some, refl, sym, ap, subst, ◌∙◌, arith}
use Rattle.std.specs.Prelude.{not}
use Rattle.std.specs.List.{AllZip}
use Rattle.cbm_iec.specs.Changes.{is_pull}
use Rattle.cbm_iec.specs.Machines.{acted}
use Rattle.cbm_iec.specs.Ports.{port_due, reacted, reaction_act, reaction_changes, next_held, changes_between}
use Rattle.cbm_iec.specs.declared.machine.Act.{Act}
use Rattle.cbm_iec.specs.declared.lines.Change.{Change}
use Rattle.cbm_iec.specs.declared.lines.Line.TheVariants.{Atn, Clock, Data}
use Rattle.cbm_iec.specs.declared.lines.Line.{Line}
use Rattle.cbm_iec.specs.declared.lines.Way.TheVariants.{Pull, Free}
use Rattle.cbm_iec.specs.declared.lines.Way.{Way}
use Rattle.cbm_iec.specs.declared.lines.Held.{Held}
use Rattle.cbm_iec.specs.declared.lines.Lines.{Lines}
use Rattle.cbm_iec.specs.declared.port.Port.{Port}
use Rattle.cbm_session.specs.Among.{Rest, counted}
use Rattle.cbm_session.specs.Following.{IsInTime}
use Rattle.cbm_session.specs.Playing.{Station, IsLaterDue, AllLater, AllInTime, hear_all, react, shown}
use Rattle.cbm_drive.specs.declared.wires.Wires.{Wires}
use Rattle.cbm_drive.specs.Seats.{Seated, IsSeat, IsWithout, IsBusAt, IsFirstDue, AreLater, AreInTime, pulls_counted, total, clock_of, data_pulls, wires_held_by}
use Rattle.cbm_drive.specs.Reactions.{AreAtMoment, Toggles, IsToggled, Hear, HasReacted, after_a_change, wires_after_all, own_after, held_afterwards}

-- ---- the changes of a reaction

abbrev two : Bool → Bool → Held
two clock data_low = record { clock_low = clock; data_low = data_low }

pub changes_at : (t : ℕ) (a b c d : Bool) → AreAtMoment t (changes_between t (two a c) (two b d))
changes_at t false false false false = tt
changes_at t false false false true = (refl, tt)
changes_at t false false true false = (refl, tt)
changes_at t false false true true = tt
changes_at t false true false false = (refl, tt)
changes_at t false true false true = (refl, (refl, tt))
changes_at t false true true false = (refl, (refl, tt))
changes_at t false true true true = (refl, tt)
changes_at t true false false false = (refl, tt)
changes_at t true false false true = (refl, (refl, tt))
changes_at t true false true false = (refl, (refl, tt))
changes_at t true false true true = (refl, tt)
changes_at t true true false false = tt
changes_at t true true false true = (refl, tt)
changes_at t true true true false = (refl, tt)
changes_at t true true true true = tt

-- all changes of a reaction are of its moment
pub reaction_at : (t : ℕ) (peek : Option (ℕ × Bool)) (p : Port) → AreAtMoment t (reaction_changes t peek p)
reaction_at t peek p = changes_at t p.own.clock_low (next_held peek p).clock_low p.own.data_low (next_held peek p).data_low

changes_toggle : (t : ℕ) (a b c d : Bool) → Toggles (two a c) (changes_between t (two a c) (two b d))
changes_toggle t false false false false = tt
changes_toggle t false false false true = (refl, tt)
changes_toggle t false false true false = (refl, tt)
changes_toggle t false false true true = tt
changes_toggle t false true false false = (refl, tt)
changes_toggle t false true false true = (refl, (refl, tt))
changes_toggle t false true true false = (refl, (refl, tt))
changes_toggle t false true true true = (refl, tt)
changes_toggle t true false false false = (refl, tt)
changes_toggle t true false false true = (refl, (refl, tt))
changes_toggle t true false true false = (refl, (refl, tt))
changes_toggle t true false true true = (refl, tt)
changes_toggle t true true false false = tt
changes_toggle t true true false true = (refl, tt)
changes_toggle t true true true false = (refl, tt)
changes_toggle t true true true true = tt

changes_lead : (t : ℕ) (a b c d : Bool) → held_afterwards (changes_between t (two a c) (two b d)) (two a c) ≡ two b d
changes_lead t false false false false = refl
changes_lead t false false false true = refl
changes_lead t false false true false = refl
changes_lead t false false true true = refl
changes_lead t false true false false = refl
changes_lead t false true false true = refl
changes_lead t false true true false = refl
changes_lead t false true true true = refl
changes_lead t true false false false = refl
changes_lead t true false false true = refl
changes_lead t true false true false = refl
changes_lead t true false true true = refl
changes_lead t true true false false = refl
changes_lead t true true false true = refl
changes_lead t true true true false = refl
changes_lead t true true true true = refl

-- ---- what the reacting drive itself knows of the others stays right

pulled_self : (way : Way) (low after : Bool) (n c : ℕ) → low ≡ not (is_pull way) → after ≡ is_pull way → n + pulls_counted low ≡ c → n + pulls_counted after ≡ counted way c
pulled_self Pull low after n c t a e = (let z : pulls_counted low ≡ 0 = ap pulls_counted t in let y : pulls_counted after ≡ 1 = ap pulls_counted a in omega (arith, e, z, y))
pulled_self Free low after n zero t a e = (let z : pulls_counted low ≡ 1 = ap pulls_counted t in absurd (omega (arith, e, z)))
pulled_self Free low after n (suc c) t a e = (let z : pulls_counted low ≡ 1 = ap pulls_counted t in let y : pulls_counted after ≡ 0 = ap pulls_counted a in omega (arith, e, z, y))

self_one : (line : Line) (way : Way) (all : Wires) (own : Held) (r : Rest) → IsToggled line way own → IsWithout all own r → IsWithout (after_a_change line way all) (own_after line way own) r
self_one Atn way all own r t h = absurd t
self_one Clock way all own r t h = record { host = h.host; clocks = pulled_self way own.clock_low (is_pull way) r.clocks all.clocks t refl h.clocks; datas = h.datas }
self_one Data way all own r t h = record { host = h.host; clocks = h.clocks; datas = pulled_self way own.data_low (is_pull way) r.datas all.datas t refl h.datas }

self_all : (cs : List Change) (all : Wires) (own : Held) (r : Rest) → Toggles own cs → IsWithout all own r → IsWithout (wires_after_all cs all) (held_afterwards cs own) r
self_all [] all own r t h = h
self_all (c ∷ cs) all own r t h = self_all cs (after_a_change c.line c.way all) (own_after c.line c.way own) r t.1 (self_one c.line c.way all own r t.0 h)

-- the host's lines stay
host_one : (line : Line) (way : Way) (all : Wires) → (after_a_change line way all).host ≡ all.host
host_one Atn way all = refl
host_one Clock way all = refl
host_one Data way all = refl

host_all : (cs : List Change) (all : Wires) → (wires_after_all cs all).host ≡ all.host
host_all [] all = refl
host_all (c ∷ cs) all = host_all cs (after_a_change c.line c.way all) ∙ host_one c.line c.way all

-- ---- lists in three parts

pub total_parts : {A : Type 0} (f : A → ℕ) (xs : List A) (x : A) (ys : List A) → total f (xs ++ x ∷ ys) ≡ total f xs + (f x + total f ys)
total_parts f [] x ys = omega arith
total_parts f (y ∷ xs) x ys = omega (arith, total_parts f xs x ys)

record Parts {A B : Type 0} (R : A → B → Type 0) (xs : List A) (x : A) (ys : List A) (ss : List B) : Type 0 where
  before : List B
  station : B
  afterwards : List B
  is : ss ≡ before ++ station ∷ afterwards
  front : AllZip R xs before
  here : R x station
  back : AllZip R ys afterwards

parts : {A B : Type 0} (R : A → B → Type 0) (xs : List A) (x : A) (ys : List A) (ss : List B) → AllZip R (xs ++ x ∷ ys) ss → Parts R xs x ys ss
parts R [] x ys [] h = absurd h
parts R [] x ys (s ∷ ss) h = record { before = []; station = s; afterwards = ss; is = refl; front = tt; here = h.0; back = h.1 }
parts R (y ∷ xs) x ys [] h = absurd h
parts R (y ∷ xs) x ys (s ∷ ss) h =
    let p = parts R xs x ys ss h.1 in
    record { before = s ∷ p.before; station = p.station; afterwards = p.afterwards; is = ap (λ us. s ∷ us) p.is; front = (h.0, p.front); here = p.here; back = p.back }

joined : {A B : Type 0} (R : A → B → Type 0) (xs : List A) (x : A) (ys : List A) (bs : List B) (s : B) (hs : List B) → AllZip R xs bs → R x s → AllZip R ys hs → AllZip R (xs ++ x ∷ ys) (bs ++ s ∷ hs)
joined R [] x ys [] s hs f h b = (h, b)
joined R [] x ys (u ∷ bs) s hs f h b = absurd f
joined R (y ∷ xs) x ys [] s hs f h b = absurd f
joined R (y ∷ xs) x ys (u ∷ bs) s hs f h b = (f.0, joined R xs x ys bs s hs f.1 h b)

record FirstParts {D : Type 0} (t : ℕ) (xs : List (Seated D)) (x : Seated D) (ys : List (Seated D)) : Type 0 where
  due : port_due x.port ≡ Some t
  later : AreLater t xs
  in_time : AreInTime t ys

first_parts : {D : Type 0} (n t : ℕ) (xs : List (Seated D)) (x : Seated D) (ys : List (Seated D)) → length xs ≡ n → IsFirstDue (xs ++ x ∷ ys) (n, t) → FirstParts t xs x ys
first_parts zero t [] x ys e h = record { due = h.0; later = tt; in_time = h.1 }
first_parts (suc n) t [] x ys e h = absurd (omega (arith, e))
first_parts zero t (y ∷ xs) x ys e h = absurd (omega (arith, e))
first_parts (suc n) t (y ∷ xs) x ys e h =
    let p = first_parts n t xs x ys (omega (arith, e)) h.1 in
    record { due = p.due; later = (h.0, p.later); in_time = p.in_time }

module _ (D M : Type 0) (stands : D → M → Type 0) (step : M → Act → M) (says : M → Option (ℕ × Bool)) where
  pub stations_later : (all : Wires) (t : ℕ) (xs : List (Seated D)) (ss : List (Station M)) → AllZip (IsSeat D M stands all) xs ss → AreLater t xs → AllLater M step says t ss
  stations_later all t [] [] z h = tt
  stations_later all t [] (s ∷ ss) z h = absurd z
  stations_later all t (x ∷ xs) [] z h = absurd z
  stations_later all t (x ∷ xs) (s ∷ ss) z h = (subst (λ (p : Port). IsLaterDue t (port_due p)) z.0.port h.0, stations_later all t xs ss z.1 h.1)

  pub stations_in_time : (all : Wires) (t : ℕ) (xs : List (Seated D)) (ss : List (Station M)) → AllZip (IsSeat D M stands all) xs ss → AreInTime t xs → AllInTime M step says t ss
  stations_in_time all t [] [] z h = tt
  stations_in_time all t [] (s ∷ ss) z h = absurd z
  stations_in_time all t (x ∷ xs) [] z h = absurd z
  stations_in_time all t (x ∷ xs) (s ∷ ss) z h = (subst (λ (p : Port). IsInTime t (port_due p)) z.0.port h.0, stations_in_time all t xs ss z.1 h.1)

module _ (D M : Type 0) (stood stands : D → M → Type 0) (step : M → Act → M) (says : M → Option (ℕ × Bool)) where
  -- THE REACTION HAPPENS: from what `due` says of the drive, and `hear_others` of the others
  pub reacts : (host : Lines) (t n : ℕ) (front : List (Seated D)) (x x' : Seated D) (back front' back' : List (Seated D)) (cs : List Change) (ss : List (Station M)) → length front ≡ n
      → ((m : M) → stood x.machine m → x'.port ≡ reacted t (says m) x.port) → ((m : M) → stood x.machine m → cs ≡ reaction_changes t (says m) x.port)
      → ((m : M) → stood x.machine m → stands x'.machine (acted M step (reaction_act (says m) x.port) m))
      → Hear D M stood stands step says t front back front' back' (wires_held_by host (front ++ x ∷ back)) cs
      → IsBusAt D M stood host (front ++ x ∷ back) ss → IsFirstDue (front ++ x ∷ back) (n, t) → HasReacted D M stands step says host t x.port.party.device (front' ++ x' ∷ back') cs ss
  reacts host t n front x x' back front' back' cs ss len port changes machine heard bus first =
      let all : Wires = wires_held_by host (front ++ x ∷ back) in
      let p = parts (IsSeat D M stood all) front x back ss bus in
      let f = first_parts n t front x back len first in
      let s : Station M = p.station in
      let m : M = s.machine in
      let is_port : x'.port ≡ reacted t (says m) x.port = port m p.here.machine in
      let is_changes : cs ≡ reaction_changes t (says m) x.port = changes m p.here.machine in
      let was : Held = x.port.own in
      let now : Held = next_held (says m) x.port in
      let at_t : AreAtMoment t cs = subst (AreAtMoment t) (sym is_changes) (changes_at t was.clock_low now.clock_low was.data_low now.data_low) in
      let toggles : Toggles was cs = subst (Toggles was) (sym is_changes) (changes_toggle t was.clock_low now.clock_low was.data_low now.data_low) in
      let leads : held_afterwards cs was ≡ x'.port.own = ap (λ (ys : List Change). held_afterwards ys was) is_changes ∙ changes_lead t was.clock_low now.clock_low was.data_low now.data_low ∙ sym (ap (λ (q : Port). q.own) is_port) in
      let told = heard was p.before p.afterwards at_t toggles (record { clocks = total_parts clock_of front x back; datas = total_parts data_pulls front x back }) p.front p.back in
      let after : Wires = wires_after_all cs all in
      let new : List (Seated D) = front' ++ x' ∷ back' in
      let clocks : after.clocks ≡ total clock_of new = told.counts.clocks ∙ ap (λ (h : Held). total clock_of front' + (pulls_counted h.clock_low + total clock_of back')) leads ∙ sym (total_parts clock_of front' x' back') in
      let datas : after.datas ≡ total data_pulls new = told.counts.datas ∙ ap (λ (h : Held). total data_pulls front' + (pulls_counted h.data_low + total data_pulls back')) leads ∙ sym (total_parts data_pulls front' x' back') in
      let same : after ≡ wires_held_by host new = λ i. record { host = host_all cs all i; clocks = clocks i; datas = datas i } in
      let here : IsSeat D M stands after x' (react M step says t s) = record {
        port = is_port ∙ ap (reacted t (says m)) p.here.port;
        machine = subst (λ (q : Port). stands x'.machine (acted M step (reaction_act (says m) q) m)) p.here.port (machine m p.here.machine);
        rest = subst (λ (h : Held). IsWithout after h s.rest) leads (self_all cs all was s.rest toggles p.here.rest);
      } in
      let is_shown : cs ≡ shown M step says t s = is_changes ∙ ap (reaction_changes t (says m)) p.here.port in
      let bus_now : AllZip (IsSeat D M stands after) new (map (λ u. hear_all M step says cs u) p.before ++ react M step says t s ∷ map (λ u. hear_all M step says cs u) p.afterwards) =
      joined (IsSeat D M stands after) front' x' back' (map (λ u. hear_all M step says cs u) p.before) (react M step says t s) (map (λ u. hear_all M step says cs u) p.afterwards) told.before here told.afterwards in
      record {
        before = p.before;
        station = s;
        afterwards = p.afterwards;
        is = p.is;
        first = record {
          due = subst (λ (q : Port). port_due q ≡ Some t) p.here.port f.due;
          later = stations_later D M stood step says all t front p.before p.front f.later;
          in_time = stations_in_time D M stood step says all t back p.afterwards p.back f.in_time;
        };
        which = ap (λ (q : Port). q.party.device) p.here.port;
        changes = is_shown;
        now = subst (λ (ys : List Change). AllZip (IsSeat D M stands (wires_held_by host new)) new (map (λ u. hear_all M step says ys u) p.before ++ react M step says t s ∷ map (λ u. hear_all M step says ys u) p.afterwards)) is_shown
            (subst (λ (w : Wires). AllZip (IsSeat D M stands w) new (map (λ u. hear_all M step says cs u) p.before ++ react M step says t s ∷ map (λ u. hear_all M step says cs u) p.afterwards)) same bus_now);
      }
