-- Several drives at work and a piece that all of them go with: what they do is a front of the piece, as far as the host does the same.
use Rattle.std.proofs.Common.{◌≡◌, ℕ, suc, ◌≤◌, ◌<◌, ◌⊎◌, inl, inr, Bool, true, false, List, [], ◌∷◌, ◌++◌, map, append_assoc, Option, Some, None, ap, sym, ◌∙◌, subst, arith, refl, eq-eqb}
use Rattle.std.specs.Prelude.{if◌then◌else◌, nat_eq}
use Rattle.cbm_iec.specs.Hearing.{is_same}
use Rattle.cbm_iec.specs.Machines.{acted}
use Rattle.cbm_iec.specs.Ports.{port_due, turned_side, lined_side, lined_act, told, told_act, next_held, next_side, reaction_act, reaction_changes}
use Rattle.cbm_iec.specs.declared.machine.Act.TheVariants.{Pulled, Released}
use Rattle.cbm_iec.specs.declared.machine.Act.{Act}
use Rattle.cbm_iec.specs.declared.event.Event.{Event}
use Rattle.cbm_iec.specs.declared.event.Who.TheVariants.{Host, Drive}
use Rattle.cbm_iec.specs.declared.event.Who.{Who}
use Rattle.cbm_iec.specs.declared.lines.Change.{Change}
use Rattle.cbm_iec.specs.declared.lines.Line.TheVariants.{Atn, Clock, Data}
use Rattle.cbm_iec.specs.declared.lines.Line.{Line}
use Rattle.cbm_iec.specs.declared.lines.Way.{Way}
use Rattle.cbm_iec.specs.declared.lines.Lines.{Lines}
use Rattle.cbm_iec.specs.declared.port.Port.{Port}
use Rattle.cbm_iec.specs.declared.port.Side.{Side}
use Rattle.cbm_session.proofs.Truths.{same_self}
use Rattle.cbm_session.proofs.headline.BusActs.{HasRun, AllRan, run_on, run_other, mark_acted, own_acted, ran_before, ran_joined, RanOn, ran_then, ran_stays}
use Rattle.cbm_session.proofs.headline.BusStep.{Goes, tells, hears, reacts, own_first, not_mine, another, host_drive, Tied, reacts_next, first_due, tied_after}
use Rattle.cbm_session.proofs.headline.Keeping.{HostFrom, events_append, all_in_time}
use Rattle.cbm_session.proofs.headline.Meeting.{Meets, Compat, compat_skip, SaysOpen, LastSaid, AsksFor, FirstIs, first_append, first_shown, reaction_events, host_first, last_after_it, last_open, noatn_after, in_time_at, same_reacted, same_changes, no_steps}
use Rattle.cbm_session.proofs.headline.SideStates.{SideHolds, SideAsks, side_lines, side_react, side_same_after, side_same_act, side_lines_ask, side_said_asks, side_react_asks, side_acted_asks}
use Rattle.cbm_session.proofs.headline.TalkStates.{NoneSaid}
use Rattle.cbm_session.proofs.joining.Merging.{NoneBefore, InOrder, AllBefore, none_sooner, order_after, goes_after, before_after}
use Rattle.cbm_session.proofs.reading.OneReading.{is_atn, NoAtn}
use Rattle.cbm_session.specs.Among.{Rest, wires_of, after_another, after_the_host, CountsFor}
use Rattle.cbm_session.specs.Answers.{run_acts}
use Rattle.cbm_session.specs.Following.{IsInTime, own_steps, reaction_steps}
use Rattle.cbm_session.specs.Laws.{AllAfter, GoesOn}
use Rattle.cbm_session.specs.Playing.{IsLaterDue, Station, host_event, drive_events, tell, hear, hear_all, react, shown, AllInTime, AllLater, IsFirst, reacting, Plays, stays, change, reaction}
use Rattle.cbm_session.specs.Steps.{Mark, Step, moment_of, events_of, event_of, acts_for, Plain, ForEach, For}

pub other_atn : (line : Line) (way : Way) (r : Rest) → (wires_of (after_another line way r)).atn_low ≡ (wires_of r).atn_low
other_atn Atn way r = refl
other_atn Clock way r = refl
other_atn Data way r = refl

pub host_atn : (line : Line) (way : Way) (r : Rest) → is_atn line ≡ false → (wires_of (after_the_host line way r)).atn_low ≡ (wires_of r).atn_low
host_atn Atn way r h = absurd cc
host_atn Clock way r h = refl
host_atn Data way r h = refl

-- told lines with ATN as it was
pub told_out : (q : Port) (t : ℕ) (r now : Rest) → q.others ≡ wires_of r → (wires_of now).atn_low ≡ (wires_of r).atn_low
    → ((told t (wires_of now) q).side ≡ lined_side q.party.reaction t q.others (wires_of now) q.side) × (told_act (wires_of now) q ≡ lined_act q.others (wires_of now) q.side)
told_out q t r now seen same =
    let atn : q.others.atn_low ≡ (wires_of now).atn_low = ap (λ (l : Lines). l.atn_low) seen ∙ sym same in
    let out : is_same q.others.atn_low (wires_of now).atn_low ≡ true = ap (λ (v : Bool). is_same q.others.atn_low v) (sym atn) ∙ same_self q.others.atn_low in (
      ap (λ (v : Bool). if v then lined_side q.party.reaction t q.others (wires_of now) q.side else turned_side t (wires_of now) q) out,
      ap (λ (v : Bool). if v then lined_act q.others (wires_of now) q.side else Some (if (wires_of now).atn_low then Pulled else Released)) out,
    )

none_said_for : (d : ℕ) (mark : Mark) (act : Option Act) → SaysOpen mark → CountsFor d mark act → NoneSaid act
none_said_for d Plain act o c = subst NoneSaid (sym c) tt
none_said_for d (ForEach a) act o c = subst NoneSaid (sym c) o
none_said_for d (For e a) act o c = subst NoneSaid (sym c) (go (nat_eq d e))
  where
    go : (v : Bool) → NoneSaid (if v then Some a else None)
    go true = o
    go false = tt

host_after_drive : (d t : ℕ) (ss : List Step) → AllAfter (Drive d) t ss → HostFrom (suc t) ss
host_after_drive d t [] a = tt
host_after_drive d t (s ∷ ss) a = (go s.event.who a.0, host_after_drive d t ss a.1)
  where
    go : (w : Who) → Rattle.cbm_session.specs.Laws.NotSooner (Drive d) t w (moment_of s) → Rattle.cbm_session.specs.Timing.is_host w ≡ true → suc t ≤ moment_of s
    go Host n k = omega (arith, n)
    go (Drive o) n k = absurd cc

module _ (M : Type 0) (step : M → Act → M) (peek : M → Option (ℕ × Bool)) (says : ℕ → Option (ℕ × Bool)) (place : ℕ → ℕ) where
  -- a drive that goes with these steps, and where it then stands
  pub record GoesSo (s : Station M) (ys : List Step) (e : Rest × Port) : Type 0 where
    pub goes : Goes (says s.port.party.device) s.rest s.port ys e.0 e.1
    pub asks : AsksFor ys s.port.side (peek s.machine ≡ says s.port.party.device)
    pub holds : SideHolds s.port.side s.port.own
    pub seen : s.port.others ≡ wires_of s.rest
    -- what is due after these steps is later than all of them
    pub end : (t : ℕ) → port_due e.1 ≡ Some t → AllBefore t ys

  abbrev pub AllGo : List (Station M) → List Step → List (Rest × Port) → Type 0
  AllGo [] ys [] = Unit {0}
  AllGo [] ys (e ∷ es) = ⊥
  AllGo (s ∷ ss) ys [] = ⊥
  AllGo (s ∷ ss) ys (e ∷ es) = GoesSo s ys e × AllGo ss ys es

  abbrev pub dev : Station M → ℕ
  dev s = s.port.party.device

  -- the devices, in the order of ties: each of its own, rising
  abbrev pub devs : List (Station M) → List ℕ
  devs [] = []
  devs (s ∷ ss) = dev s ∷ devs ss

  abbrev pub AllComeAfterIn : ℕ → List ℕ → Type 0
  AllComeAfterIn d [] = Unit {0}
  AllComeAfterIn d (e ∷ es) = ((place d < place e) × (nat_eq d e ≡ false) × (nat_eq e d ≡ false)) × AllComeAfterIn d es

  abbrev pub RisingIn : List ℕ → Type 0
  RisingIn [] = Unit {0}
  RisingIn (d ∷ ds) = AllComeAfterIn d ds × RisingIn ds

  abbrev pub OthersIn : ℕ → List ℕ → Type 0
  OthersIn d [] = Unit {0}
  OthersIn d (e ∷ es) = (nat_eq e d ≡ false) × OthersIn d es

  abbrev pub SitsIn : ℕ → List ℕ → Type 0
  SitsIn d [] = ⊥
  SitsIn d (e ∷ es) = (e ≡ d) ⊎ SitsIn d es

  abbrev pub AllComeAfter : ℕ → List (Station M) → Type 0
  AllComeAfter d ss = AllComeAfterIn d (devs ss)

  abbrev pub Rising : List (Station M) → Type 0
  Rising ss = RisingIn (devs ss)

  abbrev pub Others : ℕ → List (Station M) → Type 0
  Others d ss = OthersIn d (devs ss)

  abbrev SitsAmong : ℕ → List (Station M) → Type 0
  SitsAmong d ss = SitsIn d (devs ss)

  -- where more follows, no byte that isn't the last was said
  abbrev SaysIfMore : Step → List Step → Type 0
  SaysIfMore y [] = Unit {0}
  SaysIfMore y (z ∷ ys) = SaysOpen y.mark

  abbrev SaidIfMore : Option Act → List Step → Type 0
  SaidIfMore act [] = Unit {0}
  SaidIfMore act (z ∷ ys) = NoneSaid act

  if_more : (d : ℕ) (act : Option Act) (event : Event) (mark : Mark) (ys : List Step) → SaysIfMore (record { event = event; mark = mark }) ys → CountsFor d mark act → SaidIfMore act ys
  if_more d act event mark [] o c = tt
  if_more d act event mark (z ∷ ys) o c = none_said_for d mark act o c

  -- told lines it asks for the same byte
  asks_told : (s : Station M) (t : ℕ) (now : Lines) (y : Step) (ys : List Step) → AsksFor (y ∷ ys) s.port.side (peek s.machine ≡ says s.port.party.device) → told_act now s.port ≡ lined_act s.port.others now s.port.side → SaidIfMore (told_act now s.port) ys
      → AsksFor ys (lined_side s.port.party.reaction t s.port.others now s.port.side) (peek (acted M step (told_act now s.port) s.machine) ≡ says s.port.party.device)
  asks_told s t now y [] a e n = tt
  asks_told s t now y (z ∷ ys) a e n = go (told_act now s.port) refl
    where
      go : (o : Option Act) → told_act now s.port ≡ o → SideAsks (lined_side s.port.party.reaction t s.port.others now s.port.side) (peek (acted M step o s.machine) ≡ says s.port.party.device)
      go None k = side_lines_ask (peek s.machine ≡ says s.port.party.device) s.port.party.reaction t s.port.others now s.port.side a (subst (λ (v : Option Act). NoneSaid v) (sym k ∙ e) tt)
      go (Some act) k = side_said_asks (peek (step s.machine act) ≡ says s.port.party.device) s.port.party.reaction t s.port.others now s.port.side act (sym e ∙ k) (subst (λ (v : Option Act). NoneSaid v) k n)

  -- a step's drive is one of these
  abbrev pub OwnedIn : List ℕ → List Step → Type 0
  OwnedIn ds [] = Unit {0}
  OwnedIn ds (y ∷ ys) = ((d : ℕ) → y.event.who ≡ Drive d → SitsIn d ds) × OwnedIn ds ys

  -- the drive of the first step has its reaction due then
  pub sitting_due : (d : ℕ) (ss : List (Station M)) (y : Step) (ys : List Step) (es : List (Rest × Port)) → AllGo ss (y ∷ ys) es → y.event.who ≡ Drive d → SitsAmong d ss → (t : ℕ) → AllInTime M step peek t ss → t ≤ moment_of y
  sitting_due d [] y ys [] g w i t k = elim i [ ]
  sitting_due d [] y ys (e ∷ es) g w i t k = elim g [ ]
  sitting_due d (s ∷ ss) y ys [] g w i t k = elim g [ ]
  sitting_due d (s ∷ ss) y ys (e ∷ es) g w (inl i) t k = in_time (port_due s.port) k.0 (first_due (says s.port.party.device) g.0.goes (w ∙ ap (λ (v : ℕ). Drive v) (sym i)))
    where
      in_time : (o : Option ℕ) → IsInTime t o → o ≡ Some (moment_of y) → t ≤ moment_of y
      in_time None a b = absurd cc
      in_time (Some u) a b = let h : u ≡ moment_of y = cc in omega (arith, a, h)
  sitting_due d (s ∷ ss) y ys (e ∷ es) g w (inr i) t k = sitting_due d ss y ys es g.1 w i t k.1

  -- of a drive before the one that is due first it comes later
  pub sitting_later : (d : ℕ) (ss : List (Station M)) (y : Step) (ys : List Step) (es : List (Rest × Port)) → AllGo ss (y ∷ ys) es → y.event.who ≡ Drive d → SitsAmong d ss → (t : ℕ) → AllLater M step peek t ss → t < moment_of y
  sitting_later d [] y ys [] g w i t k = elim i [ ]
  sitting_later d [] y ys (e ∷ es) g w i t k = elim g [ ]
  sitting_later d (s ∷ ss) y ys [] g w i t k = elim g [ ]
  sitting_later d (s ∷ ss) y ys (e ∷ es) g w (inl i) t k = later (port_due s.port) k.0 (first_due (says s.port.party.device) g.0.goes (w ∙ ap (λ (v : ℕ). Drive v) (sym i)))
    where
      later : (o : Option ℕ) → IsLaterDue t o → o ≡ Some (moment_of y) → t < moment_of y
      later None a b = absurd cc
      later (Some u) a b = let h : u ≡ moment_of y = cc in omega (arith, a, h)
  sitting_later d (s ∷ ss) y ys (e ∷ es) g w (inr i) t k = sitting_later d ss y ys es g.1 w i t k.1

  pub sits_split : (d : ℕ) (before : List (Station M)) (o : Station M) (afterwards : List (Station M)) → SitsAmong d (before ++ o ∷ afterwards) → SitsAmong d before ⊎ ((dev o ≡ d) ⊎ SitsAmong d afterwards)
  sits_split d [] o afterwards (inl i) = inr (inl i)
  sits_split d [] o afterwards (inr i) = inr (inr i)
  sits_split d (b ∷ before) o afterwards (inl i) = inl (inl i)
  sits_split d (b ∷ before) o afterwards (inr i) = elim (sits_split d before o afterwards i) [
    | inl k ↦ inl (inr k)
    | inr k ↦ inr k
  ]

  -- the parts of what all go with
  pub record Parted (before : List (Station M)) (o : Station M) (afterwards : List (Station M)) (ys : List Step) (es : List (Rest × Port)) : Type 0 where
    pub first : List (Rest × Port)
    pub own : Rest × Port
    pub last : List (Rest × Port)
    pub is : es ≡ first ++ own ∷ last
    pub go_first : AllGo before ys first
    pub go : GoesSo o ys own
    pub go_last : AllGo afterwards ys last

  part : (before : List (Station M)) (o : Station M) (afterwards : List (Station M)) (ys : List Step) (es : List (Rest × Port)) → AllGo (before ++ o ∷ afterwards) ys es → Parted before o afterwards ys es
  part [] o afterwards ys [] g = elim g [ ]
  part [] o afterwards ys (e ∷ es) g = record { first = []; own = e; last = es; is = refl; go_first = tt; go = g.0; go_last = g.1 }
  part (b ∷ before) o afterwards ys [] g = elim g [ ]
  part (b ∷ before) o afterwards ys (e ∷ es) g =
      let k = part before o afterwards ys es g.1 in
      record { first = e ∷ k.first; own = k.own; last = k.last; is = ap (λ (v : List (Rest × Port)). e ∷ v) k.is; go_first = (g.0, k.go_first); go = k.go; go_last = k.go_last }

  joined : (before : List (Station M)) (o : Station M) (afterwards : List (Station M)) (ys : List Step) (first last : List (Rest × Port)) (own : Rest × Port) → AllGo before ys first → GoesSo o ys own → AllGo afterwards ys last → AllGo (before ++ o ∷ afterwards) ys (first ++ own ∷ last)
  joined [] o afterwards ys [] last own a b c = (b, c)
  joined [] o afterwards ys (f ∷ first) last own a b c = elim a [ ]
  joined (x ∷ before) o afterwards ys [] last own a b c = elim a [ ]
  joined (x ∷ before) o afterwards ys (f ∷ first) last own a b c = (a.0, joined before o afterwards ys first last own a.1 b c)

  pub rising_first : (before : List (Station M)) (o : Station M) (afterwards : List (Station M)) → Rising (before ++ o ∷ afterwards) → AllComeAfter (dev o) afterwards
  rising_first [] o afterwards r = r.0
  rising_first (b ∷ before) o afterwards r = rising_first before o afterwards r.1

  -- who stands before o is another
  pub others_before : (before : List (Station M)) (o : Station M) (afterwards : List (Station M)) → Rising (before ++ o ∷ afterwards) → Others (dev o) before
  others_before [] o afterwards r = tt
  others_before (b ∷ before) o afterwards r = (one before r.0, others_before before o afterwards r.1)
    where
      one : (before : List (Station M)) → AllComeAfter (dev b) (before ++ o ∷ afterwards) → nat_eq (dev b) (dev o) ≡ false
      one [] h = h.0.1
      one (x ∷ before) h = one before h.1

  pub others_after : (d : ℕ) (ss : List (Station M)) → AllComeAfter d ss → Others d ss
  others_after d [] h = tt
  others_after d (s ∷ ss) h = (h.0.2, others_after d ss h.1)

  pub sits_after : (d e : ℕ) (ss : List (Station M)) → AllComeAfter d ss → SitsAmong e ss → place d < place e
  sits_after d e [] h i = elim i [ ]
  sits_after d e (s ∷ ss) h (inl i) = subst (λ (v : ℕ). place d < place v) i h.0.0
  sits_after d e (s ∷ ss) h (inr i) = sits_after d e ss h.1 i

  -- what shows of a step of the host
  tells_next : {s : Station M} {e : Rest × Port} {y : Step} {ys : List Step} → GoesSo s (y ∷ ys) e → (c : Change) → y.event ≡ host_event c → is_atn c.line ≡ false → SaysIfMore y ys → GoesSo (tell M step peek c s) ys e
  tells_next {s} {e} {y} {ys} g c same atn left = go g.goes same g.end left
    where
      go : {y : Step} → Goes (says s.port.party.device) s.rest s.port (y ∷ ys) e.0 e.1 → y.event ≡ host_event c → ((t : ℕ) → port_due e.1 ≡ Some t → AllBefore t (y ∷ ys)) → SaysIfMore y ys → GoesSo (tell M step peek c s) ys e
      go (tells {t} {line} {way} {mark} i k f) h end left =
          let r = after_the_host c.line c.way s.rest in
          let port : told t (wires_of (after_the_host line way s.rest)) s.port ≡ told c.moment (wires_of r) s.port = ap (λ (v : Event). told v.change.moment (wires_of (after_the_host v.change.line v.change.way s.rest)) s.port) h in
          let act : told_act (wires_of (after_the_host line way s.rest)) s.port ≡ told_act (wires_of r) s.port = ap (λ (v : Event). told_act (wires_of (after_the_host v.change.line v.change.way s.rest)) s.port) h in
          let rest : after_the_host line way s.rest ≡ r = ap (λ (v : Event). after_the_host v.change.line v.change.way s.rest) h in
          let out = told_out s.port c.moment s.rest r g.seen (host_atn c.line c.way s.rest atn) in
          record {
            goes = subst (λ (v : Rest). Goes (says s.port.party.device) v (told c.moment (wires_of r) s.port) ys e.0 e.1) rest (subst (λ (v : Port). Goes (says s.port.party.device) (after_the_host line way s.rest) v ys e.0 e.1) port f);
            asks = subst (λ (v : Side). AsksFor ys v (peek (acted M step (told_act (wires_of r) s.port) s.machine) ≡ says s.port.party.device)) (sym out.0)
                (asks_told s c.moment (wires_of r) (record { event = event_of Host t line way; mark = mark }) ys g.asks out.1 (if_more s.port.party.device (told_act (wires_of r) s.port) (event_of Host t line way) mark ys left (subst (λ (o : Option Act). CountsFor s.port.party.device mark o) act k)));
            holds = subst (λ (v : Side). SideHolds v s.port.own) (sym out.0) (side_lines s.port.party.reaction c.moment s.port.others (wires_of r) s.port.side s.port.own g.holds);
            seen = refl;
            end = λ t k. (end t k).1;
          }
      go (hears {o} {t} {line} {way} a i y k f) h end left = let w : Drive o ≡ Host = ap (λ (v : Event). v.who) h in absurd cc
      go {y} (reacts u more d x sh l f) h end left =
          absurd (not_mine (dev s) u Host y ys (reaction_steps u (says (dev s)) s.port) more (ap (λ (v : Event). v.who) h) (host_drive (dev s)) (own_first (says (dev s)) s.port u sh) x)

  -- which counts what it is told
  pub told_counts : {s : Station M} {e : Rest × Port} {y : Step} {ys : List Step} → GoesSo s (y ∷ ys) e → (c : Change) → y.event ≡ host_event c → CountsFor (dev s) y.mark (told_act (wires_of (after_the_host c.line c.way s.rest)) s.port)
  told_counts {s} {e} {y} {ys} g c same = go g.goes same
    where
      go : {y : Step} → Goes (says (dev s)) s.rest s.port (y ∷ ys) e.0 e.1 → y.event ≡ host_event c → CountsFor (dev s) y.mark (told_act (wires_of (after_the_host c.line c.way s.rest)) s.port)
      go (tells {t} {line} {way} {mark} i k f) h = subst (λ (v : Event). CountsFor (dev s) mark (told_act (wires_of (after_the_host v.change.line v.change.way s.rest)) s.port)) h k
      go (hears {o} {t} {line} {way} a i y k f) h = let w : Drive o ≡ Host = ap (λ (v : Event). v.who) h in absurd cc
      go {y} (reacts u more d x sh l f) h =
          absurd (not_mine (dev s) u Host y ys (reaction_steps u (says (dev s)) s.port) more (ap (λ (v : Event). v.who) h) (host_drive (dev s)) (own_first (says (dev s)) s.port u sh) x)

  -- and of a step of another drive
  hear_next : {s : Station M} {e : Rest × Port} {ys : List Step} (o : ℕ) (c : Change) (mark : Mark) → GoesSo s (record { event = event_of (Drive o) c.moment c.line c.way; mark = mark } ∷ ys) e → nat_eq (dev s) o ≡ false
      → ((act : Option Act) → CountsFor (dev s) mark act → act ≡ None) → GoesSo (hear M step peek c s) ys e × ((hear M step peek c s).machine ≡ s.machine)
  hear_next {s} {e} {ys} o c mark g other none = go g.goes
    where
      r : Rest
      r = after_another c.line c.way s.rest

      out : ((told c.moment (wires_of (after_another c.line c.way s.rest)) s.port).side ≡ lined_side s.port.party.reaction c.moment s.port.others (wires_of (after_another c.line c.way s.rest)) s.port.side) × (told_act (wires_of (after_another c.line c.way s.rest)) s.port ≡ lined_act s.port.others (wires_of (after_another c.line c.way s.rest)) s.port.side)
      out = told_out s.port c.moment s.rest (after_another c.line c.way s.rest) g.seen (other_atn c.line c.way s.rest)

      quiet_act : (zs : List Step) (act : Option Act) → act ≡ None → SaidIfMore act zs
      quiet_act [] act k = tt
      quiet_act (z ∷ zs) act k = subst (λ (v : Option Act). NoneSaid v) (sym k) tt

      with_act : CountsFor (dev s) mark (told_act (wires_of (after_another c.line c.way s.rest)) s.port) → Goes (says (dev s)) (after_another c.line c.way s.rest) (told c.moment (wires_of (after_another c.line c.way s.rest)) s.port) ys e.0 e.1
          → GoesSo (hear M step peek c s) ys e × ((hear M step peek c s).machine ≡ s.machine)
      with_act k f = (
        record {
          goes = f;
          asks = subst (λ (v : Side). AsksFor ys v (peek (acted M step (told_act (wires_of (after_another c.line c.way s.rest)) s.port) s.machine) ≡ says (dev s))) (sym out.0)
              (asks_told s c.moment (wires_of (after_another c.line c.way s.rest)) (record { event = event_of (Drive o) c.moment c.line c.way; mark = mark }) ys g.asks out.1 (quiet_act ys (told_act (wires_of (after_another c.line c.way s.rest)) s.port) (none (told_act (wires_of (after_another c.line c.way s.rest)) s.port) k)));
          holds = subst (λ (v : Side). SideHolds v s.port.own) (sym out.0) (side_lines s.port.party.reaction c.moment s.port.others (wires_of (after_another c.line c.way s.rest)) s.port.side s.port.own g.holds);
          seen = refl;
          end = λ t k. (g.end t k).1;
        },
        ap (λ (v : Option Act). acted M step v s.machine) (none (told_act (wires_of (after_another c.line c.way s.rest)) s.port) k),
      )

      go : Goes (says (dev s)) s.rest s.port (record { event = event_of (Drive o) c.moment c.line c.way; mark = mark } ∷ ys) e.0 e.1 → GoesSo (hear M step peek c s) ys e × ((hear M step peek c s).machine ≡ s.machine)
      go (hears a i y k f) = with_act k f
      go (reacts u more d x sh l f) =
          absurd (not_mine (dev s) u (Drive o) (record { event = event_of (Drive o) c.moment c.line c.way; mark = mark }) ys (reaction_steps u (says (dev s)) s.port) more refl (another (dev s) o other) (own_first (says (dev s)) s.port u sh) x)

  not_for : (d o : ℕ) (a : Act) (act : Option Act) → nat_eq d o ≡ false → CountsFor d (For o a) act → act ≡ None
  not_for d o a act n k = k ∙ ap (λ (v : Bool). if v then Some a else None) n

  hear_steps : {e : Rest × Port} {more : List Step} (o : ℕ) (cs : List Change) (act : Option Act) {s : Station M} → GoesSo s (own_steps o cs act ++ more) e → nat_eq (dev s) o ≡ false → (own_steps o cs act ≡ [] → ⊥)
      → GoesSo (hear_all M step peek cs s) more e × ((hear_all M step peek cs s).machine ≡ s.machine)
  hear_steps o [] act g n f = absurd (f refl)
  hear_steps o (c ∷ []) None g n f = hear_next o c Plain g n (λ act k. k)
  hear_steps o (c ∷ []) (Some a) {s} g n f = hear_next o c (For o a) g n (λ act k. not_for (dev s) o a act n k)
  hear_steps o (c ∷ d ∷ []) None g n f = let x = hear_next o c Plain g n (λ act k. k) in let y = hear_next o d Plain x.0 n (λ act k. k) in (y.0, y.1 ∙ x.1)
  hear_steps o (c ∷ d ∷ []) (Some a) {s} g n f =
      let x = hear_next o c Plain g n (λ act k. k) in
      let y = hear_next o d (For o a) x.0 n (λ act k. not_for (dev s) o a act n k) in
      (y.0, y.1 ∙ x.1)
  hear_steps o (c ∷ d ∷ x ∷ cs) act g n f = absurd (f refl)

  -- the devices stay
  dev_hear : (cs : List Change) (s : Station M) → dev (hear_all M step peek cs s) ≡ dev s
  dev_hear [] s = refl
  dev_hear (c ∷ cs) s = dev_hear cs (hear M step peek c s)

  hear_list : (o : ℕ) (cs : List Change) (act : Option Act) (more : List Step) (ss : List (Station M)) (es : List (Rest × Port)) → AllGo ss (own_steps o cs act ++ more) es → Others o ss → (own_steps o cs act ≡ [] → ⊥) → AllGo (map (λ s. hear_all M step peek cs s) ss) more es
  hear_list o cs act more [] [] g n f = tt
  hear_list o cs act more [] (e ∷ es) g n f = elim g [ ]
  hear_list o cs act more (s ∷ ss) [] g n f = elim g [ ]
  hear_list o cs act more (s ∷ ss) (e ∷ es) g n f = ((hear_steps o cs act g.0 n.0 f).0, hear_list o cs act more ss es g.1 n.1 f)

  tell_list : (c : Change) (y : Step) (ys : List Step) (ss : List (Station M)) (es : List (Rest × Port)) → AllGo ss (y ∷ ys) es → y.event ≡ host_event c → is_atn c.line ≡ false → SaysIfMore y ys → AllGo (map (λ s. tell M step peek c s) ss) ys es
  tell_list c y ys [] [] g h a o = tt
  tell_list c y ys [] (e ∷ es) g h a o = elim g [ ]
  tell_list c y ys (s ∷ ss) [] g h a o = elim g [ ]
  tell_list c y ys (s ∷ ss) (e ∷ es) g h a o = (tells_next g.0 c h a o, tell_list c y ys ss es g.1 h a o)

  -- and their machines run what counts
  pub ran_tell : (ms : ℕ → M) (done : List Step) (c : Change) (y : Step) (ys : List Step) (ss : List (Station M)) (es : List (Rest × Port)) → AllGo ss (y ∷ ys) es → y.event ≡ host_event c
      → AllRan M step peek ms done ss → AllRan M step peek ms (done ++ y ∷ []) (map (λ s. tell M step peek c s) ss)
  ran_tell ms done c y ys [] es g h r = tt
  ran_tell ms done c y ys (s ∷ ss) [] g h r = elim g [ ]
  ran_tell ms done c y ys (s ∷ ss) (e ∷ es) g h r =
      let act = told_act (wires_of (after_the_host c.line c.way s.rest)) s.port in
      let k = told_counts g.0 c h in
      (run_on M step peek s.machine (ms (dev s)) (dev s) done (y ∷ []) act r.0 (λ x. mark_acted M step peek (dev s) y.mark act x k), ran_tell ms done c y ys ss es g.1 h r.1)

  ran_hear : (ms : ℕ → M) (done : List Step) (o : ℕ) (cs : List Change) (act : Option Act) (more : List Step) (ss : List (Station M)) (es : List (Rest × Port)) → AllGo ss (own_steps o cs act ++ more) es → Others o ss → (own_steps o cs act ≡ [] → ⊥)
      → AllRan M step peek ms done ss → AllRan M step peek ms (done ++ own_steps o cs act) (map (λ s. hear_all M step peek cs s) ss)
  ran_hear ms done o cs act more [] es g n f r = tt
  ran_hear ms done o cs act more (s ∷ ss) [] g n f r = elim g [ ]
  ran_hear ms done o cs act more (s ∷ ss) (e ∷ es) g n f r = (
    (hear_steps o cs act g.0 n.0 f).1 ∙ subst (λ (d : ℕ). s.machine ≡ run_acts M step peek (ms d) (acts_for d (done ++ own_steps o cs act))) (sym (dev_hear cs s)) (run_other M step peek s.machine (ms (dev s)) (dev s) o done cs act n.0 r.0),
    ran_hear ms done o cs act more ss es g.1 n.1 f r.1,
  )

  devs_hear : (cs : List Change) (ss : List (Station M)) → devs (map (λ s. hear_all M step peek cs s) ss) ≡ devs ss
  devs_hear cs [] = refl
  devs_hear cs (s ∷ ss) = ap (λ (v : ℕ). v ∷ devs (map (λ x. hear_all M step peek cs x) ss)) (dev_hear cs s) ∙ ap (λ (v : List ℕ). dev s ∷ v) (devs_hear cs ss)

  pub devs_tell : (c : Change) (ss : List (Station M)) → devs (map (λ s. tell M step peek c s) ss) ≡ devs ss
  devs_tell c [] = refl
  devs_tell c (s ∷ ss) = ap (λ (v : List ℕ). dev s ∷ v) (devs_tell c ss)

  devs_append : (xs ys : List (Station M)) → devs (xs ++ ys) ≡ devs xs ++ devs ys
  devs_append [] ys = refl
  devs_append (x ∷ xs) ys = ap (λ (v : List ℕ). dev x ∷ v) (devs_append xs ys)

  pub devs_react : (t : ℕ) (before : List (Station M)) (o : Station M) (afterwards : List (Station M)) → devs (reacting M step peek t before o afterwards) ≡ devs (before ++ o ∷ afterwards)
  devs_react t before o afterwards =
      let cs = shown M step peek t o in
      devs_append (map (λ s. hear_all M step peek cs s) before) (react M step peek t o ∷ map (λ s. hear_all M step peek cs s) afterwards)
      ∙ ap (λ (v : List ℕ). v ++ dev o ∷ devs (map (λ s. hear_all M step peek cs s) afterwards)) (devs_hear cs before)
      ∙ ap (λ (v : List ℕ). devs before ++ dev o ∷ v) (devs_hear cs afterwards)
      ∙ sym (devs_append before (o ∷ afterwards))

  host_weaken : (t u : ℕ) (ss : List Step) → t ≤ u → HostFrom u ss → HostFrom t ss
  host_weaken t u [] l h = tt
  host_weaken t u (s ∷ ss) l h = (λ k. let a = h.0 k in omega (arith, l, a), host_weaken t u ss l h.1)

  -- The reaction that is due first, where a drive's step comes next: it is that step, and all go on.
  pub record Reacted (t : ℕ) (before : List (Station M)) (o : Station M) (afterwards : List (Station M)) (ys : List Step) (es : List (Rest × Port)) : Type 0 where
    pub own : List Step
    pub more : List Step
    pub steps : ys ≡ own ++ more
    pub events : events_of own ≡ drive_events (dev o) (shown M step peek t o)
    pub goes : AllGo (reacting M step peek t before o afterwards) more es
    pub ran : RanOn M step peek (before ++ o ∷ afterwards) own (reacting M step peek t before o afterwards)

  reaction_goes : (t : ℕ) (before : List (Station M)) (o : Station M) (afterwards : List (Station M)) (y : Step) (ys : List Step) (es : List (Rest × Port)) (d : ℕ) → AllGo (before ++ o ∷ afterwards) (y ∷ ys) es → IsFirst M step peek t before o afterwards
      → y.event.who ≡ Drive d → Rising (before ++ o ∷ afterwards) → LastSaid (y ∷ ys) → GoesOn (y ∷ ys) → InOrder (y ∷ ys) → Tied place (y ∷ ys) → OwnedIn (devs (before ++ o ∷ afterwards)) (y ∷ ys) → Reacted t before o afterwards (y ∷ ys) es
  reaction_goes t before o afterwards y ys es d g f w rising last goes order tied owned =
      let k = part before o afterwards (y ∷ ys) es g in
      let q = o.port in
      let m = o.machine in
      let a = says (dev o) in
      let late : t ≤ moment_of y = sitting_due d (before ++ o ∷ afterwards) y ys es g w (owned.0 d w) t (all_in_time M step peek t before o afterwards f) in
      let none : NoneBefore t (y ∷ ys) = (late, none_sooner t (moment_of y) ys late order.0) in
      let after_that : HostFrom (suc (moment_of y)) ys = host_after_drive d (moment_of y) ys (subst (λ (v : Who). AllAfter v (moment_of y) ys) w goes.0) in
      let host : HostFrom (suc t) (y ∷ ys) = (not_host, host_weaken (suc t) (suc (moment_of y)) ys (omega (arith, late)) after_that) in
      let x = reacts_next a place k.go.goes t f.due (λ e. let b = (k.go.end t e).0 in absurd (omega (arith, b, late))) host none tied (first_place k.first k.go_first) in
      let vis = side_react _ q.party.reaction t q.others a q.side q.own f.due k.go.holds in
      let act_of = reaction_act a q in
      let some : reaction_steps t a q ≡ [] → ⊥ = no_steps t a q vis.1 in
      let l2 : LastSaid (reaction_steps t a q ++ x.more) = subst LastSaid x.steps last in
      let asked : SideAsks q.side (peek m ≡ a) = k.go.asks in
      let changes : reaction_changes t a q ≡ shown M step peek t o = sym (same_changes t (peek m) a q asked) in
      let hears_all : (ss : List (Station M)) (fs : List (Rest × Port)) → AllGo ss (y ∷ ys) fs → Others (dev o) ss → AllGo (map (λ s. hear_all M step peek (shown M step peek t o) s) ss) x.more fs =
      λ ss fs h n. subst (λ (cs : List Change). AllGo (map (λ s. hear_all M step peek cs s) ss) x.more fs) changes (hear_list (dev o) (reaction_changes t a q) act_of x.more ss fs (subst (λ (v : List Step). AllGo ss v fs) x.steps h) n some) in
      let own : GoesSo (react M step peek t o) x.more k.own = record {
        goes = subst (λ (v : Port). Goes a o.rest v x.more k.own.0 k.own.1) (sym (same_reacted t (peek m) a q asked)) x.goes;
        asks = go_asks x.more asked l2 some;
        holds = (side_react _ q.party.reaction t q.others (peek m) q.side q.own f.due k.go.holds).0;
        seen = k.go.seen;
        end = λ u e. before_after u (reaction_steps t a q) x.more (subst (λ (v : List Step). AllBefore u v) x.steps (k.go.end u e));
      } in
      record {
        own = reaction_steps t a q;
        more = x.more;
        steps = x.steps;
        events = reaction_events a t q ∙ ap (λ (cs : List Change). drive_events (dev o) cs) changes;
        goes = subst (λ (v : List (Rest × Port)). AllGo (reacting M step peek t before o afterwards) x.more v) (sym k.is)
            (joined (map (λ s. hear_all M step peek (shown M step peek t o) s) before) (react M step peek t o) (map (λ s. hear_all M step peek (shown M step peek t o) s) afterwards) x.more k.first k.last k.own
            (hears_all before k.first k.go_first (others_before before o afterwards rising)) own (hears_all afterwards k.last k.go_last (others_after (dev o) afterwards (rising_first before o afterwards rising))));
        ran = record {
          runs = λ ms done h.
              let parts = ran_before M step peek ms done before o afterwards h in
              let same : reaction_act (peek m) q ≡ act_of = side_same_act _ q.others (peek m) a q.side asked in
              let mine : HasRun M step peek ms (done ++ reaction_steps t a q) (react M step peek t o) =
              ap (λ (v : Option Act). acted M step v m) same ∙ run_on M step peek m (ms (dev o)) (dev o) done (reaction_steps t a q) act_of parts.1 (λ x. own_acted M step peek (dev o) (reaction_changes t a q) act_of x some) in
              let hear : (ss : List (Station M)) (fs : List (Rest × Port)) → AllGo ss (y ∷ ys) fs → Others (dev o) ss → AllRan M step peek ms done ss → AllRan M step peek ms (done ++ reaction_steps t a q) (map (λ s. hear_all M step peek (shown M step peek t o) s) ss) =
              λ ss fs g2 n r. subst (λ (cs : List Change). AllRan M step peek ms (done ++ reaction_steps t a q) (map (λ s. hear_all M step peek cs s) ss)) changes (ran_hear ms done (dev o) (reaction_changes t a q) act_of x.more ss fs (subst (λ (v : List Step). AllGo ss v fs) x.steps g2) n some r) in
              ran_joined M step peek ms (done ++ reaction_steps t a q) (map (λ s. hear_all M step peek (shown M step peek t o) s) before) (react M step peek t o) (map (λ s. hear_all M step peek (shown M step peek t o) s) afterwards)
              (hear before k.first k.go_first (others_before before o afterwards rising) parts.0) mine (hear afterwards k.last k.go_last (others_after (dev o) afterwards (rising_first before o afterwards rising)) parts.2);
        };
      }
    where
      not_host : Rattle.cbm_session.specs.Timing.is_host y.event.who ≡ true → suc t ≤ moment_of y
      not_host k = let n : Rattle.cbm_session.specs.Timing.is_host (Drive d) ≡ true = subst (λ (v : Who). Rattle.cbm_session.specs.Timing.is_host v ≡ true) w k in absurd cc

      first_place : (first : List (Rest × Port)) → AllGo before (y ∷ ys) first → (s : Step) (more : List Step) (e : ℕ) → y ∷ ys ≡ s ∷ more → s.event.who ≡ Drive e → nat_eq (dev o) e ≡ false → moment_of s ≡ t → place (dev o) < place e
      first_place first g1 s more e same u other at =
          let is : y ≡ s = cc in
          let who : y.event.who ≡ Drive e = ap (λ (v : Step). v.event.who) is ∙ u in
          let now : moment_of y ≡ t = ap (λ (v : Step). moment_of v) is ∙ at in
          elim (sits_split e before o afterwards (owned.0 e who)) [
            | inl i ↦ (let l = sitting_later e before y ys first g1 who i t f.later in absurd (omega (arith, l, now)))
            | inr i ↦ elim i [
              | inl j ↦ (let yes : nat_eq (dev o) e ≡ true = eq-eqb (dev o) e j in let no : true ≡ false = sym yes ∙ other in absurd cc)
              | inr j ↦ sits_after (dev o) e afterwards (rising_first before o afterwards rising) j
            ]
          ]

      open_act : SideAsks o.port.side (peek o.machine ≡ says (dev o)) → (v : Option Act) → reaction_act (says (dev o)) o.port ≡ v → NoneSaid v → SideAsks (next_side t (says (dev o)) o.port) (peek (acted M step v o.machine) ≡ says (dev o))
      open_act asked None x n = side_react_asks _ (peek o.machine ≡ says (dev o)) o.port.party.reaction t o.port.others (says (dev o)) o.port.side asked (subst (λ (v : Option Act). NoneSaid v) (sym x) tt)
      open_act asked (Some act) x n = side_acted_asks _ (peek (step o.machine act) ≡ says (dev o)) o.port.party.reaction t o.port.others (says (dev o)) o.port.side act x n

      go_asks : (zs : List Step) → SideAsks o.port.side (peek o.machine ≡ says (dev o)) → LastSaid (reaction_steps t (says (dev o)) o.port ++ zs) → (reaction_steps t (says (dev o)) o.port ≡ [] → ⊥)
          → AsksFor zs (react M step peek t o).port.side (peek (react M step peek t o).machine ≡ says (dev o))
      go_asks [] asked l some = tt
      go_asks (z ∷ zs) asked l some =
          let act = reaction_act (says (dev o)) o.port in
          let same : reaction_act (peek o.machine) o.port ≡ act = side_same_act _ o.port.others (peek o.machine) (says (dev o)) o.port.side asked in
          let side : next_side t (peek o.machine) o.port ≡ next_side t (says (dev o)) o.port = side_same_after _ o.port.party.reaction t o.port.others (peek o.machine) (says (dev o)) o.port.side asked in
          let n : NoneSaid act = last_open (dev o) (reaction_changes t (says (dev o)) o.port) act z zs l some in
          subst (λ (v : Side). SideAsks v (peek (acted M step (reaction_act (peek o.machine) o.port) o.machine) ≡ says (dev o))) (sym side)
          (subst (λ (v : Option Act). SideAsks (next_side t (says (dev o)) o.port) (peek (acted M step v o.machine) ≡ says (dev o))) (sym same) (open_act asked act refl n))

  -- What came of it: the events are a front of the piece, and all go on with its back; or the piece was played, and more.
  pub record WithinAll (from : List (Station M)) (ys : List Step) (fin : List (Rest × Port)) (es rest : List Event) (ss : List (Station M)) : Type 0 where
    pub front : List Step
    pub back : List Step
    pub parts : ys ≡ front ++ back
    pub shown_so : events_of front ≡ es
    pub goes : AllGo ss back fin
    pub meets : Compat back rest
    pub ran : RanOn M step peek from front ss

  pub record PassedAll (from : List (Station M)) (ys : List Step) (fin : List (Rest × Port)) (es : List Event) (n2 : ℕ) (ss2 : List (Station M)) : Type 0 where
    pub more : List Event
    pub now : ℕ
    pub there : List (Station M)
    pub shown_so : es ≡ events_of ys ++ more
    pub plays : Plays M step peek now there more n2 ss2
    pub goes : AllGo there [] fin
    pub ran : RanOn M step peek from ys there

  host_in_time : {s : Station M} {e : Rest × Port} {y : Step} {ys : List Step} → GoesSo s (y ∷ ys) e → y.event.who ≡ Host → IsInTime (moment_of y) (port_due s.port)
  host_in_time {s} {e} {y} {ys} g w = go g.goes w
    where
      go : {y : Step} → Goes (says (dev s)) s.rest s.port (y ∷ ys) e.0 e.1 → y.event.who ≡ Host → IsInTime (moment_of y) (port_due s.port)
      go (tells i k f) h = i
      go (hears a i y k f) h = i
      go {y} (reacts u more d x sh l f) h =
          let first = first_shown (dev s) u s.port.own (next_held (says (dev s)) s.port) sh in
          let own = subst (λ (v : List Event). FirstIs (dev s) u v) (sym (reaction_events (says (dev s)) u s.port)) first in
          absurd (mine (reaction_steps u (says (dev s)) s.port) more own x h)
        where
          mine : {y : Step} (rs more : List Step) → FirstIs (dev s) u (events_of rs) → y ∷ ys ≡ rs ++ more → y.event.who ≡ Host → ⊥
          mine [] more f e h = elim f [ ]
          mine {y} (x ∷ rs) more f e h =
              let same : y ≡ x = cc in
              let w : Host ≡ Drive (dev s) = sym h ∙ ap (λ (v : Step). v.event.who) same ∙ f.0 in
              cc

  says_left : (y : Step) (ys : List Step) → LastSaid (y ∷ ys) → SaysIfMore y ys
  says_left y [] l = tt
  says_left y (z ∷ ys) l = l.0

  pub owned_after : (ds : List ℕ) (xs ys : List Step) → OwnedIn ds (xs ++ ys) → OwnedIn ds ys
  owned_after ds [] ys h = h
  owned_after ds (x ∷ xs) ys h = owned_after ds xs ys h.1

  -- what is asked of a piece: no change of ATN, a byte that isn't the last is said at its end alone, in order, also of ties, and by drives of the bus
  pub record IsPlain (ds : List ℕ) (ys : List Step) : Type 0 where
    pub noatn : NoAtn ys
    pub last : LastSaid ys
    pub goes_on : GoesOn ys
    pub order : InOrder ys
    pub tied : Tied place ys
    pub owned : OwnedIn ds ys

  pub plain_after : (ds : List ℕ) (xs ys : List Step) → IsPlain ds (xs ++ ys) → IsPlain ds ys
  plain_after ds xs ys h = record { noatn = noatn_after xs ys h.noatn; last = last_after_it xs ys h.last; goes_on = goes_after xs ys h.goes_on; order = order_after xs ys h.order; tied = tied_after place xs ys h.tied; owned = owned_after ds xs ys h.owned }

  pub along_bus : {n n2 : ℕ} {ss ss2 : List (Station M)} {es : List Event} → Plays M step peek n ss es n2 ss2 → (ys : List Step) (fin : List (Rest × Port)) → AllGo ss ys fin → Rising ss → IsPlain (devs ss) ys → (rest : List Event) → Compat ys (es ++ rest)
      → WithinAll ss ys fin es rest ss2 ⊎ PassedAll ss ys fin es n2 ss2
  along_bus {n} {n2} {ss} {ss2} {es} p [] fin g r a rest c = inr (record { more = es; now = n; there = ss; shown_so = refl; plays = p; goes = g; ran = ran_stays M step peek refl })
  along_bus {n} {n2} {ss} {ss2} {es} (stays b e k f) (y ∷ ys) fin g r a rest c =
      inl (record { front = []; back = y ∷ ys; parts = refl; shown_so = sym e; goes = subst (λ (v : List (Station M)). AllGo v (y ∷ ys) fin) (sym f) g; meets = subst (λ (v : List Event). Compat (y ∷ ys) (v ++ rest)) e c; ran = ran_stays M step peek f })
  along_bus {n} {n2} {ss} {ss2} {es} (change x more b l i e p) (y ∷ ys) fin g r a rest c =
      let c2 : Compat (y ∷ ys) (host_event x ∷ (more ++ rest)) = subst (λ (v : List Event). Compat (y ∷ ys) (v ++ rest)) e c in
      let keep = devs_tell x ss in
      let next : (same : y.event ≡ host_event x) → WithinAll (map (λ s. tell M step peek x s) ss) ys fin more rest ss2 ⊎ PassedAll (map (λ s. tell M step peek x s) ss) ys fin more n2 ss2 =
      λ same. along_bus p ys fin (tell_list x y ys ss fin g same (ap (λ (v : Event). is_atn v.change.line) (sym same) ∙ a.noatn.0) (says_left y ys a.last)) (subst RisingIn (sym keep) r)
      (subst (λ (v : List ℕ). IsPlain v ys) (sym keep) (plain_after (devs ss) (y ∷ []) ys a)) rest (c2.1 same) in
      by_who y.event.who refl c2 next
    where
      ran_first : y.event ≡ host_event x → RanOn M step peek ss (y ∷ []) (map (λ s. tell M step peek x s) ss)
      ran_first same = record { runs = λ ms done h. ran_tell ms done x y ys ss fin g same h }

      with_host : (same : y.event ≡ host_event x) → WithinAll (map (λ s. tell M step peek x s) ss) ys fin more rest ss2 ⊎ PassedAll (map (λ s. tell M step peek x s) ss) ys fin more n2 ss2 → WithinAll ss (y ∷ ys) fin es rest ss2 ⊎ PassedAll ss (y ∷ ys) fin es n2 ss2
      with_host same (inl w) = inl (record { front = y ∷ w.front; back = w.back; parts = ap (λ (v : List Step). y ∷ v) w.parts; shown_so = ap (λ (v : Event). v ∷ events_of w.front) same ∙ ap (λ (v : List Event). host_event x ∷ v) w.shown_so ∙ sym e; goes = w.goes; meets = w.meets; ran = ran_then M step peek (ran_first same) w.ran })
      with_host same (inr w) = inr (record { more = w.more; now = w.now; there = w.there; shown_so = e ∙ ap (λ (v : List Event). host_event x ∷ v) w.shown_so ∙ ap (λ (v : Event). v ∷ (events_of ys ++ w.more)) (sym same); plays = w.plays; goes = w.goes; ran = ran_then M step peek (ran_first same) w.ran })

      by_who : (w : Who) → y.event.who ≡ w → Compat (y ∷ ys) (host_event x ∷ (more ++ rest)) → ((same : y.event ≡ host_event x) → WithinAll (map (λ s. tell M step peek x s) ss) ys fin more rest ss2 ⊎ PassedAll (map (λ s. tell M step peek x s) ss) ys fin more n2 ss2)
          → WithinAll ss (y ∷ ys) fin es rest ss2 ⊎ PassedAll ss (y ∷ ys) fin es n2 ss2
      by_who Host w d next = let same : y.event ≡ host_event x = subst (λ (v : Who). Meets v (moment_of y) Host x.moment (y.event ≡ host_event x)) w d.0 in with_host same (next same)
      by_who (Drive o) w d next =
          let soon : moment_of y < x.moment = subst (λ (v : Who). Meets v (moment_of y) Host x.moment (y.event ≡ host_event x)) w d.0 in
          let late = sitting_due o ss y ys fin g w (a.owned.0 o w) x.moment i in
          absurd (omega (arith, soon, late))
  along_bus {n} {n2} {ss} {ss2} {es} (reaction t before o afterwards more b u f e p) (y ∷ ys) fin g r a rest c =
      let g2 : AllGo (before ++ o ∷ afterwards) (y ∷ ys) fin = subst (λ (v : List (Station M)). AllGo v (y ∷ ys) fin) u g in
      let r2 : Rising (before ++ o ∷ afterwards) = subst (λ (v : List (Station M)). Rising v) u r in
      let a2 : IsPlain (devs (before ++ o ∷ afterwards)) (y ∷ ys) = subst (λ (v : List (Station M)). IsPlain (devs v) (y ∷ ys)) u a in
      let keep = devs_react t before o afterwards in
      let next : (x : Reacted t before o afterwards (y ∷ ys) fin) → WithinAll (reacting M step peek t before o afterwards) x.more fin more rest ss2 ⊎ PassedAll (reacting M step peek t before o afterwards) x.more fin more n2 ss2 =
      λ x. along_bus p x.more fin x.goes (subst RisingIn (sym keep) r2) (subst (λ (v : List ℕ). IsPlain v x.more) (sym keep) (plain_after (devs (before ++ o ∷ afterwards)) x.own x.more (subst (λ (v : List Step). IsPlain (devs (before ++ o ∷ afterwards)) v) x.steps a2))) rest
      (compat_skip x.own x.more (more ++ rest) (subst (λ (v : List Event). Compat (x.own ++ x.more) v) (ap (λ (v : List Event). v ++ rest) e ∙ append_assoc (drive_events (dev o) (shown M step peek t o)) more rest ∙ ap (λ (v : List Event). v ++ (more ++ rest)) (sym x.events))
      (subst (λ (v : List Step). Compat v (es ++ rest)) x.steps c))) in
      by_who y.event.who refl g2 r2 a2 next
    where
      joined_so : (x : Reacted t before o afterwards (y ∷ ys) fin) → WithinAll (reacting M step peek t before o afterwards) x.more fin more rest ss2 ⊎ PassedAll (reacting M step peek t before o afterwards) x.more fin more n2 ss2 → WithinAll ss (y ∷ ys) fin es rest ss2 ⊎ PassedAll ss (y ∷ ys) fin es n2 ss2
      joined_so x (inl w) = inl (record {
        front = x.own ++ w.front;
        back = w.back;
        parts = x.steps ∙ ap (λ (v : List Step). x.own ++ v) w.parts ∙ sym (append_assoc x.own w.front w.back);
        shown_so = events_append x.own w.front ∙ ap (λ (v : List Event). v ++ events_of w.front) x.events ∙ ap (λ (v : List Event). drive_events (dev o) (shown M step peek t o) ++ v) w.shown_so ∙ sym e;
        goes = w.goes;
        meets = w.meets;
        ran = subst (λ (v : List (Station M)). RanOn M step peek v (x.own ++ w.front) ss2) (sym u) (ran_then M step peek x.ran w.ran);
      })
      joined_so x (inr w) = inr (record {
        more = w.more;
        now = w.now;
        there = w.there;
        shown_so = e ∙ ap (λ (v : List Event). drive_events (dev o) (shown M step peek t o) ++ v) w.shown_so ∙ ap (λ (v : List Event). v ++ (events_of x.more ++ w.more)) (sym x.events)
            ∙ sym (append_assoc (events_of x.own) (events_of x.more) w.more) ∙ ap (λ (v : List Event). v ++ w.more) (sym (events_append x.own x.more)) ∙ ap (λ (v : List Step). events_of v ++ w.more) (sym x.steps);
        plays = w.plays;
        goes = w.goes;
        ran = subst (λ (v : List (Station M)). RanOn M step peek v (y ∷ ys) w.there) (sym u) (subst (λ (v : List Step). RanOn M step peek (before ++ o ∷ afterwards) v w.there) (sym x.steps) (ran_then M step peek x.ran w.ran));
      })

      by_who : (w : Who) → y.event.who ≡ w → AllGo (before ++ o ∷ afterwards) (y ∷ ys) fin → Rising (before ++ o ∷ afterwards) → IsPlain (devs (before ++ o ∷ afterwards)) (y ∷ ys)
          → ((x : Reacted t before o afterwards (y ∷ ys) fin) → WithinAll (reacting M step peek t before o afterwards) x.more fin more rest ss2 ⊎ PassedAll (reacting M step peek t before o afterwards) x.more fin more n2 ss2) → WithinAll ss (y ∷ ys) fin es rest ss2 ⊎ PassedAll ss (y ∷ ys) fin es n2 ss2
      by_who Host w g2 r2 a2 next =
          let k = part before o afterwards (y ∷ ys) fin g2 in
          let vis = side_react _ o.port.party.reaction t o.port.others (peek o.machine) o.port.side o.port.own f.due k.go.holds in
          let first = first_shown (dev o) t o.port.own (next_held (peek o.machine) o.port) vis.1 in
          let all = first_append (dev o) t (drive_events (dev o) (shown M step peek t o)) more first in
          let whole = first_append (dev o) t es rest (subst (λ (v : List Event). FirstIs (dev o) t v) (sym e) all) in
          absurd (host_first (dev o) t y ys (es ++ rest) w (in_time_at (moment_of y) t (port_due o.port) (host_in_time k.go w) f.due) whole c)
      by_who (Drive d) w g2 r2 a2 next = let x = reaction_goes t before o afterwards y ys fin d g2 f w r2 a2.last a2.goes_on a2.order a2.tied a2.owned in joined_so x (next x)

  -- Inside a piece whose host changes nothing up to t, the reaction that is due first at t comes next.
  pub next_inside : (t : ℕ) (before : List (Station M)) (o : Station M) (afterwards : List (Station M)) (y : Step) (ys : List Step) (fin : List (Rest × Port)) → AllGo (before ++ o ∷ afterwards) (y ∷ ys) fin → IsFirst M step peek t before o afterwards
      → HostFrom (suc t) (y ∷ ys) → Rising (before ++ o ∷ afterwards) → LastSaid (y ∷ ys) → GoesOn (y ∷ ys) → InOrder (y ∷ ys) → Tied place (y ∷ ys) → OwnedIn (devs (before ++ o ∷ afterwards)) (y ∷ ys) → Reacted t before o afterwards (y ∷ ys) fin
  next_inside t before o afterwards y ys fin g f h rising last goes_on order tied owned = by_who y.event.who refl
    where
      by_who : (w : Who) → y.event.who ≡ w → Reacted t before o afterwards (y ∷ ys) fin
      by_who Host w =
          let k = part before o afterwards (y ∷ ys) fin g in
          let soon = in_time_at (moment_of y) t (port_due o.port) (host_in_time k.go w) f.due in
          let late = h.0 (ap (λ (v : Who). Rattle.cbm_session.specs.Timing.is_host v) w) in
          absurd (omega (arith, soon, late))
      by_who (Drive d) w = reaction_goes t before o afterwards y ys fin d g f w rising last goes_on order tied owned

  -- and no drive's change comes before what is due
  pub soon_inside : (d t : ℕ) (ss : List (Station M)) (y : Step) (ys : List Step) (fin : List (Rest × Port)) → AllGo ss (y ∷ ys) fin → AllInTime M step peek t ss → IsPlain (devs ss) (y ∷ ys) → y.event.who ≡ Drive d → t ≤ moment_of y
  soon_inside d t ss y ys fin g i plain w = sitting_due d ss y ys fin g w (plain.owned.0 d w) t i
