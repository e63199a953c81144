-- A bus at work: each drive on the wires with the machine above it, under a list of timed changes of the host.
use Rattle.std.specs.Prelude.{◌≡◌, ℕ, zero, suc, ◌≤◌, ◌<◌, Bool, false, List, [], ◌∷◌, ◌++◌, map, Option, Some, None}
use Rattle.cbm_iec.specs.Machines.{acted}
use Rattle.cbm_iec.specs.Ports.{resting, port_due, told, told_act, reacted, reaction_act, reaction_changes}
use Rattle.cbm_iec.specs.declared.machine.Act.TheVariants.{Said}
use Rattle.cbm_iec.specs.declared.machine.Act.{Act}
use Rattle.cbm_iec.specs.declared.event.Event.{Event}
use Rattle.cbm_iec.specs.declared.event.Who.TheVariants.{Host, Drive}
use Rattle.cbm_iec.specs.declared.lines.Change.{Change}
use Rattle.cbm_iec.specs.declared.party.Party.{Party}
use Rattle.cbm_iec.specs.declared.port.Port.{Port}
use Rattle.cbm_session.specs.Among.{Rest, wires_of, after_another, after_the_host}
use Rattle.cbm_session.specs.Answers.{Run, Allowed}
use Rattle.cbm_session.specs.Following.{IsInTime}
use Rattle.cbm_session.specs.Pieces.{Piece}
use Rattle.cbm_session.specs.Sessions.{rest, Splits, IsBus}
use Rattle.cbm_session.specs.Steps.{Step, events_of, acts_for}
use Rattle.cbm_session.specs.Timing.{IsLate, HostKeeps}

-- nothing is due at or before this moment
abbrev pub IsLaterDue : ℕ → Option ℕ → Type 0
IsLaterDue moment None = Unit {0}
IsLaterDue moment (Some t) = moment < t

-- a drive at work: its port, what all others hold, and its machine
pub record Station (M : Type 0) : Type 0 where
  pub port : Port
  pub rest : Rest
  pub machine : M

-- a change of the host as an event
abbrev pub host_event : Change → Event
host_event c = record { who = Host; change = c }

-- changes of the drive of this device number as events
abbrev pub drive_events : ℕ → List Change → List Event
drive_events d [] = []
drive_events d (c ∷ cs) = (record { who = Drive d; change = c }) ∷ drive_events d cs

-- no other party holds a line
abbrev pub nobody : Rest
nobody = record { host = record { atn_low = false; clock_low = false; data_low = false }; clocks = zero; datas = zero }

module _ (M : Type 0) (step : M → Act → M) (peek : M → Option (ℕ × Bool)) where
  -- a drive that is told what all others hold now: the change goes to its port, the act that counts with it to its machine
  abbrev pub told_lines : ℕ → Rest → Station M → Station M
  told_lines t r s = record { port = told t (wires_of r) s.port; rest = r; machine = acted M step (told_act (wires_of r) s.port) s.machine }

  -- a drive after a change of the host
  abbrev pub tell : Change → Station M → Station M
  tell c s = told_lines c.moment (after_the_host c.line c.way s.rest) s

  -- a drive after a change of another drive
  abbrev pub hear : Change → Station M → Station M
  hear c s = told_lines c.moment (after_another c.line c.way s.rest) s

  -- a drive after changes of another drive, one after the other
  abbrev pub hear_all : List Change → Station M → Station M
  hear_all [] s = s
  hear_all (c ∷ cs) s = hear_all cs (hear c s)

  -- a drive after its reaction that is due at this moment
  abbrev pub react : ℕ → Station M → Station M
  react t s = record { port = reacted t (peek s.machine) s.port; rest = s.rest; machine = acted M step (reaction_act (peek s.machine) s.port) s.machine }

  -- the changes of its lines that this reaction makes
  abbrev pub shown : ℕ → Station M → List Change
  shown t s = reaction_changes t (peek s.machine) s.port

  -- no reaction of these drives is due before a moment
  abbrev pub AllInTime : ℕ → List (Station M) → Type 0
  AllInTime t [] = Unit {0}
  AllInTime t (s ∷ ss) = IsInTime t (port_due s.port) × AllInTime t ss

  -- no reaction of these drives is due at or before a moment
  abbrev pub AllLater : ℕ → List (Station M) → Type 0
  AllLater t [] = Unit {0}
  AllLater t (s ∷ ss) = IsLaterDue t (port_due s.port) × AllLater t ss

  -- the reaction of this drive is due first: sooner than those of the drives before it, not later than those of the drives after it
  pub record IsFirst (t : ℕ) (before : List (Station M)) (o : Station M) (afterwards : List (Station M)) : Type 0 where
    pub due : port_due o.port ≡ Some t
    pub later : AllLater t before
    pub in_time : AllInTime t afterwards

  -- the drives after the reaction of one of them: all others have heard its changes
  abbrev pub reacting : ℕ → List (Station M) → Station M → List (Station M) → List (Station M)
  reacting t before o afterwards = map (λ s. hear_all (shown t o) s) before ++ react t o ∷ map (λ s. hear_all (shown t o) s) afterwards

  -- a machine has a byte to say, or nothing
  abbrev pub IsByte : Option (ℕ × Bool) → Type 0
  IsByte None = Unit {0}
  IsByte (Some x) = x.0 < 256

  -- what each of these drives has to say is a byte
  abbrev pub AllBytes : List (Station M) → Type 0
  AllBytes [] = Unit {0}
  AllBytes (s ∷ ss) = IsByte (peek s.machine) × AllBytes ss

  -- From these drives these events come, one after the other, and then the drives stand so. The numbers are moments before which the host changes nothing more.
  -- A change of the host comes where nothing is due before it; the reaction that is due first comes before each later change of the host. It may show nothing.
  pub data Plays : ℕ → List (Station M) → List Event → ℕ → List (Station M) → Type 0 where
    stays : {n n2 : ℕ} {ss ss2 : List (Station M)} {es : List Event} → AllBytes ss → es ≡ [] → n2 ≡ n → ss2 ≡ ss → Plays n ss es n2 ss2
    change : {n n2 : ℕ} {ss ss2 : List (Station M)} {es : List Event} (c : Change) (more : List Event) → AllBytes ss → n ≤ c.moment → AllInTime c.moment ss
        → es ≡ host_event c ∷ more → Plays c.moment (map (λ s. tell c s) ss) more n2 ss2 → Plays n ss es n2 ss2
    reaction : {n n2 : ℕ} {ss ss2 : List (Station M)} {es : List Event} (t : ℕ) (before : List (Station M)) (o : Station M) (afterwards : List (Station M)) (more : List Event) → AllBytes ss → ss ≡ before ++ o ∷ afterwards
        → IsFirst t before o afterwards → es ≡ drive_events o.port.party.device (shown t o) ++ more → Plays (suc t) (reacting t before o afterwards) more n2 ss2 → Plays n ss es n2 ss2

  -- drives from rest: all lines are free, no drive has a role, nothing is due, and each has its machine
  abbrev pub at_rest : (ℕ → M) → List Party → List (Station M)
  at_rest ms bs = map (λ b. (record { port = resting b; rest = nobody; machine = ms b.device })) bs

  -- what is asked of a machine: after a byte that isn't the last there is another
  pub record IsMachine : Type 0 where
    pub more : (m : M) (n : ℕ) → peek m ≡ Some (n, false) → (x : ℕ × Bool) × (peek (step m (Said n false)) ≡ Some x)

  -- each drive's machine ran the acts that count for it
  abbrev pub RanEach : (ℕ → M) → List Step → List (Station M) → Type 0
  RanEach ms steps [] = Unit {0}
  RanEach ms steps (s ∷ ss) = Run M step peek (ms s.port.party.device) (acts_for s.port.party.device steps) s.machine × RanEach ms steps ss

  -- The trace is a beginning of a session in which each byte talked is the answer of its drive's machine, the machines ran what counts in it, and no reaction is late.
  pub record IsKept (bs : List Party) (ms : ℕ → M) (trace : List Event) (end : ℕ) (ss : List (Station M)) : Type 0 where
    pub pieces : List Piece
    pub done : List Step
    pub more : List Step
    pub splits : Splits bs pieces done more
    pub events : events_of done ≡ trace
    pub allowed : Allowed M step peek (rest bs) ms pieces
    pub ran : RanEach ms done ss
    pub prompt : IsLate bs (λ ks. Allowed M step peek (rest bs) ms ks) trace end → ⊥

  -- Where the host keeps the timing, a bus that plays from rest keeps to a session.
  abbrev pub KeepsSessions : Type 0
  KeepsSessions = (bs : List Party) (ms : ℕ → M) (n end : ℕ) (trace : List Event) (ss : List (Station M)) → IsBus bs → IsMachine → Plays zero (at_rest ms bs) trace n ss → AllLater end ss → HostKeeps bs trace end → IsKept bs ms trace end ss
