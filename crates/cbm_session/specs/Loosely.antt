-- A host that keeps the timing loosely: its lines are those of a host that keeps it, but where no drive heeds them.
use Rattle.std.specs.Prelude.{◌≡◌, ◌≤◌, ◌⊎◌, ℕ, zero, suc, Bool, true, false, List, [], ◌∷◌, ◌++◌, map, Option, if◌then◌else◌}
use Rattle.std.specs.List.{AllZip}
use Rattle.cbm_iec.specs.Changes.{lines_after}
use Rattle.cbm_iec.specs.Ports.{port_due}
use Rattle.cbm_iec.specs.declared.machine.Act.{Act}
use Rattle.cbm_iec.specs.declared.ear.Ear.TheVariants.{Idle, Starting, Await, Leaving, Holding}
use Rattle.cbm_iec.specs.declared.ear.Ear.{Ear}
use Rattle.cbm_iec.specs.declared.event.Event.{Event}
use Rattle.cbm_iec.specs.declared.lines.Change.{Change}
use Rattle.cbm_iec.specs.declared.lines.Line.TheVariants.{Atn, Clock, Data}
use Rattle.cbm_iec.specs.declared.lines.Line.{Line}
use Rattle.cbm_iec.specs.declared.lines.Way.TheVariants.{Pull, Free}
use Rattle.cbm_iec.specs.declared.lines.Way.{Way}
use Rattle.cbm_iec.specs.declared.lines.Lines.{Lines}
use Rattle.cbm_iec.specs.declared.mouth.Mouth.TheVariants.{Turned, Answering, Mute, Ending, Over}
use Rattle.cbm_iec.specs.declared.mouth.Mouth.{Mouth}
use Rattle.cbm_iec.specs.declared.pace.Pace.TheVariants.{Kernal}
use Rattle.cbm_iec.specs.declared.pace.Pace.{Pace}
use Rattle.cbm_iec.specs.declared.party.Party.{Party}
use Rattle.cbm_iec.specs.declared.port.Side.TheVariants.{Hearing, Speaking}
use Rattle.cbm_iec.specs.declared.port.Side.{Side}
use Rattle.cbm_session.specs.Playing.{Station, host_event, drive_events, tell, hear, react, shown, AllInTime, AllLater, IsFirst, reacting, AllBytes, Plays, at_rest, IsMachine, IsKept}
use Rattle.cbm_session.specs.Sessions.{IsBus}
use Rattle.cbm_session.specs.Timing.{is_host, HostKeeps}

-- Two hosts are at work side by side: the one that there is, and a tidy one, which keeps the timing. h are the lines that the first one holds, k those of
-- the tidy one.

-- ---- what a drive heeds of the host's lines

-- a drive that hears heeds CLOCK, and DATA only while CLOCK is free
abbrev pub HearsAlike : Lines → Lines → Type 0
HearsAlike h k = (h.clock_low ≡ k.clock_low) × (h.clock_low ≡ false → h.data_low ≡ k.data_low)

-- After ATN's pull it heeds CLOCK; at a KERNAL's pace the host may pull CLOCK later than the tidy one, where no other drive holds CLOCK.
abbrev pub CallsAlike : Pace → ℕ → Lines → Lines → Type 0
CallsAlike pace clocks h k = (h.clock_low ≡ k.clock_low) ⊎ ((pace ≡ Kernal) × (clocks ≡ zero) × (h.clock_low ≡ false) × (k.clock_low ≡ true))

-- Where it waits for that pull it heeds CLOCK, too; the host hasn't pulled it where under the tidy one the drive has seen it pulled.
abbrev pub AwaitsAlike : ℕ → Lines → Lines → Side → Type 0
AwaitsAlike clocks h k (Hearing Await) = h.clock_low ≡ k.clock_low
AwaitsAlike clocks h k tidy = (clocks ≡ zero) × (h.clock_low ≡ false) × (k.clock_low ≡ true)

-- what of the two hosts' lines has to be alike for a drive that hears, by what it waits for, and by what it waits for under the tidy one
abbrev pub EarHeeds : Pace → ℕ → Lines → Lines → Ear → Side → Type 0
EarHeeds pace clocks h k Idle tidy = Unit {0}
EarHeeds pace clocks h k (Leaving at) tidy = Unit {0}
EarHeeds pace clocks h k (Starting at) tidy = CallsAlike pace clocks h k
EarHeeds pace clocks h k Await tidy = AwaitsAlike clocks h k tidy
EarHeeds pace clocks h k ear tidy = HearsAlike h k

-- The same of a drive that talks: from the turnaround to its answer it heeds both lines, then DATA alone, and after its last byte, or with nothing to
-- say, none.
abbrev pub MouthHeeds : Lines → Lines → Mouth → Type 0
MouthHeeds h k Turned = (h.clock_low ≡ k.clock_low) × (h.data_low ≡ k.data_low)
MouthHeeds h k (Answering at) = (h.clock_low ≡ k.clock_low) × (h.data_low ≡ k.data_low)
MouthHeeds h k (Mute at) = Unit {0}
MouthHeeds h k (Ending at) = Unit {0}
MouthHeeds h k Over = Unit {0}
MouthHeeds h k mouth = h.data_low ≡ k.data_low

-- what has to be alike for a drive, by its pace, how many other drives hold CLOCK, and what it waits for under both hosts
abbrev pub HeedsAlike : Pace → ℕ → Lines → Lines → Side → Side → Type 0
HeedsAlike pace clocks h k (Hearing ear) tidy = EarHeeds pace clocks h k ear tidy
HeedsAlike pace clocks h k (Speaking mouth) tidy = MouthHeeds h k mouth

-- a drive that hears ignores a change of CLOCK that the host makes alone: with no role, and between ATN's pull and its answer
abbrev pub EarIgnoresClock : Ear → Type 0
EarIgnoresClock Idle = Unit {0}
EarIgnoresClock (Leaving at) = Unit {0}
EarIgnoresClock (Starting at) = Unit {0}
EarIgnoresClock ear = ⊥

-- and one of DATA: then, before CLOCK was pulled after ATN, and always while the host holds CLOCK
abbrev pub EarIgnoresData : Bool → Ear → Type 0
EarIgnoresData clock_low Idle = Unit {0}
EarIgnoresData clock_low (Leaving at) = Unit {0}
EarIgnoresData clock_low (Starting at) = Unit {0}
EarIgnoresData clock_low Await = Unit {0}
EarIgnoresData clock_low ear = clock_low ≡ true

-- a drive that talks ignores CLOCK once it has answered the turnaround
abbrev pub MouthIgnoresClock : Mouth → Type 0
MouthIgnoresClock Turned = ⊥
MouthIgnoresClock (Answering at) = ⊥
MouthIgnoresClock mouth = Unit {0}

-- and DATA once it has no more to say
abbrev pub MouthIgnoresData : Mouth → Type 0
MouthIgnoresData (Mute at) = Unit {0}
MouthIgnoresData (Ending at) = Unit {0}
MouthIgnoresData Over = Unit {0}
MouthIgnoresData mouth = ⊥

-- the drive ignores a change of this line by a host that holds CLOCK or not; never one of ATN
abbrev pub Ignores : Line → Bool → Side → Type 0
Ignores Atn clock_low side = ⊥
Ignores Clock clock_low (Hearing ear) = EarIgnoresClock ear
Ignores Clock clock_low (Speaking mouth) = MouthIgnoresClock mouth
Ignores Data clock_low (Hearing ear) = EarIgnoresData clock_low ear
Ignores Data clock_low (Speaking mouth) = MouthIgnoresData mouth

-- The host may make this change alone: the drive ignores it, or it is CLOCK's pull after ATN's, by which a drive at a KERNAL's pace comes to where it is
-- under the tidy host.
abbrev pub MayStray : Line → Way → Bool → Side → Side → Type 0
MayStray Clock Pull clock_low (Hearing Await) tidy = tidy ≡ Hearing Holding
MayStray line way clock_low side tidy = Ignores line clock_low side

-- ---- two plays side by side

-- a change of a drive, not of the host
abbrev pub drives_of : List Event → List Event
drives_of [] = []
drives_of (e ∷ es) = if is_host e.who then drives_of es else e ∷ drives_of es

module _ (M : Type 0) (step : M → Act → M) (peek : M → Option (ℕ × Bool)) where
  -- a drive under the host, and under the tidy one: what it heeds is alike
  abbrev pub Heeds : Station M → Station M → Type 0
  Heeds s t = HeedsAlike s.port.party.pace s.rest.clocks s.rest.host t.rest.host s.port.side t.port.side

  -- the same after a change that both hosts make
  abbrev pub HeedsAfter : Line → Way → Station M → Station M → Type 0
  HeedsAfter line way s t = HeedsAlike s.port.party.pace s.rest.clocks (lines_after s.rest.host line way) (lines_after t.rest.host line way) s.port.side t.port.side

  -- Both hosts may make this change: what the drive heeds is alike before and after it. ATN is pulled at any time, and freed while both hold CLOCK or
  -- neither does.
  abbrev pub MayMake : Line → Way → Station M → Station M → Type 0
  MayMake Atn Pull s t = Unit {0}
  MayMake Atn Free s t = (s.rest.host.clock_low ≡ t.rest.host.clock_low) × Heeds s t
  MayMake line way s t = Heeds s t × HeedsAfter line way s t

  -- before each of these changes of another drive what it heeds is alike
  abbrev pub HeedsAll : List Change → Station M → Station M → Type 0
  HeedsAll [] s t = Unit {0}
  HeedsAll (c ∷ cs) s t = Heeds s t × HeedsAll cs (hear M step peek c s) (hear M step peek c t)

  -- THE TWO PLAYS, from drives and the same drives under the tidy host, up to an end. Events are the host's and the drives'; the tidy host's come with the
  -- same events of the drives. A change is made by both hosts, by the host alone, or by the tidy one alone; and what a drive heeds is alike at each of its
  -- reactions. The two numbers are moments before which the hosts change nothing more.
  pub data Beside (end : ℕ) : ℕ → ℕ → List (Station M) → List (Station M) → List Event → List Event → Type 0 where
    over : {n m : ℕ} {ss ts : List (Station M)} {es fs : List Event} → AllBytes M step peek ss → es ≡ [] → fs ≡ [] → n ≤ suc end → AllLater M step peek end ss → Beside end n m ss ts es fs
    both : {n m : ℕ} {ss ts : List (Station M)} {es fs : List Event} (c : Change) (more tidied : List Event) → AllBytes M step peek ss → n ≤ c.moment → m ≤ c.moment → AllInTime M step peek c.moment ss
        → AllZip (λ s t. MayMake c.line c.way s t) ss ts → es ≡ host_event c ∷ more → fs ≡ host_event c ∷ tidied
        → Beside end c.moment c.moment (map (λ s. tell M step peek c s) ss) (map (λ s. tell M step peek c s) ts) more tidied → Beside end n m ss ts es fs
    strays : {n m : ℕ} {ss ts : List (Station M)} {es fs : List Event} (c : Change) (more : List Event) → AllBytes M step peek ss → n ≤ c.moment → AllInTime M step peek c.moment ss
        → AllZip (λ s t. MayStray c.line c.way s.rest.host.clock_low s.port.side t.port.side) ss ts → es ≡ host_event c ∷ more
        → Beside end c.moment m (map (λ s. tell M step peek c s) ss) ts more fs → Beside end n m ss ts es fs
    tidies : {n m : ℕ} {ss ts : List (Station M)} {es fs : List Event} (c : Change) (tidied : List Event) → AllBytes M step peek ss → m ≤ c.moment → AllInTime M step peek c.moment ss
        → AllZip (λ s t. Ignores c.line t.rest.host.clock_low t.port.side) ss ts → fs ≡ host_event c ∷ tidied
        → Beside end n c.moment ss (map (λ s. tell M step peek c s) ts) es tidied → Beside end n m ss ts es fs
    reacts : {n m : ℕ} {ss ts : List (Station M)} {es fs : List Event} (t : ℕ) (before : List (Station M)) (o : Station M) (afterwards before2 : List (Station M)) (o2 : Station M) (afterwards2 : List (Station M)) (more tidied : List Event)
        → AllBytes M step peek ss → ss ≡ before ++ o ∷ afterwards → ts ≡ before2 ++ o2 ∷ afterwards2 → IsFirst M step peek t before o afterwards
        → AllZip (λ s u. HeedsAll (shown M step peek t o) s u) before before2 → Heeds o o2 → AllZip (λ s u. HeedsAll (shown M step peek t o) s u) afterwards afterwards2
        → es ≡ drive_events o.port.party.device (shown M step peek t o) ++ more → fs ≡ drive_events o.port.party.device (shown M step peek t o) ++ tidied
        → Beside end (suc t) (suc t) (reacting M step peek t before o afterwards) (reacting M step peek t before2 o2 afterwards2) more tidied → Beside end n m ss ts es fs

  -- the trace from rest beside that of a tidy host
  abbrev pub IsBeside : List Party → (ℕ → M) → ℕ → List Event → List Event → Type 0
  IsBeside bs ms end trace tidy = Beside end zero zero (at_rest M step peek ms bs) (at_rest M step peek ms bs) trace tidy

  -- THE HOST KEEPS THE TIMING LOOSELY: beside its trace there is one of a host that keeps it.
  abbrev pub HostKeepsLoosely : List Party → (ℕ → M) → List Event → ℕ → Type 0
  HostKeepsLoosely bs ms trace end = (tidy : List Event) × (IsBeside bs ms end trace tidy × HostKeeps bs tidy end)

  -- THE DRIVES KEEP TO A SESSION under such a host: with the same events of the drives, and the same machines in the end, there is a trace of a tidy host
  -- that is a beginning of a session in which each byte talked is the answer of its drive's machine, and no reaction is late.
  pub record IsKeptLoosely (bs : List Party) (ms : ℕ → M) (trace : List Event) (end : ℕ) (ss : List (Station M)) : Type 0 where
    pub tidy : List Event
    pub stations : List (Station M)
    pub beside : IsBeside bs ms end trace tidy
    pub drives : drives_of tidy ≡ drives_of trace
    pub machines : AllZip (λ s t. t.machine ≡ s.machine) ss stations
    pub kept : IsKept M step peek bs ms tidy end stations

  -- Where the host keeps the timing loosely, a bus that plays from rest keeps to a session.
  abbrev pub KeepsLoosely : Type 0
  KeepsLoosely = (bs : List Party) (ms : ℕ → M) (n end : ℕ) (trace : List Event) (ss : List (Station M)) → IsBus bs → IsMachine M step peek → Plays M step peek zero (at_rest M step peek ms bs) trace n ss → n ≤ suc end
      → AllLater M step peek end ss → HostKeepsLoosely bs ms trace end → IsKeptLoosely bs ms trace end ss

  -- A host that keeps the timing keeps it loosely: it is tidy itself.
  abbrev pub TidyIsLoose : Type 0
  TidyIsLoose = (bs : List Party) (ms : ℕ → M) (n end : ℕ) (trace : List Event) (ss : List (Station M)) → Plays M step peek zero (at_rest M step peek ms bs) trace n ss → n ≤ suc end → AllLater M step peek end ss → HostKeeps bs trace end
      → HostKeepsLoosely bs ms trace end
