-- Changes of a host played one at a time, event by event.
use Rattle.std.specs.Prelude.{ℕ, ◌+◌, ◌-◌, min, ◌*◌, ◌^◌, ◌≡◌, ◌<◌, ◌≤◌, Bool, List, length, [], ◌∷◌, ◌++◌, Option, Some, None, IfSome}
use Rattle.cbm_iec.specs.declared.machine.Act.{Act}
use Rattle.cbm_iec.specs.declared.event.Event.{Event}
use Rattle.cbm_iec.specs.declared.event.Who.TheVariants.{Host, Drive}
use Rattle.cbm_iec.specs.declared.event.Who.{Who}
use Rattle.cbm_iec.specs.declared.lines.Change.{Change}
use Rattle.cbm_session.specs.Playing.{Station, Plays}
use Rattle.cbm_drive.specs.Cables.{Cabled}
use Rattle.cbm_drive.specs.Ordered.{host_changes}
use Rattle.cbm_drive.specs.Progress.{left}
use Rattle.cbm_drive.specs.Seats.{Seated, AreInTime, IsBusAt}
use Rattle.cbm_drive.specs.Silence.{AreSilent}

-- a player: the host's change that is pending, the second change of a reaction that is still to be given, the moment from which on the host may
-- change a line, and how many of its changes were taken
pub record Turns : Type 0 where
  pub waiting : Option Change
  pub second : Option Event
  pub from : ℕ
  pub taken : ℕ

-- a player that was offered nothing and has given nothing
abbrev pub at_start : Turns
at_start = record { waiting = None; second = None; from = 0; taken = 0 }

-- a player that took this change
abbrev pub change_taken : Change → Turns → Turns
change_taken c p = record { waiting = Some c; second = p.second; from = p.from; taken = min (p.taken + 1) (2 ^ 64 - 1) }

-- a player whose second change of a reaction was given
abbrev pub nothing_left : Turns → Turns
nothing_left p = record { waiting = p.waiting; second = None; from = p.from; taken = p.taken }

-- No change is pending, none is still to be given, and the host's next one may come from this moment on.
pub record IsOpen (p : Turns) (moment : ℕ) : Type 0 where
  pub waiting : p.waiting ≡ None
  pub second : p.second ≡ None
  pub from : p.from ≤ moment

-- the event that is still to be given
abbrev pub pending : Option Event → List Event
pending None = []
pending (Some e) = e ∷ []

-- how many changes of the drives may come before a limit at most, if the host changes nothing more: two of a reaction, and one that is still to be given
abbrev pub at_most : {D : Type 0} → ℕ → Option Event → List (Seated D) → ℕ
at_most limit second xs = 2 * left limit xs + length (pending second)

-- less is left to come before each limit from this moment on
abbrev pub IsLessLeft : {D : Type 0} → ℕ → Turns → Turns → Cabled D → Cabled D → Type 0
IsLessLeft from p q b c = (limit : ℕ) → from ≤ limit → at_most limit q.second c.drives < at_most limit p.second b.drives

-- A pending change gives way to nothing but what comes before it.
abbrev pub IsWaitingFrom : ℕ → Option Change → Type 0
IsWaitingFrom from None = Unit {0}
IsWaitingFrom from (Some c) = (from ≤ c.moment) × (c.moment < 2 ^ 59)

-- a drive, not the host
abbrev pub IsDrives : Who → Type 0
IsDrives Host = ⊥
IsDrives (Drive d) = Unit {0}

-- what is still to be given is a drive's, of a moment before this one
abbrev pub IsGivenBefore : ℕ → Option Event → Type 0
IsGivenBefore from second = IfSome second (λ e. IsDrives e.who × (e.change.moment < from))

-- from when on the host may change a line after an event: its own moment, or after a drive's the one after it
abbrev pub from_after : Who → ℕ → ℕ
from_after Host t = t
from_after (Drive d) t = t + 1

-- what is still to be given is a drive's change of the reaction that was made last
abbrev pub IsSecond : ℕ → Option Event → Type 0
IsSecond from None = Unit {0}
IsSecond from (Some e) = IsDrives e.who × (e.change.moment + 1 ≡ from)

-- an event of the host is the pending change; after one of a drive that is still pending
abbrev pub IsTurnOf : Who → Change → Option Change → Option Change → Type 0
IsTurnOf Host c was now = (was ≡ Some c) × (now ≡ None)
IsTurnOf (Drive d) c was now = now ≡ was

-- After a change of the host nothing is still to be given, and its next one may come at that very moment.
abbrev pub IsAfterEvent : Who → Change → Turns → Type 0
IsAfterEvent Host c p = (p.from ≡ c.moment) × (p.second ≡ None)
IsAfterEvent (Drive d) c p = Unit {0}

-- IT IS A CHANGE'S TURN: this one is pending, and nothing else is still to be given.
pub record IsTurnTo (p : Turns) (c : Change) : Type 0 where
  pub second : p.second ≡ None
  pub waiting : p.waiting ≡ Some c
  pub from : p.from ≤ c.moment
  pub moment : c.moment < 2 ^ 59

-- IT IS THE DRIVES' TURN: nothing is still to be given, and no change is pending before this moment.
pub record IsDrivesTurn (p : Turns) (limit : ℕ) : Type 0 where
  pub second : p.second ≡ None
  pub waiting : IsWaitingFrom limit p.waiting
  pub from : IsWaitingFrom p.from p.waiting

-- THE HOST IS DONE: no change is pending, and this moment isn't before the next one's.
pub record IsHostDone (p : Turns) (moment : ℕ) : Type 0 where
  pub waiting : p.waiting ≡ None
  pub from : p.from ≤ moment

-- THE NEXT EVENT BEFORE A LIMIT, whatever the machines represent.
pub record IsNextEvent {D : Type 0} (p q : Turns) (b c : Cabled D) (limit : ℕ) (result : Option Event) : Type 0 where
  -- An event of the host is the pending change; after one of a drive that is still pending.
  pub turn : IfSome result (λ e. IsTurnOf e.who e.change p.waiting q.waiting)
  -- What is pending isn't before the moment from which the host may go on.
  pub waiting : IsWaitingFrom q.from q.waiting
  -- What is still to be given comes before the limit.
  pub second : IfSome result (λ e. IsGivenBefore limit q.second)
  -- After a change of the host nothing is still to be given.
  pub afterwards : IfSome result (λ e. IsAfterEvent e.who e.change q)
  -- Less is left to come after a change of a drive.
  pub fewer : IfSome result (λ e. IsDrives e.who → IsLessLeft limit p q b c)
  -- No change was taken.
  pub taken : q.taken ≡ p.taken

-- THE NEXT EVENT BEFORE A LIMIT, at the end: where none comes nothing is due any more.
pub record IsLastEvent {D : Type 0} (p q : Turns) (b c : Cabled D) (limit : ℕ) (result : Option Event) : Type 0 where
  -- It is a drive's.
  pub drive : IfSome result (λ e. IsDrives e.who)
  -- What is still to be given comes before the limit.
  pub second : IsGivenBefore limit q.second
  -- The host may go on at the limit.
  pub from : q.from ≤ limit
  -- No change is pending.
  pub waiting : q.waiting ≡ None
  -- Less is left to come after it.
  pub fewer : IfSome result (λ e. IsLessLeft limit p q b c)
  -- No change was taken.
  pub taken : q.taken ≡ p.taken
  -- Where there is none, no reaction is due before the limit.
  pub settled : result ≡ None → AreInTime limit c.drives

module _ (D M : Type 0) (stands : D → M → Type 0) (step : M → Act → M) (says : M → Option (ℕ × Bool)) where
  -- THESE EVENTS WERE GIVEN: they, and the one that is still to be given, which is of the last reaction, are a play, and the drives represent the stations after it.
  pub record IsAfter (p : Turns) (b : Cabled D) (n : ℕ) (ss : List (Station M)) (es : List Event) : Type 0 where
    pub from : ℕ
    pub stations : List (Station M)
    pub before : from ≤ p.from
    pub plays : Plays M step says n ss (es ++ pending p.second) from stations
    pub now : IsBusAt D M stands b.host b.drives stations
    pub second : IsSecond p.from p.second

  -- EVENTS WERE ADDED to a list, and given after those before: the changes of the host among them are these, and nothing is still to be given.
  pub record HasAdded (p : Turns) (b : Cabled D) (old new : List Event) (cs : List Change) (n : ℕ) (ss : List (Station M)) (es : List Event) : Type 0 where
    pub made : List Event
    pub added : new ≡ old ++ made
    pub hosts : host_changes made ≡ cs
    pub after : IsAfter p b n ss (es ++ made)
    pub second : p.second ≡ None

  -- THE NEXT EVENT was given, which comes at this moment or before.
  pub record HasGiven (p : Turns) (b : Cabled D) (upto n : ℕ) (ss : List (Station M)) (es : List Event) (e : Event) : Type 0 where
    pub after : IsAfter p b n ss (es ++ e ∷ [])
    pub moment : e.change.moment ≤ upto
    pub from : p.from ≡ from_after e.who e.change.moment

  -- NOTHING COMES up to this moment, and all is as it was.
  pub record IsStill (p q : Turns) (b c : Cabled D) (upto : ℕ) (stations : List (Station M)) : Type 0 where
    pub same : q ≡ p
    pub bus : c ≡ b
    pub second : IfSome p.second (λ e. upto < e.change.moment)
    pub waiting : p.second ≡ None → IfSome p.waiting (λ w. upto < w.moment)
    pub silent : p.second ≡ None → AreSilent M step says (upto + 1) stations

  -- ALL IS OVER up to this moment: nothing is due at it or before, nothing is still to be given, and the host may change a line after it.
  pub record IsFinished (p : Turns) (b : Cabled D) (upto n : ℕ) (ss : List (Station M)) (es : List Event) : Type 0 where
    pub after : IsAfter p b n ss es
    pub settled : AreInTime (upto + 1) b.drives
    pub second : p.second ≡ None
    pub from : p.from ≡ upto + 1
