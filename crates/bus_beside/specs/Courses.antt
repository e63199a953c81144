-- Two plays side by side: how far they have come from rest, and what is known of it.
use Rattle.std.specs.Prelude.{◌≤◌, ℕ, List, [], ◌∷◌, ◌++◌, Bool, Option, Some, None}
use Rattle.std.specs.List.{AllZip}
use Rattle.cbm_iec.specs.declared.machine.Act.{Act}
use Rattle.cbm_iec.specs.declared.event.Event.{Event}
use Rattle.cbm_iec.specs.declared.lines.Change.{Change}
use Rattle.cbm_iec.specs.declared.party.Party.{Party}
use Rattle.cbm_session.specs.Loosely.{Beside, IsBeside}
use Rattle.cbm_session.specs.Playing.{Station, host_event, drive_events}
use Rattle.bus_beside.specs.declared.answer.Answer.{Answer}
use Rattle.bus_beside.specs.Reactions.{HaveNothingBefore}
use Rattle.bus_beside.specs.Moves.{HaveGone}
use Rattle.bus_beside.specs.declared.moves.Move.{Move}
use Rattle.bus_beside.specs.Seats.{SeatedTwice, Sit, IsPortAtRest, failed_in_all}

-- two plays: the drives, and for each host a moment before which it changes nothing more
pub record Course (D : Type 0) : Type 0 where
  pub seats : List (SeatedTwice D)
  pub from : ℕ
  pub tidy_from : ℕ

-- what a drive shows as events, where one shows something
abbrev pub events_shown : Option Answer → List Event
events_shown None = []
events_shown (Some a) = drive_events a.device a.changes.items

-- an event that a drive showed with the last one, and that wasn't seen yet
abbrev pub pending_event : Option Event → List Event
pending_event None = []
pending_event (Some e) = e ∷ []

-- two plays, of which one event is pending
pub record Sides (D : Type 0) : Type 0 where
  pub course : Course D
  pub second : Option Event

-- changes of the host as events
abbrev pub host_events : List Change → List Event
host_events [] = []
host_events (c ∷ cs) = host_event c ∷ host_events cs

module _ (D M : Type 0) (stands : D → M → Type 0) (step : M → Act → M) (says : M → Option (ℕ × Bool)) where
  -- nothing was due before the change, which might come so, and came
  abbrev pub HaveCome : Move → Change → List (SeatedTwice D) → List (SeatedTwice D) → Type 0
  HaveCome move c xs ys = HaveNothingBefore D M stands step says c.moment xs × HaveGone D M stands step says move c xs ys

  -- Whatever comes after these stations and lies side by side up to an end, lies so from rest with these events before it.
  abbrev pub Reaches : List Party → (ℕ → M) → ℕ → ℕ → List (Station M) → List (Station M) → List Event → List Event → Type 0
  Reaches bs ms n m ss ts es fs = (end : ℕ) (more tidied : List Event) → Beside M step says end n m ss ts more tidied → IsBeside M step says bs ms end (es ++ more) (fs ++ tidied)

  -- TWO PLAYS FROM REST have come to where the drives are, with these events.
  pub record LieBeside (bs : List Party) (ms : ℕ → M) (b : Course D) (es fs : List Event) : Type 0 where
    pub stations : List (Station M)
    pub tidied : List (Station M)
    pub reaches : Reaches bs ms b.from b.tidy_from stations tidied es fs
    pub sit : Sit D M stands b.seats stations tidied

  -- The same, as long as the machines have failed no more often than this number, as often as they had failed at rest.
  pub record Lie (failures : D → ℕ) (least : ℕ) (bs : List Party) (ms : ℕ → M) (b : Course D) (es fs : List Event) : Type 0 where
    pub counted : least ≤ failed_in_all failures b.seats
    pub lies : failed_in_all failures b.seats ≤ least → LieBeside bs ms b es fs

  -- THE TWO PLAYS GO ON with these events.
  abbrev pub GoOnBeside : (D → ℕ) → Course D → Course D → List Event → List Event → Type 0
  GoOnBeside failures b c more tidied = (least : ℕ) (bs : List Party) (ms : ℕ → M) (es fs : List Event) → Lie failures least bs ms b es fs → Lie failures least bs ms c (es ++ more) (fs ++ tidied)

  -- ALL IS OVER up to an end: so the one trace from rest lies beside the other, if no machine failed.
  abbrev pub EndsBeside : (D → ℕ) → Course D → Course D → ℕ → Type 0
  EndsBeside failures b c end = (least : ℕ) (bs : List Party) (ms : ℕ → M) (es fs : List Event) → Lie failures least bs ms b es fs → failed_in_all failures c.seats ≤ least → IsBeside M step says bs ms end es fs

  -- each drive is switched on under both hosts, and has its machine
  abbrev pub AreSwitchedOn : List (SeatedTwice D) → List Party → (ℕ → M) → Type 0
  AreSwitchedOn xs bs ms = AllZip (λ x b. IsPortAtRest x.real b × IsPortAtRest x.tidy b × stands x.machine (ms b.device)) xs bs

  -- TWO PLAYS FROM REST have these events, the one those of a trace, the other those of the tidy one, as long as the machines have failed no more often than
  -- this number.
  abbrev pub HaveSeen : (D → ℕ) → ℕ → List Party → (ℕ → M) → Sides D → List Event → List Event → Type 0
  HaveSeen failures least bs ms b es fs = Lie failures least bs ms b.course (es ++ pending_event b.second) (fs ++ pending_event b.second)

  -- The two plays go on, each with these events more.
  abbrev pub SeesOn : (D → ℕ) → Sides D → Sides D → List Event → List Event → Type 0
  SeesOn failures b c more tidied = (least : ℕ) (bs : List Party) (ms : ℕ → M) (es fs : List Event) → HaveSeen failures least bs ms b es fs → HaveSeen failures least bs ms c (es ++ more) (fs ++ tidied)

  -- THE TRACE LIES BESIDE THE TIDY ONE up to an end, if no machine failed.
  abbrev pub LiesBeside : (D → ℕ) → Sides D → Sides D → ℕ → Type 0
  LiesBeside failures b c end = (least : ℕ) (bs : List Party) (ms : ℕ → M) (es fs : List Event) → HaveSeen failures least bs ms b es fs → failed_in_all failures c.course.seats ≤ least → IsBeside M step says bs ms end es fs
