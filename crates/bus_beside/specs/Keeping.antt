-- What is known of a trace whose host keeps the timing loosely, so far.
use Rattle.std.specs.Prelude.{◌≤◌, ◌++◌, ℕ, suc, zero, List, [], ◌∷◌, Bool, Option, Result, OnOk}
use Rattle.cbm_iec.specs.declared.machine.Act.{Act}
use Rattle.cbm_iec.specs.declared.event.Event.{Event}
use Rattle.cbm_iec.specs.declared.party.Party.{Party}
use Rattle.cbm_session.specs.Loosely.{HostKeepsLoosely, IsKeptLoosely}
use Rattle.cbm_session.specs.Sessions.{IsBus}
use Rattle.cbm_session.specs.Playing.{Station, Plays, AllLater, at_rest}
use Rattle.bus_beside.specs.declared.court.Court.{Court}
use Rattle.bus_beside.specs.Courses.{Sides, HaveSeen}
use Rattle.bus_beside.specs.Courts.{HasJudged}
use Rattle.bus_beside.specs.Seats.{failed_in_all}

-- the tidy host's trace before its judge, and both traces side by side
pub record Looked (D : Type 0) : Type 0 where
  pub court : Court
  pub beside : Sides D

module _ (D M : Type 0) (stands : D → M → Type 0) (step : M → Act → M) (says : M → Option (ℕ × Bool)) where
  -- THE TRACE SO FAR lies beside a tidy one, all of whose events the judge took, as long as the machines have failed no more often than this number.
  pub record KeepsSoFar (failures : D → ℕ) (least : ℕ) (bs : List Party) (ms : ℕ → M) (l : Looked D) (es : List Event) : Type 0 where
    pub tidied : List Event
    pub judged : HasJudged bs l.court tidied
    pub seen : HaveSeen D M stands step says failures least bs ms l.beside es tidied

  -- THE HOST KEEPS THE TIMING LOOSELY up to an end, if no machine failed.
  abbrev pub EndsLoosely : (D → ℕ) → ℕ → List Party → (ℕ → M) → Looked D → List Event → ℕ → Type 0
  EndsLoosely failures least bs ms l es end = failed_in_all failures l.beside.course.seats ≤ least → HostKeepsLoosely M step says bs ms es end

  -- And so drives that play from rest with this trace keep to a session.
  abbrev pub KeepsTo : (D → ℕ) → ℕ → List Party → (ℕ → M) → Looked D → List Event → ℕ → Type 0
  KeepsTo failures least bs ms l es end = failed_in_all failures l.beside.course.seats ≤ least → (n : ℕ) (ss : List (Station M)) → Plays M step says zero (at_rest M step says ms bs) es n ss → n ≤ suc end
      → AllLater M step says end ss → IsKeptLoosely M step says bs ms es end ss

  -- A call takes the trace's next event: what is known of the trace is known with that event, too.
  abbrev pub TakesEvent : {E : Type 0} → (D → ℕ) → Looked D → Looked D → Event → Result (Unit {0}) E → Type 0
  TakesEvent failures l m event result = (least : ℕ) (bs : List Party) (ms : ℕ → M) (es : List Event) → KeepsSoFar failures least bs ms l es → OnOk result (KeepsSoFar failures least bs ms m (es ++ event ∷ []))

  -- A call takes an end: up to there the host of the trace keeps the timing loosely.
  abbrev pub FindsLoosely : {E : Type 0} → (D → ℕ) → Looked D → Looked D → ℕ → Result (Unit {0}) E → Type 0
  FindsLoosely failures l m end result = (least : ℕ) (bs : List Party) (ms : ℕ → M) (es : List Event) → IsBus bs → KeepsSoFar failures least bs ms l es → OnOk result (EndsLoosely failures least bs ms m es end)

  -- And drives that play the trace from rest keep to a session.
  abbrev pub FindsKept : {E : Type 0} → (D → ℕ) → Looked D → Looked D → ℕ → Result (Unit {0}) E → Type 0
  FindsKept failures l m end result = (least : ℕ) (bs : List Party) (ms : ℕ → M) (es : List Event) → IsBus bs → KeepsSoFar failures least bs ms l es → OnOk result (KeepsTo failures least bs ms m es end)
