-- What came of a request: the events, and the bytes that the host took.
use Rattle.std.specs.List.{All}
use Rattle.std.specs.Prelude.{◌≡◌, ◌≤◌, ℕ, min, Bool, false, List, [], ◌∷◌, ◌++◌, Option, Some, None}
use Rattle.cbm_drive.specs.Cables.{Cabled}
use Rattle.cbm_drive.specs.Players.{from_after}
use Rattle.cbm_drive.specs.Seats.{IsBusAt}
use Rattle.cbm_host.specs.Engines.{Engined, engine_due}
use Rattle.cbm_host.specs.Performers.{Performing, GoesOnFrom, StopsPerforming, IsDue, engine_after, byte_with, IsGoing}
use Rattle.cbm_host.specs.declared.stage.Stage.{Stage}
use Rattle.cbm_host.specs.declared.stage.Stage.TheVariants.{Ending, Done}
use Rattle.cbm_iec.specs.declared.machine.Act.{Act}
use Rattle.cbm_iec.specs.declared.event.Event.{Event}
use Rattle.cbm_session.specs.Playing.{Station, Plays}

-- the byte that was taken, or none
abbrev pub taken_with : Option (ℕ × Bool) → List ℕ
taken_with None = []
taken_with (Some said) = said.0 ∷ []

-- whether the last byte that was taken carried EOI; where none was taken, as before
abbrev pub last_with : Option (ℕ × Bool) → Bool → Bool
last_with None last = last
last_with (Some said) last = said.1

-- from when on the host may change a line after these events
abbrev pub from_last : ℕ → List Event → ℕ
from_last t [] = t
from_last t (x ∷ xs) = from_last (from_after x.who x.change.moment) xs

-- These events were added, and none of them is later than the limit.
pub record HasAddedUpTo (limit : ℕ) (old new : List Event) : Type 0 where
  pub made : List Event
  pub added : new ≡ old ++ made
  pub within : All (λ (e : Event). e.change.moment ≤ limit) made

module _ (M : Type 0) (step : M → Act → M) (says : M → Option (ℕ × Bool)) (ss : List (Station M)) where
  -- A REQUEST RUNS ALONG THESE EVENTS from drives at work: each of the host is the change that was due, each of a drive comes before what the host does
  -- next, and these bytes the host took.
  pub data Runs : Engined → List Event → List ℕ → Bool → Engined → Type 0 where
    begins : {e e2 : Engined} {es : List Event} {bytes : List ℕ} {last : Bool} → e2 ≡ e → es ≡ [] → bytes ≡ [] → last ≡ false → Runs e es bytes last e2
    goes : {e e2 : Engined} {es2 : List Event} {bytes2 : List ℕ} {last2 : Bool} (e1 found : Engined) (x : Event) (es : List Event) (bytes : List ℕ) (last : Bool) → Runs e es bytes last e1 → GoesOnFrom M step says 0 ss es e1 found → IsDue x.who x.change found
        → e2 ≡ engine_after x.who x.change found → es2 ≡ es ++ x ∷ [] → bytes2 ≡ bytes ++ taken_with (byte_with x.who found) → last2 ≡ last_with (byte_with x.who found) last → Runs e es2 bytes2 last2 e2

-- when a request is over whose host is at this stage after its last event: at the end that it waits for, and else at the limit, where it gives up
abbrev pub over_at : ℕ → Stage → ℕ
over_at limit (Ending until) = min until limit
over_at limit (Done until) = min until limit
over_at limit stage = limit

module _ (M : Type 0) (step : M → Act → M) (says : M → Option (ℕ × Bool)) where
  -- THE HOST KEPT THE REQUEST'S MOMENTS: these events were added, and the request runs along them, each change of the host when it was due, and to its end.
  pub record HasRun (e : Engined) (limit : ℕ) (old new : List Event) (bytes : List ℕ) (last : Bool) (end : ℕ) (ss : List (Station M)) : Type 0 where
    pub made : List Event
    pub added : new ≡ old ++ made
    pub afterwards : Engined
    pub runs : Runs M step says ss e made bytes last afterwards
    pub over : end ≡ over_at limit afterwards.stage

module _ (D M : Type 0) (stands : D → M → Type 0) (step : M → Act → M) (says : M → Option (ℕ × Bool)) where
  -- A REQUEST IS UNDER WAY up to a limit: events were added, a play of the bus, and the request runs along it.
  pub record IsPerforming (e : Engined) (limit : ℕ) (p : Performing) (b : Cabled D) (old new : List Event) (bytes : List ℕ) (last : Bool) (ss : List (Station M)) : Type 0 where
    pub made : List Event
    pub added : new ≡ old ++ made
    pub going : IsGoing D M stands step says p b 0 ss made
    pub runs : Runs M step says ss e made bytes last p.engine
    pub from : p.player.from ≡ from_last 0 made
    pub until : p.limit ≡ limit

  -- MEMORY RAN OUT: of a play of the bus these events were added, and those after them are lost.
  pub record IsCutShort (b : Cabled D) (old new : List Event) (ss : List (Station M)) : Type 0 where
    pub made : List Event
    pub lost : List Event
    pub from : ℕ
    pub stations : List (Station M)
    pub added : new ≡ old ++ made
    pub plays : Plays M step says 0 ss (made ++ lost) from stations
    pub now : IsBusAt D M stands b.host b.drives stations

  -- NO MORE EVENTS COME, and that is why.
  pub record HasPerformed (e : Engined) (limit : ℕ) (p : Performing) (b : Cabled D) (old new : List Event) (bytes : List ℕ) (last : Bool) (ss : List (Station M)) : Type 0 where
    pub made : List Event
    pub added : new ≡ old ++ made
    pub going : IsGoing D M stands step says p b 0 ss made
    pub afterwards : Engined
    pub runs : Runs M step says ss e made bytes last afterwards
    pub goes_on : GoesOnFrom M step says 0 ss made afterwards p.engine
    pub stops : StopsPerforming M step says p.player limit 0 ss made (engine_due p.engine)
    pub from : p.player.from ≡ from_last 0 made
    pub until : p.limit ≡ limit
