-- What the drives of a bus made under changes of the host.
use Rattle.std.specs.Prelude.{ℕ, ◌≡◌, ◌≤◌, Bool, List, [], ◌++◌, Option}
use Rattle.cbm_iec.specs.declared.machine.Act.{Act}
use Rattle.cbm_iec.specs.declared.event.Event.{Event}
use Rattle.cbm_iec.specs.declared.lines.Change.{Change}
use Rattle.cbm_iec.specs.declared.lines.Lines.{Lines}
use Rattle.cbm_iec.specs.declared.party.Party.{Party}
use Rattle.cbm_session.specs.Handed.{AllHanded}
use Rattle.cbm_session.specs.Playing.{Station, Plays}
use Rattle.cbm_drive.specs.Ordered.{host_changes}
use Rattle.cbm_drive.specs.Seats.{Seated, IsBusAt}

module _ (D M : Type 0) (stands : D → M → Type 0) (step : M → Act → M) (says : M → Option (ℕ × Bool)) where
  -- THE DRIVES HAVE PLAYED ON: what they made was added to the events, and a change of the host may come from the limit on.
  pub record HasSettled (host : Lines) (limit : ℕ) (xs : List (Seated D)) (old new : List Event) (n : ℕ) (ss : List (Station M)) : Type 0 where
    pub made : List Event
    pub from : ℕ
    pub stations : List (Station M)
    pub added : new ≡ old ++ made
    pub plays : Plays M step says n ss made from stations
    pub quiet : host_changes made ≡ []
    pub before : from ≤ limit
    pub now : IsBusAt D M stands host xs stations

  -- THE HOST'S CHANGES WERE PLAYED, and all that the drives made of them was added.
  pub record HasPlayed (host : Lines) (limit : ℕ) (xs : List (Seated D)) (old new : List Event) (cs : List Change) (ss : List (Station M)) : Type 0 where
    pub made : List Event
    pub from : ℕ
    pub stations : List (Station M)
    pub added : new ≡ old ++ made
    pub plays : Plays M step says 0 ss made from stations
    pub hosts : host_changes made ≡ cs
    pub before : from ≤ limit
    pub now : IsBusAt D M stands host xs stations

  -- WANT OF MEMORY: a beginning of the changes was played, with what came of them up to there; all that happened was added.
  pub record IsPlayCut (host : Lines) (xs : List (Seated D)) (old new : List Event) (cs : List Change) (ss : List (Station M)) : Type 0 where
    pub made : List Event
    pub rest : List Change
    pub from : ℕ
    pub stations : List (Station M)
    pub added : new ≡ old ++ made
    pub plays : Plays M step says 0 ss made from stations
    pub hosts : host_changes made ++ rest ≡ cs
    pub now : IsBusAt D M stands host xs stations

  -- WHATEVER THE HOST DID: all that happened was added, and the machine of each drive ran what the wires handed to it and nothing else.
  pub record HasHanded (host : Lines) (end : ℕ) (xs : List (Seated D)) (old new : List Event) (cs : List Change) (bs : List Party) (ms : ℕ → M) : Type 0 where
    pub made : List Event
    pub stations : List (Station M)
    pub added : new ≡ old ++ made
    pub hosts : host_changes made ≡ cs
    pub handed : AllHanded M step says end ms made bs stations
    pub now : IsBusAt D M stands host xs stations
