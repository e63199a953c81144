-- A drive under a host whose changes are made one at a time, and printed with what comes of them.
use Rattle.std.specs.Prelude.{Bool, ◌≡◌, ℕ, List, [], ◌∷◌, ◌++◌, Option, None, Result, OnErr, IfErr}
use Rattle.std.specs.Io.KnownBytes.{Appends}
use Rattle.cbm_iec.specs.declared.machine.Act.{Act}
use Rattle.cbm_iec.specs.declared.event.Event.{Event}
use Rattle.cbm_iec.specs.declared.lines.Change.{Change}
use Rattle.cbm_iec.specs.declared.party.Party.{Party}
use Rattle.cbm_medium.specs.Seen.{Seen}
use Rattle.cbm_session.specs.Playing.{Station, Plays}
use Rattle.cbm_file.specs.Files.{Disk}
use Rattle.cbm_machine.specs.Machines.{Machine, start}
use Rattle.cbm_drive.specs.Cables.{Cabled}
use Rattle.cbm_drive.specs.Desks.{Desk, DeskStands, desk_step, desk_says}
use Rattle.cbm_drive.specs.Playback.{Shown, Playback, IsPlayedBack, played_says, played_step}
use Rattle.cbm_drive.specs.Ordered.{host_changes}
use Rattle.cbm_drive.specs.Players.{Turns, IsAfter, IsFinished}
use Rattle.cbm_drive.specs.Seats.{Seated, numbers}
use Rattle.cbm_volume.specs.Holding.{HoldsDisk}
use Rattle.cbm_program.specs.declared.fault.RunFault.{RunFault}
use Rattle.cbm_program.specs.Output.{AppendsPart, AppendsMore}
use Rattle.cbm_program.specs.Running.{IsOfWriting}
use Rattle.bus_traces.specs.Events.{trace_text}
use Rattle.cbm_program.specs.Traces.{trace_powered, replaying}
use Rattle.cbm_drive.specs.KeptDesks.{KeptDesk, DosStands}

module _ (D S : Type 0) (stands : D → S → Type 0) (step : S → Act → S) (says : S → Option (ℕ × Bool)) where
  -- These changes of the host were made, and what came of them; all events were written.
  pub record HasMade (a b : Option (List ℕ)) (cs : List Change) (p : Turns) (c : Cabled D) (ss : List (Station S)) (es : List Event) : Type 0 where
    pub made : List Event
    pub now : IsAfter D S stands step says p c 0 ss (es ++ made)
    pub hosts : host_changes made ≡ cs
    pub written : Appends a b (trace_text made)

  -- The drive was played to an end: nothing is due any more, and all events were written.
  pub record HasMadeTo (a b : Option (List ℕ)) (end : ℕ) (p : Turns) (c : Cabled D) (ss : List (Station S)) (es : List Event) : Type 0 where
    pub made : List Event
    pub now : IsFinished D S stands step says p c end 0 ss (es ++ made)
    pub hosts : host_changes made ≡ []
    pub written : Appends a b (trace_text made)

module _ {M : Type 0} (seen : M → Seen) where
  -- how many tracks the disks of these drives have
  abbrev pub tracks_of_drives : Cabled (KeptDesk M) → List ℕ
  tracks_of_drives b = numbers (λ x. (seen x.dos.medium).tracks) b.drives

  -- the one drive of this bus represents a machine
  abbrev pub IsBorne : Cabled (KeptDesk M) → Machine → Type 0
  IsBorne b m = (x : Seated (KeptDesk M)) × (b.drives ≡ x ∷ []) × DosStands seen x.machine m

  -- from these stations these events were given
  abbrev pub IsAt : Turns → Cabled (KeptDesk M) → List (Station (Desk Machine)) → List Event → Type 0
  IsAt p b ss es = IsAfter (KeptDesk M) (Desk Machine) (DeskStands seen) desk_step desk_says p b 0 ss es

  -- the drive is at power up, for a machine
  abbrev pub IsDriveSwitchedOn : Party → Turns → Cabled (KeptDesk M) → Machine → Type 0
  IsDriveSwitchedOn drive p b m = IsAt p b (trace_powered drive m) []

  -- the same with each disk that a medium which shows this holds
  abbrev pub StandsOn : Seen → Party → Turns → Cabled (KeptDesk M) → Type 0
  StandsOn shows drive p b = (d : Disk) → HoldsDisk shows.tracks shows.content d → IsDriveSwitchedOn drive p b (start d shows.protected shows.tracks)

  -- what was played of a drive that represents a machine of named files
  abbrev pub HasPlayedOn : Option (List ℕ) → Option (List ℕ) → List Change → Turns → Cabled (KeptDesk M) → List (Station (Desk Machine)) → List Event → Type 0
  HasPlayedOn a b cs p c ss es = HasMade (KeptDesk M) (Desk Machine) (DeskStands seen) desk_step desk_says a b cs p c ss es

  -- A beginning of these changes was made, and what came of them; a beginning of the events was written.
  pub record HasPlayedPart (a b : Option (List ℕ)) (cs : List Change) (ss : List (Station (Desk Machine))) (es : List Event) : Type 0 where
    pub made : List Event
    pub rest : List Change
    pub from : ℕ
    pub stations : List (Station (Desk Machine))
    pub plays : Plays (Desk Machine) desk_step desk_says 0 ss (es ++ made) from stations
    pub hosts : host_changes made ++ rest ≡ cs
    pub written : AppendsPart a b (trace_text made)

  -- the same to an end
  abbrev pub HasEnded : Option (List ℕ) → Option (List ℕ) → ℕ → Turns → Cabled (KeptDesk M) → List (Station (Desk Machine)) → List Event → Type 0
  HasEnded a b end p c ss es = HasMadeTo (KeptDesk M) (Desk Machine) (DeskStands seen) desk_step desk_says a b end p c ss es

  -- the drive was played on, wherever it was before
  abbrev pub PlaysOn : Option (List ℕ) → Option (List ℕ) → List Change → Turns → Cabled (KeptDesk M) → Turns → Cabled (KeptDesk M) → Type 0
  PlaysOn a b cs p x q y = (ss : List (Station (Desk Machine))) (es : List Event) → IsAt p x ss es → HasPlayedOn a b cs q y ss es

  -- the drive was played on for a part of the changes, wherever it was before
  abbrev pub PlaysPart : Option (List ℕ) → Option (List ℕ) → List Change → Turns → Cabled (KeptDesk M) → Type 0
  PlaysPart a b cs p x = (ss : List (Station (Desk Machine))) (es : List Event) → IsAt p x ss es → HasPlayedPart a b cs ss es

  -- the drive was played to an end, wherever it was before
  abbrev pub Ends : Option (List ℕ) → Option (List ℕ) → ℕ → Turns → Cabled (KeptDesk M) → Turns → Cabled (KeptDesk M) → Type 0
  Ends a b end p x q y = (ss : List (Station (Desk Machine))) (es : List Event) → IsAt p x ss es → HasEnded a b end q y ss es

  -- WHAT WAS PLAYED was written; at a fault, which is one of writing, a beginning of what comes of these changes. The disk has as many tracks as before.
  pub record HasStaged {A : Type 0} (result : Result A RunFault) (a b : Option (List ℕ)) (cs : List Change) (p : Turns) (x y : Cabled (KeptDesk M)) : Type 0 where
    pub err : OnErr result (PlaysPart a b cs p x)
    pub fault : IfErr result IsOfWriting
    pub grows : AppendsMore a b
    pub tracks : tracks_of_drives y ≡ tracks_of_drives x

module _ {D : Type 0} (shows : D → Shown) where
  -- from these stations of a machine that plays back these events were given, and it will still show these
  abbrev pub IsReplayed : List Shown → Turns → Cabled D → List (Station Playback) → List Event → Type 0
  IsReplayed later p b ss es = IsAfter D Playback (IsPlayedBack shows later) played_step played_says p b 0 ss es

  -- ON ANY DISK: what the drive shows in it is a list (the trail), and of a machine that plays this list back the same was played.
  abbrev pub ReplaysOn : Option (List ℕ) → Option (List ℕ) → List Change → Turns → Cabled D → Turns → Cabled D → Type 0
  ReplaysOn a b cs p x q y = (trail : List Shown) × ((later : List Shown) (ss : List (Station Playback)) (es : List Event) → IsReplayed (trail ++ later) p x ss es
      → HasMade D Playback (IsPlayedBack shows later) played_step played_says a b cs q y ss es)

  -- the same to an end
  abbrev pub ReplaysTo : Option (List ℕ) → Option (List ℕ) → ℕ → Turns → Cabled D → Turns → Cabled D → Type 0
  ReplaysTo a b end p x q y = (trail : List Shown) × ((later : List Shown) (ss : List (Station Playback)) (es : List Event) → IsReplayed (trail ++ later) p x ss es
      → HasMadeTo D Playback (IsPlayedBack shows later) played_step played_says a b end q y ss es)

  -- the drive is at power up, with any disk: whatever it will show, a machine plays it back
  abbrev pub IsFresh : Party → Turns → Cabled D → Type 0
  IsFresh drive p b = (trail : List Shown) → (m : Playback) × IsReplayed trail p b (replaying drive m) []
