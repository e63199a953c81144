-- A request played on a bus, event by event.
use Rattle.std.specs.Prelude.{◌≡◌, ◌≤◌, ◌<◌, ◌⊎◌, ◌+◌, ◌&&◌, ℕ, min, Bool, true, false, List, [], ◌∷◌, ◌++◌, Option, Some, None, IfSome, MatchOption}
use Rattle.cbm_drive.specs.Cables.{Cabled}
use Rattle.cbm_drive.specs.Halves.{half_alone, has_nothing}
use Rattle.cbm_drive.specs.Seats.{Unfailed}
use Rattle.cbm_drive.specs.Players.{Turns, at_start, from_after, pending, IsAfter, IsStill}
use Rattle.cbm_drive.specs.Silence.{AreSilent}
use Rattle.cbm_host.specs.Engines.{Engined, stage_gathers, stage_taken, engine_due, engine_made, engine_seen, engine_passed}
use Rattle.cbm_host.specs.declared.due.Due.{Due}
use Rattle.cbm_host.specs.declared.due.Due.TheVariants.{Makes, Waits, Hears, Over}
use Rattle.cbm_host.specs.Performing.{IsBefore}
use Rattle.cbm_iec.specs.declared.machine.Act.{Act}
use Rattle.cbm_iec.specs.declared.event.Event.{Event}
use Rattle.cbm_iec.specs.declared.event.Who.TheVariants.{Host, Drive}
use Rattle.cbm_iec.specs.declared.event.Who.{Who}
use Rattle.cbm_iec.specs.declared.lines.Change.{Change}
use Rattle.cbm_session.specs.Playing.{Station, Plays}

-- a player with the engine that hands it the host's changes, the byte that the last event took, and the moment at which it gives up
pub record Performing : Type 0 where
  pub player : Turns
  pub engine : Engined
  pub byte : Option (ℕ × Bool)
  pub limit : ℕ

-- whether half of a bit comes next, for which the host waits
abbrev pub half_comes : {D : Type 0} → Performing → Cabled D → Bool
half_comes p bus = stage_gathers p.engine.stage && (has_nothing p.player && half_alone (p.limit + 1) bus.drives)

-- A REQUEST BEFORE ITS FIRST EVENT: nothing was played, and the host gives up at this limit.
pub record IsBeforeEvents (p : Performing) (e : Engined) (until : ℕ) : Type 0 where
  pub player : p.player ≡ at_start
  pub engine : p.engine ≡ e
  pub byte : p.byte ≡ None
  pub limit : p.limit ≡ until

-- the engine is as it was, and so is the limit
pub record KeepsEngine (p q : Performing) : Type 0 where
  pub engine : q.engine ≡ p.engine
  pub limit : q.limit ≡ p.limit

-- the change that is pending in the player is what the host does next
abbrev pub IsHandedOn : Option Change → Engined → Type 0
IsHandedOn None e = Unit {0}
IsHandedOn (Some c) e = engine_due e ≡ Makes c

-- THE HOST'S CHANGE IS HANDED ON to the player, which may refuse it.
pub record HandsOn (c : Change) (p q : Performing) (result : Bool) : Type 0 where
  -- It is pending then, also where it was pending before.
  pub waits : result ≡ true → IsHandedOn p.player.waiting p.engine → q.player.waiting ≡ Some c
  -- A change that is refused comes too soon, and nothing has changed.
  pub refused : result ≡ false → (c.moment < p.player.from) × (q.player ≡ p.player)
  -- All else is as it was.
  pub second : q.player.second ≡ p.player.second
  pub from : q.player.from ≡ p.player.from
  pub engine : q.engine ≡ p.engine
  pub limit : q.limit ≡ p.limit

-- a change of the host is the one that was due; one of the drive comes before what the host does next
abbrev pub IsDue : Who → Change → Engined → Type 0
IsDue Host c e = engine_due e ≡ Makes c
IsDue (Drive d) c e = IsBefore c.moment (engine_due e)

-- the engine after an event
abbrev pub engine_after : Who → Change → Engined → Engined
engine_after Host c e = engine_made c.moment e
engine_after (Drive d) c e = engine_seen c e

-- the byte that the host took with an event
abbrev pub byte_with : Who → Engined → Option (ℕ × Bool)
byte_with Host e = stage_taken e.stage
byte_with (Drive d) e = None

-- up to when the player may be asked, by what the host does next: its change is pending in the player, or it waits for longer
abbrev pub IsAsked : ℕ → Option Change → Due → Type 0
IsAsked upto waiting (Makes c) = (waiting ≡ Some c) × (upto ≤ c.moment)
IsAsked upto waiting (Waits until) = upto < until
IsAsked upto waiting Hears = Unit {0}
IsAsked upto waiting (Over at) = ⊥

-- the host's change that is due comes no more: it is later than the host gives up, or the player refuses it
abbrev pub IsChangeRefused : Turns → ℕ → Change → Type 0
IsChangeRefused p limit c = (limit < c.moment) ⊎ (c.moment < p.from)

module _ (M : Type 0) (step : M → Act → M) (says : M → Option (ℕ × Bool)) where
  -- AFTER THESE EVENTS NO DRIVE CHANGES A LINE before a moment, if the host changes none.
  pub record IsQuietUntil (t n : ℕ) (ss : List (Station M)) (es : List Event) : Type 0 where
    pub second : Option Event
    pub from : ℕ
    pub stations : List (Station M)
    pub plays : Plays M step says n ss (es ++ pending second) from stations
    pub later : IfSome second (λ e. t ≤ e.change.moment)
    pub silent : second ≡ None → AreSilent M step says t stations

  -- the engine after these events: as it was with the last of them, or, where the host waited and nothing came by then, as it is after the wait
  abbrev pub GoesOnFrom : ℕ → List (Station M) → List Event → Engined → Engined → Type 0
  GoesOnFrom n ss es old e = (e ≡ old) ⊎ ((until : ℕ) × (engine_due old ≡ Waits until) × (e ≡ engine_passed old) × IsQuietUntil until n ss es)

  -- WHY NO EVENT COMES: the host's change that is due comes no more; nothing comes up to the limit; or the request is over.
  abbrev pub StopsPerforming : Turns → ℕ → ℕ → List (Station M) → List Event → Due → Type 0
  StopsPerforming p limit n ss es (Makes c) = IsChangeRefused p limit c
  StopsPerforming p limit n ss es (Waits until) = (limit < until) × IsQuietUntil (limit + 1) n ss es
  StopsPerforming p limit n ss es Hears = IsQuietUntil (limit + 1) n ss es
  StopsPerforming p limit n ss es (Over at) = Unit {0}

module _ (D M : Type 0) (stands : D → M → Type 0) (step : M → Act → M) (says : M → Option (ℕ × Bool)) where
  -- THESE EVENTS CAME: they are a play of the bus from these stations, and the change pending in the player is what the host does next.
  pub record IsGoing (p : Performing) (b : Cabled D) (n : ℕ) (ss : List (Station M)) (es : List Event) : Type 0 where
    pub after : IsAfter D M stands step says p.player b n ss es
    pub handed : IsHandedOn p.player.waiting p.engine

  -- the host's change comes no more, and all is as it was
  pub record IsHeldBack (old new : Performing) (b c : Cabled D) (change : Change) : Type 0 where
    pub player : new.player ≡ old.player
    pub bus : c ≡ b
    pub why : IsChangeRefused old.player old.limit change

  -- no drive changes a line before this moment, nor up to the limit, and all is as it was
  pub record IsUnmoved (old new : Performing) (b c : Cabled D) (until n : ℕ) (ss : List (Station M)) (es : List Event) : Type 0 where
    pub player : new.player ≡ old.player
    pub bus : c ≡ b
    pub quiet : IsQuietUntil M step says (min until (old.limit + 1)) n ss es

  -- none came
  pub record HasStopped (old new : Performing) (b : Cabled D) (n : ℕ) (ss : List (Station M)) (es : List Event) : Type 0 where
    pub going : IsGoing new b n ss es
    pub goes_on : GoesOnFrom M step says n ss es old.engine new.engine
    pub stops : StopsPerforming M step says new.player new.limit n ss es (engine_due new.engine)
    pub from : new.player.from ≡ old.player.from
    pub limit : new.limit ≡ old.limit

  -- one more came, and the engine is still to be told
  pub record HasCome (old new : Performing) (b : Cabled D) (n : ℕ) (ss : List (Station M)) (es : List Event) (e : Event) : Type 0 where
    pub after : IsAfter D M stands step says new.player b n ss (es ++ e ∷ [])
    pub goes_on : GoesOnFrom M step says n ss es old.engine new.engine
    pub due : IsDue e.who e.change new.engine
    pub handed : IsHandedOn new.player.waiting (engine_after e.who e.change new.engine)
    pub moment : e.change.moment ≤ new.limit
    pub from : new.player.from ≡ from_after e.who e.change.moment
    pub limit : new.limit ≡ old.limit

  -- THE NEXT EVENT: the host's change that was due, or what the drive did before; and the byte that the host took with it.
  pub record HasNext (old new : Performing) (b : Cabled D) (n : ℕ) (ss : List (Station M)) (es : List Event) (e : Event) : Type 0 where
    pub going : IsGoing new b n ss (es ++ e ∷ [])
    pub found : Engined
    pub goes_on : GoesOnFrom M step says n ss es old.engine found
    pub due : IsDue e.who e.change found
    pub engine : new.engine ≡ engine_after e.who e.change found
    pub byte : new.byte ≡ byte_with e.who found
    pub from : new.player.from ≡ from_after e.who e.change.moment
    pub limit : new.limit ≡ old.limit

  -- WHERE A REQUEST GOES ON, if the drive's machine didn't fail in it: after all events that came so far one more comes, or none comes, and why.
  abbrev pub GoesOnPerforming : (D → ℕ) → Performing → Performing → Cabled D → Cabled D → Option Event → Type 0
  GoesOnPerforming failures old new b c result = Unfailed failures b.drives c.drives → (n : ℕ) (ss : List (Station M)) (es : List Event) → IsGoing old b n ss es → MatchOption result (HasStopped old new c n ss es) (HasCome old new c n ss es)

  -- the same up to a moment, where the host does nothing else than what it has handed on
  abbrev pub GoesUpTo : (D → ℕ) → ℕ → Performing → Performing → Cabled D → Cabled D → Option Event → Type 0
  GoesUpTo failures upto old new b c result = Unfailed failures b.drives c.drives → (n : ℕ) (ss : List (Station M)) (es : List Event) → (g : IsGoing old b n ss es) → IsAsked upto old.player.waiting (engine_due old.engine) → MatchOption result
      (IsStill D M stands step says old.player new.player b c upto g.after.stations) (HasCome old new c n ss es)

  -- The next event of a request comes, or no more do, and why, if the drive's machine didn't fail in it.
  abbrev pub GoesToNext : (D → ℕ) → Performing → Performing → Cabled D → Cabled D → Option Event → Type 0
  GoesToNext failures old new b c result = Unfailed failures b.drives c.drives → (n : ℕ) (ss : List (Station M)) (es : List Event) → IsGoing old b n ss es → MatchOption result (HasStopped old new c n ss es) (HasNext old new c n ss es)

  -- The host's change comes, or the drive's before it; or it is held back; if the drive's machine didn't fail in it.
  abbrev pub PlaysChange : (D → ℕ) → Change → Performing → Performing → Cabled D → Cabled D → Option Event → Type 0
  PlaysChange failures change old new b c result = Unfailed failures b.drives c.drives → (n : ℕ) (ss : List (Station M)) (es : List Event) → IsGoing old b n ss es → MatchOption result (IsHeldBack old new b c change) (HasCome old new c n ss es)

  -- The drive's change comes before this moment, or none does; if the drive's machine didn't fail in it.
  abbrev pub ComesBefore : (D → ℕ) → ℕ → Performing → Performing → Cabled D → Cabled D → Option Event → Type 0
  ComesBefore failures until old new b c result = Unfailed failures b.drives c.drives → (n : ℕ) (ss : List (Station M)) (es : List Event) → IsGoing old b n ss es → MatchOption result (IsUnmoved old new b c until n ss es) (HasCome old new c n ss es)
