-- A drive with its DOS alone on a cable with a host: at rest between the host's requests, and in the middle of one.
use Rattle.std.specs.Prelude.{◌≡◌, ◌≤◌, ℕ, ◌+◌, Bool, true, List, [], ◌∷◌, ◌++◌, Option, MatchOption}
use Rattle.cbm_medium.specs.Seen.{Seen}
use Rattle.cbm_machine.specs.Machines.{Machine}
use Rattle.cbm_channel.specs.Standing.{Kept}
use Rattle.cbm_drive.specs.Cables.{Cabled}
use Rattle.cbm_drive.specs.Desks.{Desk, DeskStands, desk_step, desk_says}
use Rattle.cbm_drive.specs.Seats.{IsBusAt, failed, numbers, Unfailed}
use Rattle.cbm_host.specs.Engines.{Engined, channel_of, engine_at}
use Rattle.cbm_host.specs.Performed.{IsPerforming, HasPerformed}
use Rattle.cbm_host.specs.Performers.{Performing}
use Rattle.cbm_host.specs.Requests.{longest}
use Rattle.cbm_host.specs.Served.{served, at_power_up, IsModest}
use Rattle.cbm_host.specs.declared.request.Request.{Request}
use Rattle.cbm_iec.specs.declared.machine.Act.{Act}
use Rattle.cbm_iec.specs.declared.event.Event.{Event}
use Rattle.cbm_iec.specs.declared.pace.Pace.{Pace}
use Rattle.cbm_iec.specs.declared.party.Party.{Party}
use Rattle.cbm_session.specs.Playing.{Station, at_rest}

module _ (D M : Type 0) (stands : D → M → Type 0) (step : M → Act → M) (says : M → Option (ℕ × Bool)) where
  -- A request is under way up to a limit, and these bytes were taken, whatever its events were.
  pub record IsTaking (e : Engined) (limit : ℕ) (p : Performing) (b : Cabled D) (bytes : List ℕ) (last : Bool) (ss : List (Station M)) : Type 0 where
    pub made : List Event
    pub performing : IsPerforming D M stands step says e limit p b [] made bytes last ss

  -- No more events come of it.
  pub record HasTaken (e : Engined) (limit : ℕ) (p : Performing) (b : Cabled D) (bytes : List ℕ) (last : Bool) (ss : List (Station M)) : Type 0 where
    pub made : List Event
    pub performed : HasPerformed D M stands step says e limit p b [] made bytes last ss

  -- WHERE NO BYTE WAS TAKEN the request is still under way, with those that were.
  abbrev pub TakesOn : Performing → Performing → Cabled D → Cabled D → Type 0
  TakesOn p q b c = (e : Engined) (limit : ℕ) (bytes : List ℕ) (last : Bool) (ss : List (Station M)) → IsTaking e limit p b bytes last ss → IsTaking e limit q c bytes last ss

  -- THE NEXT BYTE that the host takes, or the request's end, if the drive's machine didn't fail in it.
  abbrev pub TakesNextByte : (D → ℕ) → Performing → Performing → Cabled D → Cabled D → Option (ℕ × Bool) → Type 0
  TakesNextByte failures p q b c result = Unfailed failures b.drives c.drives → (e : Engined) (limit : ℕ) (bytes : List ℕ) (last : Bool) (ss : List (Station M)) → IsTaking e limit p b bytes last ss → MatchOption result
      (HasTaken e limit q c bytes last ss) (λ x. IsTaking e limit q c (bytes ++ x.0 ∷ []) x.1 ss)

-- the bus, the drive's device number and pace, and when the last request was over
pub record Hosting (A : Type 0) : Type 0 where
  pub bus : Cabled (Desk A)
  pub device : ℕ
  pub pace : Pace
  pub moment : ℕ

-- the drive, which takes 20 microseconds to react
abbrev pub party_of : Pace → ℕ → Party
party_of pace device = record { device = device; reaction = 20; pace = pace }

-- a drive at rest, for a machine
abbrev pub resting_for : Pace → ℕ → Machine → List (Station (Desk Machine))
resting_for pace device m = at_rest (Desk Machine) desk_step desk_says (λ d. at_power_up pace device m) (party_of pace device ∷ [])

-- The bytes so far are the first of these; with EOI they are all of them.
pub record AreFirst (bytes : List ℕ) (last : Bool) (whole : List ℕ) (marked : Bool) : Type 0 where
  pub more : List ℕ
  pub front : whole ≡ bytes ++ more
  pub all : last ≡ true → (more ≡ []) × (marked ≡ true)

module _ {M : Type 0} (seen : M → Seen) where
  -- how many tracks the disk has
  abbrev pub tracks_on : Hosting (Kept M) → List ℕ
  tracks_on h = numbers (λ x. (seen x.dos.medium).tracks) h.bus.drives

  -- how often the medium failed by itself
  abbrev pub hosted_failures : Hosting (Kept M) → ℕ
  hosted_failures h = failed (λ x. (seen x.dos.medium).failures) h.bus.drives

  -- the medium didn't fail by itself in between
  abbrev pub HasNotFailed : Hosting (Kept M) → Hosting (Kept M) → Type 0
  HasNotFailed old new = hosted_failures new ≤ hosted_failures old

  -- THE DRIVE RESTS, for a machine: all lines are free, and nothing is due.
  abbrev pub Rests : Hosting (Kept M) → Machine → Type 0
  Rests h m = IsBusAt (Desk (Kept M)) (Desk Machine) (DeskStands seen) h.bus.host h.bus.drives (resting_for h.pace h.device m)

  -- A REQUEST IS UNDER WAY to the drive that rested for a machine, and these bytes were taken.
  pub record IsUnderWay (h : Hosting (Kept M)) (p : Performing) (m : Machine) (request : Request) (bytes : List ℕ) (last : Bool) : Type 0 where
    pub start : ℕ
    pub taking : IsTaking (Desk (Kept M)) (Desk Machine) (DeskStands seen) desk_step desk_says (engine_at start h.device request) (start + longest h.pace) p h.bus bytes last (resting_for h.pace h.device m)

  -- One more byte was taken: those so far are the first of what the machine says.
  pub record IsGoingOn (h : Hosting (Kept M)) (p : Performing) (m : Machine) (request : Request) (bytes : List ℕ) (last : Bool) : Type 0 where
    pub under_way : IsUnderWay h p m request bytes last
    pub first : AreFirst bytes last (served h.pace request m).bytes (served h.pace request m).marked

  -- IT IS OVER: the drive rests for the machine that the request leads to, and these are the bytes that it said.
  pub record IsOver (h : Hosting (Kept M)) (m : Machine) (request : Request) (bytes : List ℕ) (last : Bool) : Type 0 where
    pub rests : Rests h (served h.pace request m).machine
    pub said : bytes ≡ (served h.pace request m).bytes
    pub marked : last ≡ (served h.pace request m).marked

  -- THE NEXT BYTE of a request to the machine that the drive rested for, if the medium didn't fail in between: one more was taken, or the request is over.
  abbrev pub TakesNext : Hosting (Kept M) → Hosting (Kept M) → Performing → Performing → Option (ℕ × Bool) → Type 0
  TakesNext old new p q result = HasNotFailed old new → (m : Machine) (request : Request) (bytes : List ℕ) (last : Bool) → channel_of request ≤ 15 → IsModest request →
      IsUnderWay old p m request bytes last → MatchOption result (IsOver new m request bytes last) (λ x. IsGoingOn new q m request (bytes ++ x.0 ∷ []) x.1)
