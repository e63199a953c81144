-- What is promised of drives with disks under a host: the headline.
use Rattle.std.specs.Prelude.{ℕ, ◌+◌, None, Result, OnOk, MatchResult, ◌≡◌, ◌≤◌, ◌==◌, List, [], ◌∷◌, ◌++◌, map, if◌then◌else◌}
use Rattle.std.specs.List.{AllZip}
use Rattle.cbm_iec.specs.declared.event.Event.{Event}
use Rattle.cbm_iec.specs.declared.lines.Change.{Change}
use Rattle.cbm_iec.specs.declared.party.Party.{Party}
use Rattle.cbm_medium.specs.Seen.{Seen}
use Rattle.cbm_file.specs.Files.{Disk}
use Rattle.cbm_machine.specs.Machines.{Machine}
use Rattle.cbm_channel.specs.Standing.{Kept}
use Rattle.cbm_volume.specs.Holding.{HoldsDisk}
use Rattle.cbm_session.specs.Loosely.{HostKeepsLoosely, IsKeptLoosely}
use Rattle.cbm_session.specs.Playing.{Station, IsKept, at_rest}
use Rattle.cbm_session.specs.Timing.{HostKeeps}
use Rattle.cbm_drive.specs.Cables.{Cabled}
use Rattle.cbm_drive.specs.Desks.{Desk, DeskStands, desk_step, desk_says}
use Rattle.cbm_bus.specs.Powered.{IsAtRest}
use Rattle.cbm_drive.specs.Ordered.{fault_of, host_changes}
use Rattle.cbm_drive.specs.Played.{HasHanded, HasPlayed, IsPlayCut}
use Rattle.cbm_session.specs.Handed.{AllReact}
use Rattle.cbm_session.specs.Sessions.{AllUnlike, IsBus}
use Rattle.cbm_drive.specs.Seats.{Seated, failed, IsBusAt}

-- the machine of the drive with this device number; that of a number that none of them has is as it was
abbrev pub machines_now : List (Station (Desk Machine)) → (ℕ → Desk Machine) → ℕ → Desk Machine
machines_now [] ms d = ms d
machines_now (s ∷ ss) ms d = if s.port.party.device == d then s.machine else machines_now ss ms d

module _ {M : Type 0} (seen : M → Seen) where
  -- the medium in this drive is sound, and means this disk
  abbrev pub HasDisk : Disk → Seated (Desk (Kept M)) → Type 0
  HasDisk d x = HoldsDisk (seen x.machine.dos.medium).tracks (seen x.machine.dos.medium).content d

  -- each drive's medium is sound: these are the disks that they mean
  abbrev pub AreDisks : Cabled (Desk (Kept M)) → Type 0
  AreDisks b = (ds : List Disk) × AllZip (λ x d. HasDisk d x) b.drives ds

  -- how often the media failed by themselves, all together
  abbrev pub failures_on : Cabled (Desk (Kept M)) → ℕ
  failures_on b = failed (λ x. (seen x.dos.medium).failures) b.drives

  -- no medium failed by itself in between
  abbrev pub HaveNotFailed : Cabled (Desk (Kept M)) → Cabled (Desk (Kept M)) → Type 0
  HaveNotFailed old new = failures_on new ≤ failures_on old

  -- EACH DRIVE REPRESENTS its machine at this moment, in the order of these parties: it has a role, holds lines and waits as the station says.
  pub record AreAt (bs : List Party) (b : Cabled (Desk (Kept M))) (ss : List (Station (Desk Machine))) : Type 0 where
    pub parties : map (λ s. s.port.party) ss ≡ bs
    pub each : IsBusAt (Desk (Kept M)) (Desk Machine) (DeskStands seen) b.host b.drives ss

  -- THE HEADLINE. From rest, with machines ms, these changes of the host were played up to an end, and all that happened was added to the events: the host's changes
  -- are the list. Each medium is sound and means its machine's disk. Where the host kept the timing, what happened is a beginning of a session in which each byte
  -- talked is the machine's answer, each machine is where the acts that count lead from ms, and no reaction is late.
  pub record HasPlayedFiles (bs : List Party) (ms : ℕ → Desk Machine) (end : ℕ) (changes : List Change) (b : Cabled (Desk (Kept M))) (old new : List Event) : Type 0 where
    pub made : List Event
    pub now : List (Station (Desk Machine))
    pub added : new ≡ old ++ made
    pub hosts : host_changes made ≡ changes
    pub disks : AllZip (λ x s. HasDisk s.machine.dos.disk x) b.drives now
    pub session : HostKeeps bs made end → IsKept (Desk Machine) desk_step desk_says bs ms made end now
    pub stand : AreAt bs b now

  -- THE SAME PLAY UNDER A HOST THAT KEEPS THE TIMING LOOSELY, as a computer's KERNAL does: a trace with the same events of the drives is a beginning of a session in which
  -- each byte talked is the machine's answer, and no reaction is late; and the machines are the same.
  pub record HasPlayedFilesLoosely (bs : List Party) (ms : ℕ → Desk Machine) (end : ℕ) (changes : List Change) (b : Cabled (Desk (Kept M))) (old new : List Event) : Type 0 where
    pub play : HasPlayedFiles bs ms end changes b old new
    pub loosely : HostKeepsLoosely (Desk Machine) desk_step desk_says bs ms play.made end → IsKeptLoosely (Desk Machine) desk_step desk_says bs ms play.made end play.now

  -- so it is of any bus that was at rest, of a list in order that was played to its end, if no medium failed by itself
  abbrev pub PlaysFiles : {E : Type 0} → Cabled (Desk (Kept M)) → Cabled (Desk (Kept M)) → ℕ → List Event → List Event → List Change → Result (Unit {0}) E → Type 0
  PlaysFiles b c end old new cs result = HaveNotFailed b c → (bs : List Party) (ms : ℕ → Desk Machine) → IsBus bs → IsAtRest seen bs ms b → fault_of 0 0 end cs ≡ None →
      OnOk result (HasPlayedFiles bs ms end cs c old new)

  -- and so it is of what is promised where the host keeps the timing loosely
  abbrev pub PlaysFilesLoosely : {E : Type 0} → Cabled (Desk (Kept M)) → Cabled (Desk (Kept M)) → ℕ → List Event → List Event → List Change → Result (Unit {0}) E → Type 0
  PlaysFilesLoosely b c end old new cs result = HaveNotFailed b c → (bs : List Party) (ms : ℕ → Desk Machine) → IsBus bs → IsAtRest seen bs ms b → fault_of 0 0 end cs ≡ None →
      OnOk result (HasPlayedFilesLoosely bs ms end cs c old new)

  -- FROM REST each disk is sound afterwards, if no medium failed by itself.
  abbrev pub KeepsDisks : Cabled (Desk (Kept M)) → Cabled (Desk (Kept M)) → Type 0
  KeepsDisks b c = HaveNotFailed b c → (bs : List Party) (ms : ℕ → Desk Machine) → IsAtRest seen bs ms b → AreDisks c

  -- WHETHER OR NOT THE HOST KEEPS ANY TIMING, from rest: the machine of each drive ran what the wires handed to it, if no medium failed by itself.
  abbrev pub HandsToMachines : {E : Type 0} → Cabled (Desk (Kept M)) → Cabled (Desk (Kept M)) → ℕ → List Event → List Event → List Change → Result (Unit {0}) E → Type 0
  HandsToMachines b c end old new cs result = HaveNotFailed b c → (bs : List Party) (ms : ℕ → Desk Machine) → AllUnlike bs → AllReact bs → IsAtRest seen bs ms b →
      OnOk result (HasHanded (Desk (Kept M)) (Desk Machine) (DeskStands seen) desk_step desk_says c.host end c.drives old new cs bs ms)

  -- WHETHER OR NOT THE HOST KEEPS ANY TIMING, from rest, of a list in order, if no medium failed by itself: the events are what the machines of the drives did up to the end;
  -- at want of memory they are all that the machines did up to some step, and the machines are where it left them.
  abbrev pub PlaysOrIsCut : {E : Type 0} → Cabled (Desk (Kept M)) → Cabled (Desk (Kept M)) → ℕ → List Event → List Event → List Change → Result (Unit {0}) E → Type 0
  PlaysOrIsCut b c end old new cs result = HaveNotFailed b c → (bs : List Party) (ms : ℕ → Desk Machine) → IsAtRest seen bs ms b → fault_of 0 0 end cs ≡ None →
      MatchResult result (λ _. HasPlayed (Desk (Kept M)) (Desk Machine) (DeskStands seen) desk_step desk_says c.host (end + 1) c.drives old new cs (at_rest (Desk Machine) desk_step desk_says ms bs))
      (λ _. IsPlayCut (Desk (Kept M)) (Desk Machine) (DeskStands seen) desk_step desk_says c.host c.drives old new cs (at_rest (Desk Machine) desk_step desk_says ms bs))
