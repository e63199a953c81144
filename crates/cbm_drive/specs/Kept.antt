-- A bus that was played from rest, under a host that keeps the timing.
use Rattle.std.specs.Prelude.{ℕ, ◌≡◌, Bool, List, ◌++◌, Option}
use Rattle.cbm_iec.specs.declared.machine.Act.{Act}
use Rattle.cbm_iec.specs.declared.event.Event.{Event}
use Rattle.cbm_iec.specs.declared.lines.Lines.{Lines}
use Rattle.cbm_iec.specs.declared.party.Party.{Party}
use Rattle.cbm_session.specs.Loosely.{HostKeepsLoosely, IsKeptLoosely}
use Rattle.cbm_session.specs.Playing.{Station, IsKept}
use Rattle.cbm_session.specs.Timing.{HostKeeps}
use Rattle.cbm_drive.specs.Seats.{Seated, IsBusAt}

module _ (D M : Type 0) (stands : D → M → Type 0) (step : M → Act → M) (says : M → Option (ℕ × Bool)) where
  -- THE HEADLINE. These drives, whose machines began as ms, were played up to an end, and what was made was added to the events. Where the host kept the timing,
  -- that is a beginning of a session in which each byte talked is the machine's answer to the bytes sent, and no reaction is late; and each drive now
  -- represents the machine that ran exactly the acts that count in it.
  pub record HasKept (bs : List Party) (ms : ℕ → M) (host : Lines) (end : ℕ) (xs : List (Seated D)) (old new : List Event) : Type 0 where
    pub made : List Event
    pub stations : List (Station M)
    pub added : new ≡ old ++ made
    pub now : IsBusAt D M stands host xs stations
    pub kept : HostKeeps bs made end → IsKept M step says bs ms made end stations

  -- THE SAME PLAY UNDER A HOST THAT KEEPS THE TIMING LOOSELY, as a computer's KERNAL does: this is true of a trace with the same events of the drives, and of the same
  -- machines.
  pub record HasKeptLoosely (bs : List Party) (ms : ℕ → M) (host : Lines) (end : ℕ) (xs : List (Seated D)) (old new : List Event) : Type 0 where
    pub play : HasKept bs ms host end xs old new
    pub loosely : HostKeepsLoosely M step says bs ms play.made end → IsKeptLoosely M step says bs ms play.made end play.stations
