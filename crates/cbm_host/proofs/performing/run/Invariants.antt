use Rattle.cbm_drive.specs.Seats.{Unfailed}
use Rattle.std.proofs.Common.{◌≡◌, ℕ, List, ◌++◌}
use Rattle.cbm_host.proofs.performing.run.Given as goal
use Rattle.cbm_host.specs.Engines.{Engined}
use Rattle.cbm_host.specs.Performed.{IsPerforming, HasAddedUpTo}
use Rattle.cbm_drive.specs.Playback.{Shown, Playback}
use Rattle.cbm_host.specs.Progress.{left_of}
use Rattle.cbm_host.specs.Recorded.{IsPerformingBack}
use Rattle.cbm_iec.specs.declared.event.Event.{Event}
use Rattle.cbm_session.specs.Playing.{Station}

-- the request is still under way, with the limit that it had
abbrev pub invariant-events : goal.invariant-events
invariant-events g l = record {
  performing : Unfailed g.D.Machine.failures l.fn.bus.drives l.bus.drives → (e : Engined) (limit : ℕ) (old : List Event) (ss : List (Station g.D.Machine.State)) → IsPerforming _ g.D.Machine.State g.D.Machine.stands g.D.Machine.step g.D.Machine.says e limit l.fn.performer l.fn.bus old l.fn.events.items l.fn.done.bytes.items l.fn.done.last ss
      → IsPerforming _ g.D.Machine.State g.D.Machine.stands g.D.Machine.step g.D.Machine.says e limit l.performer l.bus old l.events.items l.done.bytes.items l.done.last ss;
  counted : Unfailed g.D.Machine.failures l.bus.drives l.fn.bus.drives;
  within : HasAddedUpTo l.fn.performer.limit l.fn.events.items l.events.items;
  limit : l.performer.limit ≡ l.fn.performer.limit;
  recorded : (trail : List Shown) × ((later : List Shown) (e : Engined) (limit : ℕ) (old : List Event) (ss : List (Station Playback)) → IsPerformingBack g.D.Machine.shows (trail ++ later) e limit l.fn.performer l.fn.bus old l.fn.events.items l.fn.done.bytes.items l.fn.done.last ss
      → IsPerformingBack g.D.Machine.shows later e limit l.performer l.bus old l.events.items l.done.bytes.items l.done.last ss);
}

-- less is left to come after each event
abbrev pub decreases-events : goal.decreases-events
decreases-events g l = left_of l.performer l.bus
