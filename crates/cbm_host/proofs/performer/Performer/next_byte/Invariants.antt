use Rattle.std.proofs.Common.{◌≡◌, ◌≤◌, ◌++◌, ℕ, Bool, List}
use Rattle.cbm_drive.specs.Seats.{Unfailed, AreCarried}
use Rattle.cbm_host.specs.Engines.{Engined}
use Rattle.cbm_host.specs.Hosted.{IsTaking}
use Rattle.cbm_drive.specs.Playback.{Shown, Playback, played_says, played_step, IsPlayedBack}
use Rattle.cbm_host.specs.Progress.{left_of}
use Rattle.cbm_session.specs.Playing.{Station}
use Rattle.cbm_host.proofs.performer.Performer.next_byte.Given as goal

-- no byte was taken since
abbrev pub invariant-events : goal.invariant-events
invariant-events g l = record {
  taking : Unfailed g.D.Machine.failures l.fn.bus.drives l.bus.drives → (e : Engined) (limit : ℕ) (bytes : List ℕ) (last : Bool) (ss : List (Station g.D.Machine.State)) → IsTaking _ g.D.Machine.State g.D.Machine.stands g.D.Machine.step g.D.Machine.says e limit l.fn.self l.fn.bus bytes last ss
      → IsTaking _ g.D.Machine.State g.D.Machine.stands g.D.Machine.step g.D.Machine.says e limit l.self l.bus bytes last ss;
  carried : AreCarried g.D.Machine.lasting g.D.Machine.failures l.fn.bus.drives l.bus.drives;
  fewer : left_of l.self l.bus ≤ left_of l.fn.self l.fn.bus;
  limit : l.self.limit ≡ l.fn.self.limit;
  recorded : (trail : List Shown) × ((later : List Shown) (e : Engined) (limit : ℕ) (bytes : List ℕ) (last : Bool) (ss : List (Station Playback)) → IsTaking _ Playback (IsPlayedBack g.D.Machine.shows (trail ++ later)) played_step played_says e limit l.fn.self l.fn.bus bytes last ss
      → IsTaking _ Playback (IsPlayedBack g.D.Machine.shows later) played_step played_says e limit l.self l.bus bytes last ss);
}

abbrev pub decreases-events : goal.decreases-events
decreases-events g l = left_of l.self l.bus
