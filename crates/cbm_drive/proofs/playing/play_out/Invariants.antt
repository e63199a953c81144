use Rattle.std.proofs.Common.{◌+◌, ℕ, List, []}
use Rattle.cbm_iec.specs.declared.event.Event.{Event}
use Rattle.cbm_session.specs.Playing.{Station}
use Rattle.cbm_drive.specs.Players.{at_most, IsOpen, IsAfter, HasAdded}
use Rattle.cbm_drive.specs.Seats.{Unfailed, AreCarried}
use Rattle.cbm_drive.proofs.playing.play_out.Given as goal

-- what came so far was added
abbrev pub invariant-events : goal.invariant-events
invariant-events g l = record {
  added : Unfailed g.D.Machine.failures l.fn.bus.drives l.bus.drives → (n : ℕ) (ss : List (Station g.D.Machine.State)) (es : List Event) → IsAfter _ g.D.Machine.State g.D.Machine.stands g.D.Machine.step g.D.Machine.says l.fn.player l.fn.bus n ss es
      → HasAdded _ g.D.Machine.State g.D.Machine.stands g.D.Machine.step g.D.Machine.says l.player l.bus l.fn.events.items l.events.items [] n ss es;
  open_ : IsOpen l.player (l.end + 1);
  carried : AreCarried g.D.Machine.lasting g.D.Machine.failures l.fn.bus.drives l.bus.drives;
}

abbrev pub decreases-events : goal.decreases-events
decreases-events g l = at_most (l.end + 1) l.player.second l.bus.drives
