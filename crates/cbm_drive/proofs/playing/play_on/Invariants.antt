use Rattle.std.proofs.Common.{List, [], take, drop}
use Rattle.cbm_session.specs.Playing.{Station}
use Rattle.cbm_drive.specs.Ordered.{AreOrdered, latest}
use Rattle.cbm_drive.specs.Players.{IsOpen, HasAdded}
use Rattle.cbm_drive.specs.Seats.{IsBusAt, Unfailed, AreCarried}
use Rattle.cbm_drive.proofs.playing.play_on.Given as goal

-- the changes so far were played, and those left are in order after them
abbrev pub invariant-loop-change : goal.invariant-loop-change
invariant-loop-change g l =
    let before = latest 0 (take l.change-index l.changes) in record {
      added : Unfailed g.D.Machine.failures l.initial.bus.drives l.bus.drives → (ss : List (Station g.D.Machine.State)) → IsBusAt _ g.D.Machine.State g.D.Machine.stands l.initial.bus.host l.initial.bus.drives ss
          → HasAdded _ g.D.Machine.State g.D.Machine.stands g.D.Machine.step g.D.Machine.says l.player l.bus l.initial.events.items l.events.items (take l.change-index l.changes) 0 ss [];
      open_ : IsOpen l.player before;
      ordered : AreOrdered before l.end (drop l.change-index l.changes);
      carried : AreCarried g.D.Machine.lasting g.D.Machine.failures l.initial.bus.drives l.bus.drives;
    }
