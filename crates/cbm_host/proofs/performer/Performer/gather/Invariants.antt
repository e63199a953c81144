use Rattle.std.proofs.Common.{◌≡◌, ◌≤◌, List}
use Rattle.cbm_drive.specs.Playback.{Shown, Playback, played_says, played_step, IsPlayedBack}
use Rattle.cbm_drive.specs.Seats.{AreCarried}
use Rattle.cbm_host.specs.Hosted.{TakesOn}
use Rattle.cbm_host.specs.Progress.{left_of}
use Rattle.cbm_host.proofs.performer.Performer.gather.Given as goal

-- no byte was taken since
abbrev pub invariant-halves : goal.invariant-halves
invariant-halves g l = record {
  taken : TakesOn _ g.D.Machine.State g.D.Machine.stands g.D.Machine.step g.D.Machine.says l.fn.self l.self l.fn.bus l.bus;
  recorded : (later : List Shown) → TakesOn _ Playback (IsPlayedBack g.D.Machine.shows later) played_step played_says l.fn.self l.self l.fn.bus l.bus;
  carried : AreCarried g.D.Machine.lasting g.D.Machine.failures l.fn.bus.drives l.bus.drives;
  fewer : left_of l.self l.bus ≤ left_of l.fn.self l.fn.bus;
  limit : l.self.limit ≡ l.fn.self.limit;
}

abbrev pub decreases-halves : goal.decreases-halves
decreases-halves g l = left_of l.self l.bus
