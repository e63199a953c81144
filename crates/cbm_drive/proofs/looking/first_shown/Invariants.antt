use Rattle.std.proofs.Common.{◌≡◌, ◌≤◌, ℕ, List, [], length}
use Rattle.cbm_session.specs.Playing.{Station}
use Rattle.cbm_drive.specs.Played.{HasSettled}
use Rattle.cbm_drive.specs.Progress.{left}
use Rattle.cbm_drive.specs.Seats.{IsBusAt, Unfailed, AreCarried}
use Rattle.cbm_drive.specs.Silence.{AnyShows}
use Rattle.cbm_drive.proofs.Ahead.{ShowsStill}
use Rattle.cbm_drive.proofs.Alone.{Settles}
use Rattle.cbm_drive.proofs.looking.first_shown.Given as goal

-- nothing was shown so far, and what is to be shown still is
abbrev pub invariant-loop-place : goal.invariant-loop-place
invariant-loop-place g l = record {
  played : Unfailed g.D.Machine.failures l.initial.drives l.drives → (ss : List (Station g.D.Machine.State)) (n until : ℕ) → IsBusAt _ g.D.Machine.State g.D.Machine.stands l.host l.initial.drives ss → n ≤ until → l.limit ≤ until
      → HasSettled _ g.D.Machine.State g.D.Machine.stands g.D.Machine.step g.D.Machine.says l.host until l.drives [] [] n ss;
  still : Unfailed g.D.Machine.failures l.initial.drives l.drives → (ss : List (Station g.D.Machine.State)) → IsBusAt _ g.D.Machine.State g.D.Machine.stands l.host l.initial.drives ss → AnyShows g.D.Machine.State g.D.Machine.step g.D.Machine.says l.limit ss
      → ShowsStill _ g.D.Machine.State g.D.Machine.stands g.D.Machine.step g.D.Machine.says l.host l.limit l.drives;
  same : length l.drives ≡ length l.initial.drives;
  fewer : (until : ℕ) → l.limit ≤ until → left until l.drives ≤ left until l.initial.drives;
  carried : AreCarried g.D.Machine.lasting g.D.Machine.failures l.initial.drives l.drives;
  recorded : length l.initial.drives ≡ 1 → Settles g.D.Machine.shows l.host l.limit l.initial.drives l.drives;
}

abbrev pub decreases-loop-place : goal.decreases-loop-place
decreases-loop-place g l = left l.limit l.drives
