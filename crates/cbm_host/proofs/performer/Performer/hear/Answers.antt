use Rattle.std.proofs.Common.{ap}
use Rattle.cbm_host.proofs.Going.{heard}
use Rattle.cbm_host.proofs.performer.Performer.hear.Goals as goal
use Rattle.cbm_host.specs.Performers.{Performing}
use Rattle.cbm_host.proofs.Recorded.{heard_back}
use Rattle.cbm_drive.specs.Playback.{played_says, played_step, IsPlayedBack}

pub returns-clause-come : goal.returns-clause-come
returns-clause-come g c = λ u n ss es.
    heard _ g.D.Machine.State g.D.Machine.stands g.D.Machine.step g.D.Machine.says c.args.self.now c.heed.new.self c.args.bus.now c.heed.new.bus c.self.inside.limit n ss es c.heed.result (ap (λ (p : Performing). p.limit) c.self.view_is) c.requires.due c.heed.ensures.heeded.engine c.heed.ensures.heeded.limit (c.heed.ensures.come u n ss es)

pub returns-clause-recorded : goal.returns-clause-recorded
returns-clause-recorded g c = λ one.
    let shows = g.D.Machine.shows in
    let come = c.heed.ensures.recorded one in (
      come.0,
      λ later n ss es.
          heard_back _ _ _ (IsPlayedBack shows) played_step played_says come.0 later c.args.self.now c.heed.new.self c.args.bus.now c.heed.new.bus c.self.inside.limit n ss es c.heed.result
          (ap (λ (p : Performing). p.limit) c.self.view_is) c.requires.due c.heed.ensures.heeded.engine c.heed.ensures.heeded.limit (come.1 later n ss es),
    )
