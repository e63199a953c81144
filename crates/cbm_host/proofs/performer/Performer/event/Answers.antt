use Rattle.cbm_host.proofs.Going.{made_or_held}
use Rattle.std.proofs.Common.{ap, sym, ◌∙◌}
use Rattle.cbm_host.proofs.Recorded.{made_or_held_back}
use Rattle.cbm_host.proofs.performer.Performer.event.Goals as goal
use Rattle.cbm_host.specs.Engines.{engine_due}
use Rattle.cbm_host.specs.Performers.{Performing}
use Rattle.cbm_drive.specs.Playback.{played_says, played_step, IsPlayedBack}

-- the host's change that is due, or the drive's before it
pub returns-in-Makes-clause-recorded : goal.returns-in-Makes-clause-recorded
returns-in-Makes-clause-recorded g c = λ one.
    let shows = g.D.Machine.shows in
    let come = c.play.ensures.recorded one in (
      come.0,
      λ later n ss es k.
          made_or_held_back _ _ _ (IsPlayedBack shows) played_step played_says come.0 later c.args.self.now c.play.new.self c.args.bus.now c.play.new.bus n ss es c.in-Makes.change c.play.result (sym (c.in-Makes.ensures ∙ ap (λ (p : Performing). engine_due p.engine) c.self.view_is)) c.play.ensures.keeps.engine c.play.ensures.keeps.limit (come.1 later n ss es k) k,
    )

-- and so it is of the named machine, where it didn't fail
pub returns-in-Makes-clause-come : goal.returns-in-Makes-clause-come
returns-in-Makes-clause-come g c = λ u n ss es k.
    made_or_held _ g.D.Machine.State g.D.Machine.stands g.D.Machine.step g.D.Machine.says c.args.self.now c.play.new.self c.args.bus.now c.play.new.bus n ss es c.in-Makes.change c.play.result (sym (c.in-Makes.ensures ∙ ap (λ (p : Performing). engine_due p.engine) c.self.view_is)) c.play.ensures.keeps.engine c.play.ensures.keeps.limit (c.play.ensures.come u n ss es k) k
