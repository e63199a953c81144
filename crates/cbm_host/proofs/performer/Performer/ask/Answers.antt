use Rattle.std.proofs.Common.{ap}
use Rattle.cbm_host.proofs.Going.{asked}
use Rattle.cbm_host.proofs.performer.Performer.ask.Goals as goal
use Rattle.cbm_host.specs.Performers.{Performing}
use Rattle.cbm_host.proofs.Recorded.{asked_back}
use Rattle.cbm_drive.specs.Playback.{played_says, played_step, IsPlayedBack}

pub returns-clause-come : goal.returns-clause-come
returns-clause-come g c = λ u n ss es.
    asked _ g.D.Machine.State g.D.Machine.stands g.D.Machine.step g.D.Machine.says c.args.self.now _ c.self.inside.player c.args.bus.now c.next.new.bus c.args.upto n ss es c.next.result
    (ap (λ (p : Performing). p.player) c.self.view_is) (ap (λ (p : Performing). p.engine) c.self.view_is) (ap (λ (p : Performing). p.limit) c.self.view_is) c.requires (c.next.ensures.gives.given u n ss es) c.next.ensures.event.turn c.next.ensures.event.waiting

-- what the drive showed is played back
pub returns-clause-recorded : goal.returns-clause-recorded
returns-clause-recorded g c = λ one.
    let shows = g.D.Machine.shows in
    let given = c.next.ensures.gives.recorded one in (
      given.0,
      λ later n ss es.
          asked_back _ _ _ (IsPlayedBack shows) played_step played_says given.0 later c.args.self.now _ c.self.inside.player c.args.bus.now c.next.new.bus c.args.upto n ss es c.next.result
          (ap (λ (p : Performing). p.player) c.self.view_is) (ap (λ (p : Performing). p.engine) c.self.view_is) (ap (λ (p : Performing). p.limit) c.self.view_is) c.requires (given.1 later n ss es) c.next.ensures.event.turn c.next.ensures.event.waiting,
    )
