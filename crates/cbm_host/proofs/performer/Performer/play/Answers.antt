use Rattle.std.proofs.Common.{◌∙◌}
use Rattle.cbm_host.proofs.Going.{played}
use Rattle.cbm_host.proofs.Progress.{fall_due}
use Rattle.cbm_host.proofs.performer.Performer.play.Goals as goal
use Rattle.cbm_host.proofs.Recorded.{played_back}
use Rattle.cbm_drive.specs.Playback.{played_says, played_step, IsPlayedBack}

pub returns-clause-come : goal.returns-clause-come
returns-clause-come g c = λ u n ss es.
    played _ g.D.Machine.State g.D.Machine.stands g.D.Machine.step g.D.Machine.says c.args.self.now c.hand_on.new.self c.ask.new.self c.args.bus.now c.ask.new.bus c.args.change n ss es c.ask.result c.requires.due c.hand_on.ensures.second c.hand_on.ensures.from c.hand_on.ensures.engine
    c.hand_on.ensures.limit (c.hand_on.ensures.waits c.if-not-hand_on.false) (c.ask.ensures.come u n ss es) c.ask.ensures.asked.waiting

pub returns-clause-fewer : goal.returns-clause-fewer
returns-clause-fewer g c =
    fall_due c.ask.result c.args.self.now c.hand_on.new.self c.ask.new.self c.args.bus.now c.ask.new.bus c.args.change c.requires.due (c.ask.ensures.asked.engine ∙ c.hand_on.ensures.engine) c.hand_on.ensures.second c.hand_on.ensures.limit c.ask.ensures.asked.fewer

pub returns-clause-recorded : goal.returns-clause-recorded
returns-clause-recorded g c = λ one.
    let shows = g.D.Machine.shows in
    let come = c.ask.ensures.recorded one in (
      come.0,
      λ later n ss es.
          played_back _ _ _ (IsPlayedBack shows) played_step played_says come.0 later c.args.self.now c.hand_on.new.self c.ask.new.self c.args.bus.now c.ask.new.bus c.args.change n ss es c.ask.result c.requires.due c.hand_on.ensures.second
          c.hand_on.ensures.from c.hand_on.ensures.engine c.hand_on.ensures.limit (c.hand_on.ensures.waits c.if-not-hand_on.false) (come.1 later n ss es) c.ask.ensures.asked.waiting,
    )
