use Rattle.std.proofs.Common.{◌+◌, ap, ◌∙◌, arith, min, [], refl}
use Rattle.cbm_host.proofs.Going.{unmoved, unmoved_none}
use Rattle.cbm_host.proofs.performer.Performer.before.Goals as goal
use Rattle.cbm_host.specs.Performers.{Performing}
use Rattle.cbm_host.proofs.Recorded.{unmoved_back, unmoved_none_back}
use Rattle.cbm_drive.specs.Playback.{played_says, played_step, IsPlayedBack}

pub returns-in_err-upto-clause-come : goal.returns-in_err-upto-clause-come
returns-in_err-upto-clause-come g c = λ u n ss es.
    unmoved_none _ g.D.Machine.State g.D.Machine.stands g.D.Machine.step g.D.Machine.says c.args.self.now c.args.bus.now c.min.result c.args.until n ss es c.from_residual.result c.from_residual.ensures c.in_err-upto.ensures
    (c.min.ensures ∙ ap (λ (p : Performing). min c.args.until (p.limit + 1)) c.self.view_is)

pub returns-clause-come : goal.returns-clause-come
returns-clause-come g c = λ u n ss es.
    let some = c.in_ok-upto.ensures in
    let first = some.0 in
    let less = some.1 in
    let is = c.min.ensures ∙ ap (λ (p : Performing). min c.args.until (p.limit + 1)) c.self.view_is in
    unmoved _ g.D.Machine.State g.D.Machine.stands g.D.Machine.step g.D.Machine.says c.args.self.now c.heed.new.self c.args.bus.now c.heed.new.bus c.in_ok-upto.upto c.args.until n ss es c.heed.result c.requires.due (omega (arith, first, less, is)) (c.heed.ensures.come u n ss es)

pub returns-in_err-upto-clause-recorded : goal.returns-in_err-upto-clause-recorded
returns-in_err-upto-clause-recorded g c = λ one.
    let shows = g.D.Machine.shows in (
      [],
      λ later n ss es.
          unmoved_none_back _ _ _ (IsPlayedBack shows) played_step played_says [] later c.args.self.now c.args.bus.now c.min.result c.args.until n ss es c.from_residual.result refl c.from_residual.ensures c.in_err-upto.ensures
          (c.min.ensures ∙ ap (λ (p : Performing). min c.args.until (p.limit + 1)) c.self.view_is),
    )

pub returns-clause-recorded : goal.returns-clause-recorded
returns-clause-recorded g c = λ one.
    let shows = g.D.Machine.shows in
    let some = c.in_ok-upto.ensures in
    let first = some.0 in
    let less = some.1 in
    let is = c.min.ensures ∙ ap (λ (p : Performing). min c.args.until (p.limit + 1)) c.self.view_is in
    let come = c.heed.ensures.recorded one in (
      come.0,
      λ later n ss es.
          unmoved_back _ _ _ (IsPlayedBack shows) played_step played_says come.0 later c.args.self.now c.heed.new.self c.args.bus.now c.heed.new.bus c.in_ok-upto.upto c.args.until n ss es c.heed.result c.requires.due (omega (arith, first, less, is))
          (come.1 later n ss es),
    )
